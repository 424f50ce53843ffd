-- The touches of a card among the entries of a book, one entry more.
use Rattle.std.proofs.Common.{◌≡◌, ℕ, ◌+◌, ◌<◌, List, [], ◌∷◌, ◌++◌, length, drop, sym, ap, ◌∙◌}
use Rattle.std.proofs.Common.{append_assoc, arith, inl, inr, Some, None}
use Rattle.std.specs.Prelude.{slice_get}
use Rattle.std.proofs.lemmas.List.{drop_more}
use Rattle.std.proofs.lemmas.Option.{get_or_from_slice_get, slice_get_cases}
use Rattle.std.proofs.lemmas.List.Elements.{filter-append}
use Rattle.oyster_account.specs.declared.reply.Judged.{Judged}
use Rattle.oyster_account.specs.Touch.{is_of}
use Rattle.oyster_account.specs.History.{of_card}
use Rattle.reply_book.specs.declared.entry.Entry.{Entry}
use Rattle.reply_book.specs.Legal.{history_of}

-- the touches so far, that of an entry and those that are left are all
pub own-next : (card : ℕ) (entries : List Entry) (place : ℕ) (entry : Entry) (before all : List Judged)
    → place < length entries → slice_get entries place ≡ Some entry
    → before ++ of_card card (history_of (drop place entries)) ≡ all
    → (before ++ of_card card (history_of (entry ∷ []))) ++ of_card card (history_of (drop (place + 1) entries)) ≡ all
own-next card entries place entry before all below at is =
    let later : List Judged = history_of (drop (place + 1) entries) in
    let left : drop place entries ≡ entry ∷ drop (place + 1) entries =
    drop_more entries place entry below
    ∙ ap (λ e. e ∷ drop (place + 1) entries) (get_or_from_slice_get entries place entry entry at) in
    append_assoc before (of_card card (history_of (entry ∷ []))) (of_card card later)
    ∙ ap (λ l. before ++ l)
    (sym (filter-append (λ (judged : Judged). is_of card judged.touch) (history_of (entry ∷ [])) later)
    ∙ ap (λ (es : List Entry). of_card card (history_of es)) (sym left))
    ∙ is

-- there is an entry at each place
pub entry-there : (entries : List Entry) (place : ℕ) → place < length entries → slice_get entries place ≡ None → ⊥
entry-there entries place below none =
    elim (slice_get_cases entries place).1 [
      | inl there ↦ let is : slice_get entries place ≡ Some there.0 = there.2 in absurd cc
      | inr past ↦ absurd (omega (arith, below, past.0))
    ]
