-- The sums of each card go on being those over its touches.
use Rattle.std.proofs.Common.{◌≡◌, ℕ, zero, suc, ◌+◌, ◌-◌, ◌<◌, ◌≤◌, true, false, cond, ◌&&◌, ◌==◌, inl, inr, List, []}
use Rattle.std.proofs.Common.{◌∷◌, ◌++◌, length, get_or, take, replicate, slice_set, refl, sym, ap, subst, ◌∙◌, arith}
use Rattle.std.proofs.Common.{Some, None}
use Rattle.std.proofs.lemmas.Bool.{cases_eq}
use Rattle.std.proofs.lemmas.Bool.Decides.{nat_tests}
use Rattle.std.proofs.lemmas.Option.{slice_get_within, slice_get-get_or, get_or_from_slice_get, slice_get_read}
use Rattle.std.proofs.lemmas.List.{map-append, get_or-set_same, get_or-set_other, length-set, append-nil, take_more}
use Rattle.std.proofs.lemmas.List.Elements.{filter-append}
use Rattle.std.proofs.lemmas.List.Sums.{sum_by_push, sum_by-cons}
use Rattle.std.specs.Prelude.{slice_get, sum_by, filter}
use Rattle.oyster_account.specs.declared.reply.Judged.{Judged}
use Rattle.oyster_account.specs.History.{counts_for, is_accepted}
use Rattle.oyster_account.specs.Balance.{pence_paid}
use Rattle.reply_book.proofs.CardLemmas.{not-of}
use Rattle.reply_book.specs.declared.entry.Entry.{Entry}
use Rattle.reply_book.specs.Legal.{history_of}
use Rattle.journal_audit.specs.declared.balances.sums.Sums.{Sums}
use Rattle.journal_audit.specs.Sums.{pence_taken, pence_returned, moved, sums_over, sums_of, plus, pence_moved}
use Rattle.journal_audit.specs.Sums.{AreSumsOf}

-- one touch more at the end of a list
sums_over-push : (judged : List Judged) (j : Judged) → sums_over (judged ++ j ∷ []) ≡ plus (sums_over judged) (moved j)
sums_over-push judged j =
    let paid = sum_by_push (λ (j : Judged). pence_paid j.touch.act) judged j in
    let taken = sum_by_push (λ (j : Judged). pence_taken j.touch.act j.reply.change) judged j in
    let returned = sum_by_push (λ (j : Judged). pence_returned j.touch.act j.reply.change) judged j in
    cc

-- a touch that counts for a card is added to its sums
pub sums_of-own : (card : ℕ) (history : List Judged) (j : Judged) → counts_for card j ≡ true
    → sums_of card (history ++ j ∷ []) ≡ plus (sums_of card history) (moved j)
unfolding sums_of
sums_of-own card history j own =
    ap sums_over (filter-append (counts_for card) history (j ∷ []))
    ∙ ap (λ b. sums_over (filter (counts_for card) history ++ cond b (j ∷ []) [])) own
    ∙ sums_over-push (filter (counts_for card) history) j

-- any other leaves them
pub sums_of-other : (card : ℕ) (history : List Judged) (j : Judged) → counts_for card j ≡ false
    → sums_of card (history ++ j ∷ []) ≡ sums_of card history
unfolding sums_of
sums_of-other card history j other =
    ap sums_over (filter-append (counts_for card) history (j ∷ []))
    ∙ ap (λ b. sums_over (filter (counts_for card) history ++ cond b (j ∷ []) [])) other
    ∙ ap sums_over (append-nil (filter (counts_for card) history))

-- a touch with another number doesn't count for this card
pub counts-not : (card : ℕ) (j : Judged) → (j.touch.card ≡ card → ⊥) → counts_for card j ≡ false
counts-not card j ne =
    let other : (j.touch.card == card) ≡ false = grind (arith, nat_tests, ne) in
    ap (λ b. b && is_accepted j.reply) (not-of card j.touch other)

-- nor one that doesn't count for the card of its own number
pub counts-none : (card : ℕ) (j : Judged) → counts_for j.touch.card j ≡ false → counts_for card j ≡ false
counts-none card j none =
    elim (cases_eq j.touch.card card) [
      | inl same ↦ subst (λ n. counts_for n j ≡ false) same none
      | inr ne ↦ counts-not card j ne
    ]

-- where a touch counts for none of the cards, the sums go on being theirs
pub AreSumsOf-none : (history : List Judged) (all : List Sums) (j : Judged)
    → ((place : ℕ) → place < length all → counts_for (place + 1) j ≡ false)
    → AreSumsOf history all → AreSumsOf (history ++ j ∷ []) all
AreSumsOf-none history all j none are place sums at =
    are place sums at ∙ sym (sums_of-other (place + 1) history j (none place (slice_get_within all place sums at)))

-- what stands at the place that was written, and at another
put_same : (all : List Sums) (place : ℕ) (new sums : Sums) → place < length all
    → slice_get (slice_set all place new) place ≡ Some sums → sums ≡ new
put_same all place new sums within at =
    sym (get_or_from_slice_get (slice_set all place new) place sums new at)
    ∙ get_or-set_same all place new new within

put_other : (all : List Sums) (place other : ℕ) (new sums : Sums) → (other ≡ place → ⊥)
    → slice_get (slice_set all place new) other ≡ Some sums → slice_get all other ≡ Some sums
put_other all place other new sums ne at =
    let within : other < length all = omega
    (arith, slice_get_within (slice_set all place new) other sums at, length-set {A = Sums}) in
    let read : sums ≡ get_or all other sums = sym (get_or_from_slice_get (slice_set all place new) other sums
    sums at) ∙ get_or-set_other all place other new sums ne in
    slice_get_read all (length all) other sums refl within read

-- where it counts for a card, that card's sums have it
pub AreSumsOf-own : (history : List Judged) (all : List Sums) (j : Judged) (d : Sums) → counts_for j.touch.card j ≡ true
    → (j.touch.card ≡ 0 → ⊥) → j.touch.card ≤ length all → AreSumsOf history all
    → AreSumsOf (history ++ j ∷ [])
    (slice_set all (j.touch.card - 1) (plus (get_or all (j.touch.card - 1) d) (moved j)))
AreSumsOf-own history all j d own some few are place sums at =
    let seat = j.touch.card - 1 in
    let new = plus (get_or all seat d) (moved j) in
    let within : seat < length all = omega arith in
    elim (cases_eq place seat) [
      | inl same ↦
          let here : slice_get (slice_set all seat new) seat ≡ Some sums =
          ap (slice_get (slice_set all seat new)) (sym same) ∙ at in
          let number : j.touch.card ≡ place + 1 = omega arith in
          let counts : counts_for (place + 1) j ≡ true = subst (λ n. counts_for n j ≡ true) number own in
          let stood : slice_get all place ≡ Some (get_or all seat d) =
          ap (slice_get all) same ∙ slice_get-get_or all seat d within in
          put_same all seat new sums within here
          ∙ ap (λ s. plus s (moved j)) (are place (get_or all seat d) stood)
          ∙ sym (sums_of-own (place + 1) history j counts)
      | inr ne ↦
          let other : j.touch.card ≡ place + 1 → ⊥ = λ is. ne (omega arith) in
          are place sums (put_other all seat place new sums ne at)
          ∙ sym (sums_of-other (place + 1) history j (counts-not (place + 1) j other))
    ]

-- before the first touch each card has moved nothing
pub AreSumsOf-nothing : (count : ℕ) → AreSumsOf [] (replicate count (record { paid_in = 0; taken = 0; returned = 0 }))
unfolding sums_of
AreSumsOf-nothing zero place sums at = absurd cc
AreSumsOf-nothing (suc count) zero sums at = cc
AreSumsOf-nothing (suc count) (suc place) sums at = AreSumsOf-nothing count place sums at

-- and so have all together
pub moved-nothing : (count : ℕ)
    → sum_by pence_moved (replicate count (record { paid_in = 0; taken = 0; returned = 0 })) ≡ 0
moved-nothing zero = refl
moved-nothing (suc count) =
    omega (
      arith,
      moved-nothing count,
      sum_by-cons pence_moved (record { paid_in = 0; taken = 0; returned = 0 })
          (replicate count (record { paid_in = 0; taken = 0; returned = 0 })),
    )

-- the history of one entry more
pub history-more : (entries : List Entry) (place : ℕ) (entry : Entry) → slice_get entries place ≡ Some entry
    → history_of (take (place + 1) entries)
    ≡ history_of (take place entries) ++ record { touch = entry.touch; reply = entry.reply } ∷ []
history-more entries place entry at =
    let within = slice_get_within entries place entry at in
    let read : get_or entries place entry ≡ entry = get_or_from_slice_get entries place entry entry at in
    ap history_of (take_more entries place entry within ∙ ap (λ e. take place entries ++ e ∷ []) read)
    ∙ map-append (λ (e : Entry). record { touch = e.touch; reply = e.reply }) (take place entries) (entry ∷ [])

-- where nothing stands at a place, the list is all before it
pub all-before : {X : Type 0} (xs : List X) (place : ℕ) → slice_get xs place ≡ None → take place xs ≡ xs
all-before [] zero is = refl
all-before [] (suc place) is = refl
all-before (x ∷ xs) zero is = absurd cc
all-before (x ∷ xs) (suc place) is = ap (λ l. x ∷ l) (all-before xs place is)

-- as many sums as cards
pub length-nothing : (count : ℕ)
    → length (replicate count (let none : Sums = record { paid_in = 0; taken = 0; returned = 0 } in none)) ≡ count
length-nothing zero = refl
length-nothing (suc count) = omega (arith, length-nothing count)
