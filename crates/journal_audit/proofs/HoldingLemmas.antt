-- After a legal history each card holds what was paid in on it, less what it was charged.
use Rattle.std.proofs.Common.{◌≡◌, inl, inr, ℕ, ℤ, pos, negsuc, ◌+ℤ◌, ◌-ℤ◌, Bool, true, false, not, cond, ◌&&◌, ◌==◌}
use Rattle.std.proofs.Common.{List, [], ◌∷◌, ◌++◌, length, refl, sym, ap, subst, ◌∙◌, arith, Option, Some, None}
use Rattle.std.proofs.lemmas.Int.{ints}
use Rattle.std.proofs.lemmas.List.{append-nil, append_assoc}
use Rattle.std.proofs.lemmas.List.Sums.{sum_by-cons}
use Rattle.oyster_account.specs.declared.reply.Judged.{Judged}
use Rattle.oyster_account.specs.declared.reply.Reply.{Reply}
use Rattle.oyster_account.specs.declared.touch.Act.{Act}
use Rattle.oyster_account.specs.declared.touch.Act.TheVariants.{Enter, Leave, TopUp, Issue, Revise}
use Rattle.oyster_account.specs.declared.verdict.Refusal.{Refusal}
use Rattle.oyster_account.specs.declared.verdict.Refusal.TheVariants.{UnknownCard, AlreadyIssued, UnknownStation}
use Rattle.oyster_account.specs.declared.verdict.Refusal.TheVariants.{Backwards, LowBalance, BadAmount, OverLimit}
use Rattle.oyster_account.specs.declared.verdict.Refusal.TheVariants.{BadDay}
use Rattle.oyster_account.specs.Balance.{pence_paid, balance, is_issued, view}
use Rattle.oyster_account.specs.History.{accepted, counts_for, is_accepted}
use Rattle.oyster_account.specs.Judge.{is_card, judge, reply_by, refused}
use Rattle.oyster_account.specs.Order.{IsInOrder}
use Rattle.oyster_account.specs.Refusal.{refusal}
use Rattle.oyster_account.specs.Scheme.{Scheme}
use Rattle.oyster_account.specs.Touch.{is_of, is_revision}
use Rattle.oyster_account.specs.Travel.{travel}
use Rattle.oyster_account.proofs.AgreementLemmas.{order-before, balance-agrees}
use Rattle.oyster_account.proofs.LawLemmas.{ahead, others-nothing}
use Rattle.reply_book.specs.Legal.{IsLegal, judge_after}
use Rattle.reply_book.specs.Tables.{Tables, scheme_after}
use Rattle.reply_book.proofs.CardLemmas.{revision-not-of, reply-of_card}
use Rattle.reply_book.proofs.LegalLemmas.{legal-take}
use Rattle.reply_book.proofs.NameLemmas.{both, equal}
use Rattle.reply_book.proofs.OrderLemmas.{IsAhead, revision-ahead, legal-orderly, accepted-push}
use Rattle.reply_book.proofs.PlaceLemmas.{slice_get-behind, take-front}
use Rattle.reply_book.proofs.RevisionLemmas.{scheme-unchanged}
use Rattle.journal_audit.specs.declared.balances.sums.Sums.{Sums}
use Rattle.journal_audit.specs.Sums.{fall, rise, pence_taken, pence_returned, moved, sums_of, left_in, plus}
use Rattle.journal_audit.proofs.SumLemmas.{sums_of-own, sums_of-other}

-- ---- one touch

-- what is left, with what one touch more moved
left-plus : (sums more : Sums) → left_in (plus sums more) ≡ left_in sums +ℤ left_in more
left-plus sums more = omega (arith, ints)

-- a change is what was given back, less what was taken
change-moved : (change : ℤ) → (pos 0 -ℤ (pos (fall change) -ℤ pos (rise change))) ≡ change
change-moved (pos n) = omega (arith, ints)
change-moved (negsuc n) = omega (arith, ints)

-- what an act moves, by its change
abbrev moved-by : Act → ℤ → Sums
moved-by act change = record {
  paid_in = pence_paid act;
  taken = pence_taken act change;
  returned = pence_returned act change;
}

-- where the change is that of the balance, so is what is left of what it moved
left-moved : (scheme : Scheme) (acts : List Act) (act : Act) (change : ℤ)
    → change ≡ (balance scheme (act ∷ acts) -ℤ balance scheme acts)
    → left_in (moved-by act change) ≡ (balance scheme (act ∷ acts) -ℤ balance scheme acts)
left-moved scheme acts (Enter s m) change is = change-moved change ∙ is
left-moved scheme acts (Leave s m) change is = change-moved change ∙ is
left-moved scheme acts (TopUp p m) change is = omega (arith, ints, sum_by-cons pence_paid (TopUp p m) acts)
left-moved scheme acts (Issue m) change is = change-moved change ∙ is
left-moved scheme acts (Revise d m g) change is = change-moved change ∙ is

-- no refusal is an acceptance
not-accepted : (cause : Refusal) (seen : ℤ) → is_accepted (refused cause seen) ≡ true → ⊥
not-accepted UnknownCard seen is = absurd cc
not-accepted AlreadyIssued seen is = absurd cc
not-accepted UnknownStation seen is = absurd cc
not-accepted Backwards seen is = absurd cc
not-accepted LowBalance seen is = absurd cc
not-accepted BadAmount seen is = absurd cc
not-accepted OverLimit seen is = absurd cc
not-accepted BadDay seen is = absurd cc

-- an accepted act's change is that of the balance
change-granted : (scheme : Scheme) (acts : List Act) (act : Act) (found : Option Refusal)
    → is_accepted (reply_by scheme acts act found) ≡ true
    → (reply_by scheme acts act found).change ≡ (balance scheme (act ∷ acts) -ℤ balance scheme acts)
change-granted scheme acts act None is = refl
change-granted scheme acts act (Some cause) is = absurd (not-accepted cause (view scheme acts).balance is)

-- so is that of an accepted touch of a card, which there is then
change-judged : (scheme : Scheme) (acts : List Act) (judged : Judged) (known : Bool)
    → judged.reply ≡ cond known (judge scheme acts judged.touch.act) (refused UnknownCard (pos 0))
    → is_accepted judged.reply ≡ true
    → judged.reply.change ≡ (balance scheme (judged.touch.act ∷ acts) -ℤ balance scheme acts)
change-judged scheme acts judged true is accepted_is =
    ap (λ (reply : Reply). reply.change) is
    ∙ change-granted scheme acts judged.touch.act
    (refusal scheme (is_issued acts) (travel scheme acts) (balance scheme acts) judged.touch.act)
    (ap is_accepted (sym is) ∙ accepted_is)
change-judged scheme acts judged false is accepted_is =
    absurd (not-accepted UnknownCard (pos 0) (ap is_accepted (sym is) ∙ accepted_is))

-- ---- a history

-- what is left of what was paid in on each card is its balance by the account
abbrev pub IsHeld : Tables → List Judged → Type 0
IsHeld tables history =
    (card : ℕ) → left_in (sums_of card history) ≡ balance (scheme_after tables history) (accepted card history)

held-none : (tables : Tables) → IsHeld tables []
unfolding sums_of
held-none tables card = refl

-- a revision moves nothing, and leaves each balance
held-revised : (tables : Tables) (history : List Judged) (judged : Judged) → is_revision judged.touch.act ≡ true
    → IsAhead tables history judged
    → ((card : ℕ) → IsInOrder (travel (scheme_after tables history) (accepted card history)))
    → IsHeld tables history → IsHeld tables (history ++ judged ∷ [])
held-revised tables history judged is aside order held card =
    ap left_in (sums_of-other card history judged (ap (λ b. b && is_accepted judged.reply) none))
    ∙ held card ∙ sym (same aside)
    ∙ ap (balance revised) (sym (others-nothing card history judged none))
  where
    none : is_of card judged.touch ≡ false
    none = revision-not-of card judged.touch is

    acts : List Act
    acts = accepted card history

    scheme : Scheme
    scheme = scheme_after tables history

    revised : Scheme
    revised = scheme_after tables (history ++ judged ∷ [])

    same : IsAhead tables history judged → balance revised acts ≡ balance scheme acts
    same (inl unchanged) = ap (λ (s : Scheme). balance s acts) unchanged
    same (inr there) =
        balance-agrees there.0 scheme revised there.1 acts
        (order-before there.0 (travel scheme acts) (order card) (ahead scheme history there.0 card there.2))

-- any other touch moves what its reply says, where it counts
held-of_card : (tables : Tables) (cards : ℕ) (history : List Judged) (judged : Judged)
    → judged.reply ≡ judge_after tables cards history judged.touch → is_revision judged.touch.act ≡ false
    → IsHeld tables history → IsHeld tables (history ++ judged ∷ [])
held-of_card tables cards history judged reply is held card =
    by_test (counts_for card judged) refl
    ∙ ap (λ (s : Scheme). balance s (accepted card (history ++ judged ∷ []))) (sym unchanged)
  where
    scheme : Scheme
    scheme = scheme_after tables history

    acts : List Act
    acts = accepted card history

    unchanged : scheme_after tables (history ++ judged ∷ []) ≡ scheme
    unchanged = scheme-unchanged tables history judged (ap (λ b. b && is_accepted judged.reply) is)

    given : judged.reply ≡ cond (is_card cards judged.touch.card)
        (judge scheme (accepted judged.touch.card history) judged.touch.act) (refused UnknownCard (pos 0))
    given = reply ∙ reply-of_card scheme cards history judged.touch judged.touch.act is

    changed : counts_for card judged ≡ true
        → judged.reply.change ≡ (balance scheme (judged.touch.act ∷ acts) -ℤ balance scheme acts)
    changed counts =
        let parts = both (is_of card judged.touch) (is_accepted judged.reply) counts in
        let own : judged.touch.card ≡ card =
        equal judged.touch.card card
        (both (not (is_revision judged.touch.act)) (judged.touch.card == card) parts.0).1 in
        let by_number = λ (n : ℕ).
        judged.reply.change
        ≡ (balance scheme (judged.touch.act ∷ accepted n history) -ℤ balance scheme (accepted n history)) in
        subst by_number own
        (change-judged scheme (accepted judged.touch.card history) judged
        (is_card cards judged.touch.card) given parts.1)

    whole : (old new : ℤ) → (old +ℤ (new -ℤ old)) ≡ new
    whole old new = omega (arith, ints)

    by_test : (b : Bool) → counts_for card judged ≡ b
        → left_in (sums_of card (history ++ judged ∷ []))
        ≡ balance scheme (accepted card (history ++ judged ∷ []))
    by_test false counts =
        ap left_in (sums_of-other card history judged counts) ∙ held card
        ∙ ap (balance scheme) (sym (accepted-push card history judged
        ∙ ap (λ b. cond b (judged.touch.act ∷ acts) acts) counts))
    by_test true counts =
        ap left_in (sums_of-own card history judged counts)
        ∙ left-plus (sums_of card history) (moved judged)
        ∙ ap (λ n. n +ℤ left_in (moved judged)) (held card)
        ∙ ap (λ n. balance scheme acts +ℤ n)
        (left-moved scheme acts judged.touch.act judged.reply.change (changed counts))
        ∙ whole (balance scheme acts) (balance scheme (judged.touch.act ∷ acts))
        ∙ ap (balance scheme) (sym (accepted-push card history judged
        ∙ ap (λ b. cond b (judged.touch.act ∷ acts) acts) counts))

held-push : (tables : Tables) (cards : ℕ) (history : List Judged) (judged : Judged)
    → judged.reply ≡ judge_after tables cards history judged.touch → IsLegal tables cards history
    → IsHeld tables history → IsHeld tables (history ++ judged ∷ [])
held-push tables cards history judged reply legal held = by_test (is_revision judged.touch.act) refl
  where
    by_test : (b : Bool) → is_revision judged.touch.act ≡ b → IsHeld tables (history ++ judged ∷ [])
    by_test true is =
        held-revised tables history judged is (revision-ahead tables cards history judged reply is)
        (legal-orderly tables cards history legal) held
    by_test false is = held-of_card tables cards history judged reply is held

held-after : (tables : Tables) (cards : ℕ) (before rest : List Judged) → IsLegal tables cards (before ++ rest)
    → IsHeld tables before → IsHeld tables (before ++ rest)
held-after tables cards before [] legal held = subst (IsHeld tables) (sym (append-nil before)) held
held-after tables cards before (judged ∷ rest) legal held =
    let reply : judged.reply ≡ judge_after tables cards before judged.touch =
    legal.replies (length before) judged (slice_get-behind before judged rest)
    ∙ ap (λ (h : List Judged). judge_after tables cards h judged.touch) (take-front before (judged ∷ rest)) in
    let legal_before : IsLegal tables cards before =
    subst (IsLegal tables cards) (take-front before (judged ∷ rest))
    (legal-take tables cards (before ++ judged ∷ rest) (length before) legal) in
    let whole : (before ++ judged ∷ []) ++ rest ≡ before ++ judged ∷ rest = append_assoc before (judged ∷ []) rest in
    subst (IsHeld tables) whole
    (held-after tables cards (before ++ judged ∷ []) rest (subst (IsLegal tables cards) (sym whole) legal)
    (held-push tables cards before judged reply legal_before held))

-- after a legal history each card holds what was paid in, less what was charged
pub legal-held : (tables : Tables) (cards : ℕ) (history : List Judged) → IsLegal tables cards history
    → IsHeld tables history
legal-held tables cards history legal = held-after tables cards [] history legal (held-none tables)
