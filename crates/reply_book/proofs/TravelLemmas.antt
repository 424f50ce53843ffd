-- What a card's travel came to stays, whatever follows in a legal history.
use Rattle.std.proofs.Common.{◌≡◌, ℕ, ℤ, Bool, true, false, ◌&&◌, ◌||◌, List, [], ◌∷◌, ◌++◌, length, refl, sym, ap, ◌∙◌}
use Rattle.std.proofs.Common.{subst, inl, inr}
use Rattle.std.proofs.lemmas.List.{append-nil, append_assoc}
use Rattle.std.proofs.lemmas.List.Folds.{list_any-append}
use Rattle.oyster_account.specs.declared.touch.Act.{Act}
use Rattle.oyster_account.specs.declared.reply.Judged.{Judged}
use Rattle.oyster_account.specs.Touch.{is_revision}
use Rattle.oyster_account.specs.History.{is_accepted, accepted}
use Rattle.oyster_account.specs.Scheme.{Scheme}
use Rattle.oyster_account.specs.Travel.{travel}
use Rattle.oyster_account.specs.Judge.{has_reached, is_day_bad}
use Rattle.oyster_account.specs.Order.{IsInOrder}
use Rattle.oyster_account.proofs.AgreementLemmas.{order-before, travel-agrees}
use Rattle.oyster_account.proofs.LawLemmas.{ahead, view-kept}
use Rattle.reply_book.specs.Tables.{Tables, scheme_after}
use Rattle.reply_book.specs.Legal.{IsLegal, judge_after}
use Rattle.reply_book.specs.Laws.{IsSameBy, DoesTravelStay}
use Rattle.reply_book.proofs.PlaceLemmas.{slice_get-behind, take-front}
use Rattle.reply_book.proofs.LegalLemmas.{legal-take}
use Rattle.reply_book.proofs.RevisionLemmas.{scheme-unchanged}
use Rattle.reply_book.proofs.OrderLemmas.{IsAhead, revision-ahead, legal-orderly}

-- a day that the later history allows a revision from is one that the earlier allows
abbrev IsWithin : List Judged → List Judged → Type 0
IsWithin history before =
    (scheme : Scheme) (day : ℤ) → is_day_bad scheme before day ≡ false → is_day_bad scheme history day ≡ false

left-false : (a b : Bool) → (a || b) ≡ false → a ≡ false
left-false false b is = refl
left-false true b is = absurd cc

within-push : (history before : List Judged) (judged : Judged) → IsWithin history before
    → IsWithin history (before ++ judged ∷ [])
within-push history before judged within scheme day good =
    let reaches : Judged → Bool = λ (j : Judged). is_accepted j.reply && has_reached scheme day j.touch.act in
    within scheme day
    (left-false (is_day_bad scheme before day) (is_day_bad scheme (judged ∷ []) day)
    (sym (list_any-append reaches before (judged ∷ [])) ∙ good))

-- one entry more changes nothing of the travel before
same-push : (tables : Tables) (cards card : ℕ) (history before : List Judged) (judged : Judged)
    → judged.reply ≡ judge_after tables cards before judged.touch → IsWithin history before
    → IsInOrder (travel (scheme_after tables history) (accepted card history))
    → IsSameBy (scheme_after tables history) (scheme_after tables before) (accepted card history)
    → IsSameBy (scheme_after tables history) (scheme_after tables (before ++ judged ∷ [])) (accepted card history)
same-push tables cards card history before judged reply within order same = by_test (is_revision judged.touch.act) refl
  where
    acts : List Act
    acts = accepted card history

    first : Scheme
    first = scheme_after tables history

    scheme : Scheme
    scheme = scheme_after tables before

    revised : Scheme
    revised = scheme_after tables (before ++ judged ∷ [])

    unchanged : revised ≡ scheme → IsSameBy first revised acts
    unchanged is = subst (λ (s : Scheme). IsSameBy first s acts) (sym is) same

    by_revision : IsAhead tables before judged → IsSameBy first revised acts
    by_revision (inl is) = unchanged is
    by_revision (inr there) =
        let in_order : IsInOrder (travel scheme acts) = subst IsInOrder (sym same.travelled) order in
        let newest = ahead scheme history there.0 card (within scheme there.0 there.2) in
        let earlier = order-before there.0 (travel scheme acts) in_order newest in
        record {
          travelled = travel-agrees there.0 scheme revised there.1 acts earlier ∙ same.travelled;
          seen = view-kept there.0 scheme revised acts there.1 in_order newest ∙ same.seen;
        }

    by_test : (b : Bool) → is_revision judged.touch.act ≡ b → IsSameBy first revised acts
    by_test true is = by_revision (revision-ahead tables cards before judged reply is)
    by_test false is =
        unchanged (scheme-unchanged tables before judged (ap (λ b. b && is_accepted judged.reply) is))

-- and nor do all that follow
same-after : (tables : Tables) (cards card : ℕ) (history before rest : List Judged)
    → IsLegal tables cards (before ++ rest) → IsWithin history before
    → IsInOrder (travel (scheme_after tables history) (accepted card history))
    → IsSameBy (scheme_after tables history) (scheme_after tables before) (accepted card history)
    → IsSameBy (scheme_after tables history) (scheme_after tables (before ++ rest)) (accepted card history)
same-after tables cards card history before [] legal within order same =
    subst (λ h. IsSameBy (scheme_after tables history) (scheme_after tables h) (accepted card history))
    (sym (append-nil before)) same
same-after tables cards card history before (judged ∷ rest) legal within order same =
    let reply : judged.reply ≡ judge_after tables cards before judged.touch =
    legal.replies (length before) judged (slice_get-behind before judged rest)
    ∙ ap (λ (h : List Judged). judge_after tables cards h judged.touch) (take-front before (judged ∷ rest)) in
    let joined : (before ++ judged ∷ []) ++ rest ≡ before ++ judged ∷ rest =
    append_assoc before (judged ∷ []) rest in
    subst (λ h. IsSameBy (scheme_after tables history) (scheme_after tables h) (accepted card history)) joined
    (same-after tables cards card history (before ++ judged ∷ []) rest
    (subst (IsLegal tables cards) (sym joined) legal) (within-push history before judged within) order
    (same-push tables cards card history before judged reply within order same))

pub travel-stays : DoesTravelStay
travel-stays tables cards history more card legal =
    let legal_before : IsLegal tables cards history =
    subst (IsLegal tables cards) (take-front history more)
    (legal-take tables cards (history ++ more) (length history) legal) in
    same-after tables cards card history history more legal (λ scheme day good. good)
    (legal-orderly tables cards history legal_before card) (record { travelled = refl; seen = refl })
