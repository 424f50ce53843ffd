-- A legal history's accepted travel is in order for each card, and a revision changes nothing of what is seen.
use Rattle.std.proofs.Common.{◌≡◌, ℕ, ℤ, ◌<ℤ◌, Bool, true, false, not, ◌&&◌, ◌==◌, cond, List, [], ◌∷◌, ◌++◌, map}
use Rattle.std.proofs.Common.{filter, reverse, refl, sym, ap, ◌∙◌, subst, arith, pos, Some, None, ◌⊎◌, inl, inr}
use Rattle.std.proofs.lemmas.List.{append-nil, reverse-append}
use Rattle.std.specs.List.{All, cons_option}
use Rattle.std.proofs.lemmas.List.Elements.{All-tail}
use Rattle.fare_table.specs.Fare.{stamp_of, stamp_with}
use Rattle.fare_table.specs.Fares.{content_of}
use Rattle.fare_table.specs.declared.fares.Fares.{Fares}
use Rattle.fare_schedule.specs.InForce.{Revision}
use Rattle.fare_schedule.specs.InForce.{table_by as table_of_last}
use Rattle.fare_schedule.proofs.InForceLemmas.{last-before}
use Rattle.oyster_account.specs.declared.touch.Act.{Act}
use Rattle.oyster_account.specs.declared.touch.Act.TheVariants.{Enter, Leave, TopUp, Issue, Revise}
use Rattle.oyster_account.specs.declared.touch.Touch.{Touch}
use Rattle.oyster_account.specs.declared.reply.Reply.{Reply}
use Rattle.oyster_account.specs.declared.reply.Judged.{Judged}
use Rattle.oyster_account.specs.declared.reply.CardView.{CardView}
use Rattle.oyster_account.specs.declared.verdict.Refusal.TheVariants.{UnknownCard, BadDay}
use Rattle.oyster_account.specs.declared.verdict.Acceptance.TheVariants.{Revised}
use Rattle.oyster_account.specs.Touch.{is_revision, is_of}
use Rattle.oyster_account.specs.History.{is_accepted, accepted, accepted_acts, counts_for}
use Rattle.oyster_account.specs.Scheme.{Scheme, terms_of}
use Rattle.oyster_account.specs.Travel.{travel}
use Rattle.oyster_account.specs.Balance.{view}
use Rattle.oyster_account.specs.Judge.{is_day_bad, is_card, judge, judge_touch, reply_for, refused, granted}
use Rattle.oyster_account.specs.Order.{IsInOrder}
use Rattle.oyster_account.specs.Agreement.{AgreeBefore}
use Rattle.oyster_account.proofs.AgreementLemmas.{order-before, travel-agrees}
use Rattle.oyster_account.proofs.LawLemmas.{never-back, ahead, view-kept, others-nothing}
use Rattle.reply_book.specs.Tables.{Tables, first_alone, revision_of, revisions_after, table_by, scheme_by}
use Rattle.reply_book.specs.Tables.{scheme_after}
use Rattle.reply_book.specs.Legal.{IsLegal, touches_in, judge_after, judged_after, book_after}
use Rattle.reply_book.specs.View.{view_after, no_view}
use Rattle.reply_book.specs.Laws.{DoRevisionsAloneRevise, AreRevisionsUnseen, IsBookOfTheFirst}
use Rattle.reply_book.proofs.RevisionLemmas.{revisions-push, revisions-unchanged, scheme-unchanged}
use Rattle.reply_book.proofs.LegalLemmas.{legal-is_book}
use Rattle.reply_book.proofs.CardLemmas.{revision-not-of, reply-of_card}
use Rattle.reply_book.proofs.NameLemmas.{both, equal}

-- ---- before the day of a revision

-- before the day of one more revision the tables in force are the same
table-before : (tables : Tables) (revisions : List Revision) (accepted : Bool) (r : Revision) (earlier : ℤ)
    → earlier <ℤ r.day
    → table_by tables (revisions ++ cons_option (cond accepted (Some r) None) []) earlier ≡ table_by tables revisions
    earlier
table-before tables revisions false r earlier below = ap (λ rs. table_by tables rs earlier) (append-nil revisions)
table-before tables revisions true r earlier below =
    ap (table_of_last tables.first tables.supplied) (last-before earlier revisions r below)

-- and so is the scheme
agree-before : (tables : Tables) (revisions more : List Revision) (day : ℤ)
    → ((earlier : ℤ) → earlier <ℤ day → table_by tables more earlier ≡ table_by tables revisions earlier)
    → AgreeBefore day (scheme_by tables revisions) (scheme_by tables more)
agree-before tables revisions more day same = record {
  stamp = λ moment below.
      ap (λ (t : Fares). stamp_with (content_of tables.first) (content_of t) moment)
      (same (stamp_of (content_of tables.first) moment).day below);
  on = λ earlier below. ap (λ (t : Fares). terms_of (content_of t)) (same earlier below);
}

-- ---- a revision

-- what a revision that was judged does to the scheme: nothing, or nothing before a day that no accepted travel
-- has reached
abbrev pub IsAhead : Tables → List Judged → Judged → Type 0
IsAhead tables history judged =
    (scheme_after tables (history ++ judged ∷ []) ≡ scheme_after tables history)
    ⊎ ((day : ℤ) × AgreeBefore day (scheme_after tables history) (scheme_after tables (history ++ judged ∷ []))
    × (is_day_bad (scheme_after tables history) history day ≡ false))

pub revision-ahead : (tables : Tables) (cards : ℕ) (history : List Judged) (judged : Judged)
    → judged.reply ≡ judge_after tables cards history judged.touch → is_revision judged.touch.act ≡ true
    → IsAhead tables history judged
revision-ahead tables cards history judged reply is = by_act judged.touch.act refl is
  where
    by_act : (act : Act) → judged.touch.act ≡ act → is_revision act ≡ true → IsAhead tables history judged
    by_act (Enter s m) e i = absurd cc
    by_act (Leave s m) e i = absurd cc
    by_act (TopUp p m) e i = absurd cc
    by_act (Issue m) e i = absurd cc
    by_act (Revise d m g) e i = by_day (is_day_bad (scheme_after tables history) history d) refl
      where
        given : judged.reply ≡ reply_for (scheme_after tables history) cards history judged.touch (Revise d m g)
        given = reply ∙ ap (reply_for (scheme_after tables history) cards history judged.touch) e

        by_day : (b : Bool) → is_day_bad (scheme_after tables history) history d ≡ b → IsAhead tables history judged
        by_day true bad =
            let refusal : judged.reply ≡ refused BadDay (pos 0) =
            given ∙ ap (λ b. cond b (refused BadDay (pos 0)) (granted Revised (pos 0) (pos 0))) bad in
            let none : is_accepted judged.reply ≡ false = ap is_accepted refusal in
            inl (scheme-unchanged tables history judged
            (ap (λ b. b && is_accepted judged.reply) is ∙ none))
        by_day false good =
            let revisions : List Revision = revisions_after history in
            let r : Revision = record { digest = g; day = d } in
            let more : revisions_after (history ++ judged ∷ []) ≡ revisions
            ++ cons_option (cond (is_accepted judged.reply) (Some r) None) [] =
            revisions-push history judged
            ∙ ap (λ act. revisions ++ cons_option (cond (is_accepted judged.reply) (revision_of act) None) []) e in
            inr (
              d,
              agree-before tables revisions (revisions_after (history ++ judged ∷ [])) d
                  (λ earlier below. ap (λ rs. table_by tables rs earlier) more
                  ∙ table-before tables revisions (is_accepted judged.reply) r earlier below),
              good,
            )

-- ---- travel in order

abbrev pub IsOrderly : Tables → List Judged → Type 0
IsOrderly tables history = (card : ℕ) → IsInOrder (travel (scheme_after tables history) (accepted card history))

-- the accepted acts of a card with one entry more
pub accepted-push : (card : ℕ) (history : List Judged) (judged : Judged)
    → accepted card (history ++ judged ∷ []) ≡ cond (counts_for card judged)
    (judged.touch.act ∷ accepted card history) (accepted card history)
accepted-push card history judged =
    ap (accepted_acts card) (reverse-append history (judged ∷ []))
    ∙ by_test (counts_for card judged) (filter (counts_for card) (reverse history))
  where
    by_test : (b : Bool) (rest : List Judged)
        → map (λ (j : Judged). j.touch.act) (cond b (judged ∷ rest) rest) ≡ cond b
        (judged.touch.act ∷ map (λ (j : Judged). j.touch.act) rest) (map (λ (j : Judged). j.touch.act) rest)
    by_test true rest = refl
    by_test false rest = refl

order-revised : (tables : Tables) (history : List Judged) (judged : Judged) → is_revision judged.touch.act ≡ true
    → IsAhead tables history judged → IsOrderly tables history → IsOrderly tables (history ++ judged ∷ [])
order-revised tables history judged is (inl same) order card =
    subst (λ acts. IsInOrder (travel (scheme_after tables (history ++ judged ∷ [])) acts))
    (sym (others-nothing card history judged (revision-not-of card judged.touch is)))
    (subst (λ (s : Scheme). IsInOrder (travel s (accepted card history))) (sym same) (order card))
order-revised tables history judged is (inr there) order card =
    let scheme : Scheme = scheme_after tables history in
    let revised : Scheme = scheme_after tables (history ++ judged ∷ []) in
    let acts : List Act = accepted card history in
    let before = order-before there.0 (travel scheme acts) (order card) (ahead scheme history there.0 card there.2) in
    subst (λ acts. IsInOrder (travel revised acts))
    (sym (others-nothing card history judged (revision-not-of card judged.touch is)))
    (subst IsInOrder (sym (travel-agrees there.0 scheme revised there.1 acts before)) (order card))

order-of_card : (tables : Tables) (cards : ℕ) (history : List Judged) (judged : Judged)
    → judged.reply ≡ judge_after tables cards history judged.touch → is_revision judged.touch.act ≡ false
    → IsOrderly tables history → IsOrderly tables (history ++ judged ∷ [])
order-of_card tables cards history judged reply is order card =
    let scheme : Scheme = scheme_after tables history in
    let same = scheme-unchanged tables history judged (ap (λ b. b && is_accepted judged.reply) is) in
    subst (λ acts. IsInOrder (travel (scheme_after tables (history ++ judged ∷ [])) acts))
    (sym (accepted-push card history judged))
    (subst (λ (s : Scheme). IsInOrder (travel s (cond (counts_for card judged)
    (judged.touch.act ∷ accepted card history) (accepted card history)))) (sym same)
    (by_test (counts_for card judged) refl))
  where
    judged-so : is_accepted judged.reply ≡ true → (known : Bool)
        → judged.reply ≡ cond known (judge (scheme_after tables history) (accepted judged.touch.card history)
        judged.touch.act) (refused UnknownCard (pos 0))
        → is_accepted (judge (scheme_after tables history) (accepted judged.touch.card history) judged.touch.act) ≡ true
    judged-so yes_it true e = ap is_accepted (sym e) ∙ yes_it
    judged-so yes_it false e = let no_it : is_accepted judged.reply ≡ false = ap is_accepted e in absurd cc

    by_test : (b : Bool) → counts_for card judged ≡ b
        → IsInOrder (travel (scheme_after tables history) (cond b (judged.touch.act ∷ accepted card history)
        (accepted card history)))
    by_test false e = order card
    by_test true e =
        let parts = both (is_of card judged.touch) (is_accepted judged.reply) e in
        let own : judged.touch.card ≡ card =
        equal judged.touch.card card
        (both (not (is_revision judged.touch.act)) (judged.touch.card == card) parts.0).1 in
        let given =
        reply ∙ reply-of_card (scheme_after tables history) cards history judged.touch judged.touch.act is in
        subst (λ (n : ℕ). IsInOrder (travel (scheme_after tables history) (judged.touch.act ∷ accepted n history))) own
        (never-back (scheme_after tables history) (accepted judged.touch.card history) judged.touch.act
        (order judged.touch.card) (judged-so parts.1 (is_card cards judged.touch.card) given))

order-push : (tables : Tables) (cards : ℕ) (history : List Judged) (judged : Judged)
    → judged.reply ≡ judge_after tables cards history judged.touch
    → IsOrderly tables history → IsOrderly tables (history ++ judged ∷ [])
order-push tables cards history judged reply order = by_test (is_revision judged.touch.act) refl
  where
    by_test : (b : Bool) → is_revision judged.touch.act ≡ b → IsOrderly tables (history ++ judged ∷ [])
    by_test true is =
        order-revised tables history judged is (revision-ahead tables cards history judged reply is) order
    by_test false is = order-of_card tables cards history judged reply is order

order-book : (tables : Tables) (cards : ℕ) (history : List Judged) (touches : List Touch) → IsOrderly tables history
    → IsOrderly tables (book_after tables cards history touches)
order-book tables cards history [] order = order
order-book tables cards history (touch ∷ touches) order =
    order-book tables cards (history ++ judged_after tables cards history touch ∷ []) touches
    (order-push tables cards history (judged_after tables cards history touch) refl order)

-- a legal history has each card's travel in order
pub legal-orderly : (tables : Tables) (cards : ℕ) (history : List Judged) → IsLegal tables cards history
    → IsOrderly tables history
legal-orderly tables cards history legal =
    subst (IsOrderly tables) (sym (legal-is_book tables cards history legal))
    (order-book tables cards [] (touches_in history) (λ card. tt))

-- ---- the laws

pub revisions-alone : DoRevisionsAloneRevise
revisions-alone tables history judged none = scheme-unchanged tables history judged none

view-ahead : (tables : Tables) (history : List Judged) (judged : Judged) (card : ℕ) → IsAhead tables history judged
    → IsOrderly tables history
    → view (scheme_after tables (history ++ judged ∷ [])) (accepted card history) ≡ view (scheme_after tables history)
    (accepted card history)
view-ahead tables history judged card (inl same) order = ap (λ (s : Scheme). view s (accepted card history)) same
view-ahead tables history judged card (inr there) order =
    view-kept there.0 (scheme_after tables history) (scheme_after tables (history ++ judged ∷ []))
    (accepted card history) there.1 (order card) (ahead (scheme_after tables history) history there.0 card there.2)

pub revisions-unseen : AreRevisionsUnseen
unfolding view_after
revisions-unseen tables cards history touch card legal is =
    let judged : Judged = judged_after tables cards history touch in
    ap (λ (acts : List Act). cond (is_card cards card)
    (view (scheme_after tables (history ++ judged ∷ [])) acts) no_view)
    (others-nothing card history judged (revision-not-of card touch is))
    ∙ ap (λ (v : CardView). cond (is_card cards card) v no_view)
    (view-ahead tables history judged card (revision-ahead tables cards history judged refl is)
    (legal-orderly tables cards history legal))

first-after : (tables : Tables) (cards : ℕ) (before : List Judged) (touches : List Touch)
    → All (λ (touch : Touch). is_revision touch.act ≡ false) touches → revisions_after before ≡ []
    → book_after tables cards before touches ≡ book_after (first_alone tables) cards before touches
first-after tables cards before [] none unrevised = refl
first-after tables cards before (touch ∷ touches) none unrevised =
    let own : is_revision touch.act ≡ false = none 0 touch (omega arith) in
    let judged : Judged = judged_after tables cards before touch in
    let no_revision : (is_revision touch.act && is_accepted judged.reply) ≡ false =
    ap (λ b. b && is_accepted judged.reply) own in
    let same : judge_after tables cards before touch ≡ judge_after (first_alone tables) cards before touch =
    ap (λ rs. judge_touch (scheme_by tables rs) cards before touch) unrevised
    ∙ ap (λ rs. judge_touch (scheme_by (first_alone tables) rs) cards before touch) (sym unrevised) in
    first-after tables cards (before ++ judged ∷ []) touches
    (All-tail (λ (touch : Touch). is_revision touch.act ≡ false) touch touches none)
    (revisions-unchanged before judged no_revision ∙ unrevised)
    ∙ ap (λ (r : Reply). book_after (first_alone tables) cards
    (before ++ record { touch = touch; reply = r } ∷ []) touches)
    same

pub book-of_first : IsBookOfTheFirst
book-of_first tables cards touches none = first-after tables cards [] touches none refl
