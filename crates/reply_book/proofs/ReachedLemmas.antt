-- A revision is ahead of all that a legal history has reached, so what was reached keeps its table.
use Rattle.std.proofs.Common.{◌≡◌, ℕ, ℤ, ◌<ℤ◌, ◌≤ℤ◌, Bool, true, false, not, ◌&&◌, ◌||◌, cond, List, [], ◌∷◌, ◌++◌}
use Rattle.std.proofs.Common.{length, zero, suc, take, refl, sym, ap, ◌∙◌, subst, arith, pos, Option, Some, None}
use Rattle.std.specs.Prelude.{int_lt, slice_get}
use Rattle.std.specs.List.{list_any, cons_option}
use Rattle.std.proofs.lemmas.List.{append-nil, append_assoc}
use Rattle.std.proofs.lemmas.Int.{ints}
use Rattle.fare_table.specs.Fare.{stamp_of}
use Rattle.fare_table.specs.Fares.{content_of}
use Rattle.fare_schedule.specs.InForce.{Revision}
use Rattle.fare_schedule.specs.InForce.{table_by as table_of_last}
use Rattle.fare_schedule.proofs.InForceLemmas.{last-before}
use Rattle.oyster_account.specs.declared.touch.Act.{Act}
use Rattle.oyster_account.specs.declared.touch.Act.TheVariants.{Enter, Leave, TopUp, Issue, Revise}
use Rattle.oyster_account.specs.declared.reply.Judged.{Judged}
use Rattle.oyster_account.specs.declared.verdict.Acceptance.TheVariants.{Revised}
use Rattle.oyster_account.specs.declared.verdict.Refusal.TheVariants.{BadDay}
use Rattle.oyster_account.specs.Touch.{moment_of}
use Rattle.oyster_account.specs.History.{is_accepted}
use Rattle.oyster_account.specs.Judge.{has_reached, is_day_bad, reply_for, refused, granted}
use Rattle.reply_book.specs.Tables.{Tables, revision_of, revision_in, revisions_after, table_by, scheme_by}
use Rattle.reply_book.specs.Tables.{scheme_after}
use Rattle.reply_book.specs.Reached.{day_reached, is_reached}
use Rattle.reply_book.specs.Legal.{IsLegal, judge_after}
use Rattle.reply_book.specs.Laws.{day_reached_in, HasReached, AreRevisionsAhead, DoReachedDaysKeepTables}
use Rattle.reply_book.proofs.PlaceLemmas.{slice_get-append_left, slice_get-behind, take-front}
use Rattle.reply_book.proofs.RevisionLemmas.{reached-by, revisions-push}

-- ---- a day that was reached is bad for a revision

not-above : (latest day : ℤ) → day ≤ℤ latest → not (int_lt latest day) ≡ true
not-above latest day late = by_test (int_lt latest day) refl
  where
    by_test : (b : Bool) → int_lt latest day ≡ b → not b ≡ true
    by_test false is = refl
    by_test true is = absurd (grind (arith, ints, is, late))

-- an entry that reached a day or a later one counts as one that did
entry-reached : (tables : Tables) (revisions : List Revision) (judged : Judged) (latest day : ℤ)
    → day_reached_in tables judged ≡ Some latest → day ≤ℤ latest
    → (is_accepted judged.reply && has_reached (scheme_by tables revisions) day judged.touch.act) ≡ true
entry-reached tables revisions judged latest day own late = by_accepted (is_accepted judged.reply) own
  where
    moved : Option ℤ
    moved = day_reached judged.touch.act (stamp_of (content_of tables.first) (moment_of judged.touch.act)).day

    by_accepted : (b : Bool) → cond b moved None ≡ Some latest
        → (b && has_reached (scheme_by tables revisions) day judged.touch.act) ≡ true
    by_accepted false is = absurd cc
    by_accepted true is =
        reached-by (scheme_by tables revisions) judged.touch.act day ∙ ap (λ o. is_reached o day) is
        ∙ not-above latest day late

or-true : (a : Bool) → (a || true) ≡ true
or-true true = refl
or-true false = refl

any-at : {X : Type 0} (p : X → Bool) (xs : List X) (place : ℕ) (x : X) → slice_get xs place ≡ Some x → p x ≡ true
    → list_any p xs ≡ true
any-at p [] place x at passes = absurd cc
any-at p (y ∷ xs) zero x at passes =
    let same : y ≡ x = cc in ap (λ b. b || list_any p xs) (ap p same ∙ passes)
any-at p (y ∷ xs) (suc place) x at passes =
    ap (λ b. p y || b) (any-at p xs place x at passes) ∙ or-true (p y)

reached-bad : (tables : Tables) (revisions : List Revision) (history : List Judged) (day earlier : ℤ)
    → earlier ≤ℤ day → HasReached tables history day → is_day_bad (scheme_by tables revisions) history earlier ≡ true
reached-bad tables revisions history day earlier below reached =
    let late : earlier ≤ℤ reached.latest = grind (arith, ints, below, reached.late) in
    any-at (λ (j : Judged). is_accepted j.reply && has_reached (scheme_by tables revisions) earlier j.touch.act) history
    reached.place reached.judged reached.at
    (entry-reached tables revisions reached.judged reached.latest earlier reached.own late)

-- ---- an accepted revision

-- the day of an accepted revision isn't bad
revision-good : (tables : Tables) (cards : ℕ) (history : List Judged) (judged : Judged) (r : Revision)
    → judged.reply ≡ judge_after tables cards history judged.touch → revision_in judged ≡ Some r
    → is_day_bad (scheme_after tables history) history r.day ≡ false
revision-good tables cards history judged r reply is = by_act judged.touch.act refl (is_accepted judged.reply) refl is
  where
    by_act : (act : Act) → judged.touch.act ≡ act → (b : Bool) → is_accepted judged.reply ≡ b
        → cond b (revision_of act) None ≡ Some r → is_day_bad (scheme_after tables history) history r.day ≡ false
    by_act act e false none i = absurd cc
    by_act (Enter s m) e true yes_it i = absurd cc
    by_act (Leave s m) e true yes_it i = absurd cc
    by_act (TopUp p m) e true yes_it i = absurd cc
    by_act (Issue m) e true yes_it i = absurd cc
    by_act (Revise d m g) e true yes_it i =
        let made : record { digest = g; day = d } ≡ r = cc in
        let same : d ≡ r.day = ap (λ (x : Revision). x.day) made in
        subst (λ (x : ℤ). is_day_bad (scheme_after tables history) history x ≡ false) same
        (by_day (is_day_bad (scheme_after tables history) history d) refl)
      where
        given : judged.reply ≡ reply_for (scheme_after tables history) cards history judged.touch (Revise d m g)
        given = reply ∙ ap (reply_for (scheme_after tables history) cards history judged.touch) e

        by_day : (b : Bool) → is_day_bad (scheme_after tables history) history d ≡ b
            → is_day_bad (scheme_after tables history) history d ≡ false
        by_day false good = good
        by_day true bad =
            let refusal : judged.reply ≡ refused BadDay (pos 0) =
            given ∙ ap (λ b. cond b (refused BadDay (pos 0)) (granted Revised (pos 0) (pos 0))) bad in
            let none : is_accepted judged.reply ≡ false = ap is_accepted refusal in
            absurd cc

-- so it is above each day that was reached
revision-above : (tables : Tables) (cards : ℕ) (history : List Judged) (judged : Judged) (r : Revision) (day : ℤ)
    → judged.reply ≡ judge_after tables cards history judged.touch → revision_in judged ≡ Some r
    → HasReached tables history day → day <ℤ r.day
revision-above tables cards history judged r day reply is reached = by_test (int_lt day r.day) refl
  where
    by_test : (b : Bool) → int_lt day r.day ≡ b → day <ℤ r.day
    by_test true below = grind (arith, ints)
    by_test false above =
        let late : r.day ≤ℤ day = grind (arith, ints) in
        let bad : is_day_bad (scheme_after tables history) history r.day ≡ true =
        reached-bad tables (revisions_after history) history day r.day late reached in
        let good : is_day_bad (scheme_after tables history) history r.day ≡ false =
        revision-good tables cards history judged r reply is in
        absurd cc

pub revisions-ahead : AreRevisionsAhead
revisions-ahead tables cards history place judged revision day legal at is reached =
    revision-above tables cards (take place history) judged revision day (legal.replies place judged at) is reached

-- ---- the tables of what was reached

-- what was reached is reached still, whatever follows
reached-append : (tables : Tables) (history more : List Judged) (day : ℤ) → HasReached tables history day
    → HasReached tables (history ++ more) day
reached-append tables history more day reached = record {
  place = reached.place;
  judged = reached.judged;
  latest = reached.latest;
  at = slice_get-append_left history more reached.place reached.judged reached.at;
  own = reached.own;
  late = reached.late;
}

-- one entry more leaves the table of a day that was reached
table-push : (tables : Tables) (cards : ℕ) (history : List Judged) (judged : Judged) (day : ℤ)
    → judged.reply ≡ judge_after tables cards history judged.touch → HasReached tables history day
    → table_by tables (revisions_after (history ++ judged ∷ [])) day ≡ table_by tables (revisions_after history) day
table-push tables cards history judged day reply reached =
    ap (λ rs. table_by tables rs day) (revisions-push history judged) ∙ by_revision (revision_in judged) refl
  where
    by_revision : (o : Option Revision) → revision_in judged ≡ o
        → table_by tables (revisions_after history ++ cons_option o []) day ≡ table_by tables (revisions_after history)
        day
    by_revision None is = ap (λ rs. table_by tables rs day) (append-nil (revisions_after history))
    by_revision (Some r) is =
        ap (table_of_last tables.first tables.supplied)
        (last-before day (revisions_after history) r
        (revision-above tables cards history judged r day reply is reached))

-- and so do all that follow
pub reached-kept : DoReachedDaysKeepTables
reached-kept tables cards history [] day legal reached =
    ap (λ h. table_by tables (revisions_after h) day) (append-nil history)
reached-kept tables cards history (judged ∷ more) day legal reached =
    let reply : judged.reply ≡ judge_after tables cards history judged.touch =
    legal.replies (length history) judged (slice_get-behind history judged more)
    ∙ ap (λ (h : List Judged). judge_after tables cards h judged.touch) (take-front history (judged ∷ more)) in
    let joined : (history ++ judged ∷ []) ++ more ≡ history ++ judged ∷ more =
    append_assoc history (judged ∷ []) more in
    ap (λ h. table_by tables (revisions_after h) day) (sym joined)
    ∙ reached-kept tables cards (history ++ judged ∷ []) more day (subst (IsLegal tables cards) (sym joined) legal)
    (reached-append tables history (judged ∷ []) day reached)
    ∙ table-push tables cards history judged day reply reached
