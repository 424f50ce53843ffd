-- The revisions of a history, the scheme after it, and the last day that it has reached.
use Rattle.std.proofs.Common.{◌≡◌, ℤ, ◌≤◌, Bool, true, false, not, ◌&&◌, ◌||◌, cond, List, [], ◌∷◌, ◌++◌, refl, sym, ap}
use Rattle.std.proofs.Common.{◌∙◌, arith, Option, Some, None}
use Rattle.std.proofs.lemmas.List.{append-nil}
use Rattle.std.proofs.lemmas.List.Elements.{filter_map-append}
use Rattle.std.proofs.lemmas.List.Folds.{list_any-append}
use Rattle.std.proofs.lemmas.Int.{ints}
use Rattle.std.specs.Prelude.{int_lt}
use Rattle.std.specs.List.{cons_option}
use Rattle.money_time.specs.declared.stamp.Window.{Window}
use Rattle.money_time.specs.declared.stamp.Window.TheVariants.{Early, Evening, Off}
use Rattle.fare_table.specs.declared.key.TheConstants.{HIGHEST_PRICE}
use Rattle.fare_table.specs.Fare.{maximum_of}
use Rattle.fare_table.specs.Fares.{content_of}
use Rattle.fare_table.proofs.BoundLemmas.{fare-bound}
use Rattle.fare_table.specs.declared.fares.Fares.{Fares}
use Rattle.fare_schedule.specs.InForce.{Revision}
use Rattle.fare_schedule.specs.declared.schedule.Schedule.{Schedule}
use Rattle.fare_schedule.specs.Schedule.{tables_of as schedule_tables}
use Rattle.oyster_account.specs.declared.touch.Act.{Act}
use Rattle.oyster_account.specs.declared.touch.Act.TheVariants.{Enter, Leave, TopUp, Issue, Revise}
use Rattle.oyster_account.specs.declared.reply.Judged.{Judged}
use Rattle.oyster_account.specs.Touch.{is_revision, moment_of}
use Rattle.oyster_account.specs.History.{is_accepted}
use Rattle.oyster_account.specs.Scheme.{Scheme}
use Rattle.oyster_account.specs.Priced.{IsPriced}
use Rattle.oyster_account.specs.Judge.{has_reached, is_day_bad}
use Rattle.reply_book.specs.Tables.{Tables, tables_in, revision_of, revision_in, revisions_after, table_by, scheme_by}
use Rattle.reply_book.specs.Tables.{scheme_after}
use Rattle.reply_book.specs.Reached.{day_reached, is_reached, later_of, reached_after}

-- ---- the scheme

abbrev made : Fares → List Fares → Tables
made first supplied = record { first = first; supplied = supplied }

pub same-tables : (a b : Schedule) → schedule_tables a ≡ schedule_tables b → tables_in a ≡ tables_in b
same-tables a b same = by_parts a.first b.first a.supplied.items b.supplied.items same
  where
    by_parts : (f g : Fares) (fs gs : List Fares) → f ∷ fs ≡ g ∷ gs → made f fs ≡ made g gs
    by_parts f g fs gs is =
        let first : f ≡ g = cc in
        let others : fs ≡ gs = cc in
        ap (λ (t : Fares). made t fs) first ∙ ap (made g) others

-- ---- the revisions

pub revisions-push : (history : List Judged) (judged : Judged)
    → revisions_after (history ++ judged ∷ []) ≡ revisions_after history ++ cons_option (revision_in judged) []
revisions-push history judged = filter_map-append revision_in history (judged ∷ [])

-- an act that is no revision asks for none
revision-none : (act : Act) → is_revision act ≡ false → revision_of act ≡ None
revision-none (Enter s m) is = refl
revision-none (Leave s m) is = refl
revision-none (TopUp p m) is = refl
revision-none (Issue m) is = refl
revision-none (Revise d m g) is = absurd cc

-- an entry that is no accepted revision has none
pub revision_in-none : (judged : Judged)
    → (is_revision judged.touch.act && is_accepted judged.reply) ≡ false → revision_in judged ≡ None
revision_in-none judged none = by_cases (is_revision judged.touch.act) (is_accepted judged.reply) refl none
  where
    by_cases : (revision accepted : Bool) → is_revision judged.touch.act ≡ revision
        → (revision && accepted) ≡ false → cond accepted (revision_of judged.touch.act) None ≡ None
    by_cases revision false is e = refl
    by_cases true true is e = absurd cc
    by_cases false true is e = revision-none judged.touch.act is

pub revisions-unchanged : (history : List Judged) (judged : Judged)
    → (is_revision judged.touch.act && is_accepted judged.reply) ≡ false
    → revisions_after (history ++ judged ∷ []) ≡ revisions_after history
revisions-unchanged history judged none =
    revisions-push history judged
    ∙ ap (λ o. revisions_after history ++ cons_option o []) (revision_in-none judged none)
    ∙ append-nil (revisions_after history)

pub scheme-unchanged : (tables : Tables) (history : List Judged) (judged : Judged)
    → (is_revision judged.touch.act && is_accepted judged.reply) ≡ false
    → scheme_after tables (history ++ judged ∷ []) ≡ scheme_after tables history
scheme-unchanged tables history judged none = ap (scheme_by tables) (revisions-unchanged history judged none)

-- ---- prices

-- the maximums of a fare table are at most the highest price
maximum-highest : (fares : Fares) (window : Window) → maximum_of (content_of fares) window ≤ HIGHEST_PRICE
maximum-highest fares Off = fares.within_limits.maximum_off_peak
maximum-highest fares Early = fares.within_limits.maximum_peak
maximum-highest fares Evening = fares.within_limits.maximum_peak

-- tables keep their prices within their maximums, whichever of them is in force
pub tables-priced : (tables : Tables) (revisions : List Revision) → IsPriced (scheme_by tables revisions)
tables-priced tables revisions = record {
  fare = λ day from to window.
      fare-bound (content_of (table_by tables revisions day)) (table_by tables revisions day).within_maximum from to
      window;
  maximum = λ day window. maximum-highest (table_by tables revisions day) window;
}

-- ---- the last day reached

-- no revision moves a moment to another fare day
reached-same : (tables : Tables) (a b : List Revision) (day : ℤ) (act : Act)
    → has_reached (scheme_by tables a) day act ≡ has_reached (scheme_by tables b) day act
reached-same tables a b day (Enter s m) = refl
reached-same tables a b day (Leave s m) = refl
reached-same tables a b day (TopUp p m) = refl
reached-same tables a b day (Issue m) = refl
reached-same tables a b day (Revise d m g) = refl

pub bad-same : (tables : Tables) (a b : List Revision) (history : List Judged) (day : ℤ)
    → is_day_bad (scheme_by tables a) history day ≡ is_day_bad (scheme_by tables b) history day
bad-same tables a b [] day = refl
bad-same tables a b (judged ∷ history) day =
    ap (λ r. (is_accepted judged.reply && r) || is_day_bad (scheme_by tables a) history day)
    (reached-same tables a b day judged.touch.act)
    ∙ ap (λ r. (is_accepted judged.reply && has_reached (scheme_by tables b) day judged.touch.act) || r)
    (bad-same tables a b history day)

-- an act reaches a day by the day that it reaches
pub reached-by : (scheme : Scheme) (act : Act) (day : ℤ)
    → has_reached scheme day act ≡ is_reached (day_reached act (scheme.stamp (moment_of act)).day) day
reached-by scheme (Enter s m) day = refl
reached-by scheme (Leave s m) day = refl
reached-by scheme (TopUp p m) day = refl
reached-by scheme (Issue m) day = refl
reached-by scheme (Revise d m g) day = refl

or-none : (b : Bool) → (b || false) ≡ b
or-none true = refl
or-none false = refl

-- a day isn't above the later of two where it isn't above one of them
later-reached : (b : Bool) (last other day : ℤ) → int_lt last other ≡ b
    → not (int_lt (cond b other last) day) ≡ (not (int_lt last day) || not (int_lt other day))
later-reached true last other day is = by_tests (int_lt last day) (int_lt other day) refl refl
  where
    by_tests : (a b : Bool) → int_lt last day ≡ a → int_lt other day ≡ b → not b ≡ (not a || not b)
    by_tests true b x y = refl
    by_tests false true x y = absurd (grind (arith, ints, is, x, y))
    by_tests false false x y = refl
later-reached false last other day is = by_tests (int_lt last day) (int_lt other day) refl refl
  where
    by_tests : (a b : Bool) → int_lt last day ≡ a → int_lt other day ≡ b → not a ≡ (not a || not b)
    by_tests false b x y = refl
    by_tests true true x y = refl
    by_tests true false x y = absurd (grind (arith, ints, is, x, y))

reached-later : (last other : Option ℤ) (day : ℤ)
    → is_reached (later_of last other) day ≡ (is_reached last day || is_reached other day)
reached-later None None day = refl
reached-later (Some last) None day = sym (or-none (not (int_lt last day)))
reached-later None (Some other) day = refl
reached-later (Some last) (Some other) day = later-reached (int_lt last other) last other day refl

reached-accepted : (accepted : Bool) (last other : Option ℤ) (day : ℤ)
    → is_reached (reached_after last accepted other) day ≡ (is_reached last day || (accepted && is_reached other day))
reached-accepted true last other day = reached-later last other day
reached-accepted false last other day = sym (or-none (is_reached last day))

-- with one entry more, the last day is the later of the last and its own
pub bad-push : (scheme : Scheme) (history : List Judged) (judged : Judged) (last : Option ℤ) (day : ℤ)
    → is_day_bad scheme history day ≡ is_reached last day
    → is_day_bad scheme (history ++ judged ∷ []) day ≡ is_reached
    (reached_after last (is_accepted judged.reply)
    (day_reached judged.touch.act (scheme.stamp (moment_of judged.touch.act)).day)) day
bad-push scheme history judged last day is =
    let own : Option ℤ = day_reached judged.touch.act (scheme.stamp (moment_of judged.touch.act)).day in
    list_any-append (λ (j : Judged). is_accepted j.reply && has_reached scheme day j.touch.act) history (judged ∷ [])
    ∙ ap (λ b. b || ((is_accepted judged.reply && has_reached scheme day judged.touch.act) || false)) is
    ∙ ap (λ b. is_reached last day || b) (or-none (is_accepted judged.reply && has_reached scheme day judged.touch.act))
    ∙ ap (λ b. is_reached last day || (is_accepted judged.reply && b)) (reached-by scheme judged.touch.act day)
    ∙ sym (reached-accepted (is_accepted judged.reply) last own day)
