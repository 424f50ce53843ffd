-- A schedule and the same schedule with a revision more agree before its day; and the days before a revision are all
-- that accepted travel has reached.
use Rattle.std.proofs.Common.{◌≡◌, ℕ, ℤ, ◌<ℤ◌, Bool, true, false, not, ◌&&◌, ◌||◌, cond, List, [], ◌∷◌, map, filter}
use Rattle.std.proofs.Common.{reverse, refl, sym, ap, ◌∙◌, subst, arith}
use Rattle.std.specs.Prelude.{int_lt}
use Rattle.std.specs.List.{list_any}
use Rattle.std.proofs.lemmas.Int.{ints}
use Rattle.fare_table.specs.Fare.{stamp_of, stamp_with}
use Rattle.fare_table.specs.Fares.{content_of}
use Rattle.fare_table.specs.declared.fares.Fares.{Fares}
use Rattle.fare_schedule.specs.declared.schedule.Schedule.{Schedule}
use Rattle.fare_schedule.specs.Schedule.{tables_of, table_on, content_on, fare_day}
use Rattle.std.proofs.lemmas.List.{reverse-append}
use Rattle.std.proofs.lemmas.List.Folds.{list_any-append}
use Rattle.oyster_account.specs.declared.touch.Act.{Act}
use Rattle.oyster_account.specs.declared.touch.Act.TheVariants.{Enter, Leave, TopUp, Issue, Revise}
use Rattle.oyster_account.specs.declared.reply.Judged.{Judged}
use Rattle.oyster_account.specs.declared.card.Card.{Card}
use Rattle.oyster_account.specs.Touch.{is_of}
use Rattle.oyster_account.specs.Scheme.{Scheme, terms_of, scheme_of}
use Rattle.oyster_account.specs.Travel.{Tap, travel}
use Rattle.oyster_account.specs.History.{is_accepted, counts_for, accepted, accepted_acts, of_card}
use Rattle.oyster_account.specs.Judge.{has_reached, is_day_bad}
use Rattle.oyster_account.specs.Standing.{StandsFor}
use Rattle.oyster_account.specs.Agreement.{AgreeBefore, IsNewestBefore}
use Rattle.oyster_account.proofs.AgreementLemmas.{AreBefore}
use Rattle.oyster_account.proofs.StandingLemmas.{stands-revised}
use Rattle.oyster_account.proofs.CallerLemmas.{accepted-of_card}

module _ (old new : Schedule) (day : ℤ) (tables : tables_of new ≡ tables_of old)
    (before : (earlier : ℤ) → earlier <ℤ day → table_on new earlier ≡ table_on old earlier) where
  first-same : new.first ≡ old.first
  first-same = cc tables

  -- the revised schedule says the same before the day of the revision
  pub schedule-agrees : AgreeBefore day (scheme_of old) (scheme_of new)
  schedule-agrees = record {
    stamp = λ moment below.
        let same_day : fare_day new moment ≡ fare_day old moment =
        ap (λ (t : Fares). (stamp_of (content_of t) moment).day) first-same in
        ap (λ (t : Fares). stamp_with (content_of t) (content_on new (fare_day new moment)) moment) first-same
        ∙ ap (λ d. stamp_with (content_of old.first) (content_on new d) moment) same_day
        ∙ ap (λ (t : Fares). stamp_with (content_of old.first) (content_of t) moment)
        (before (fare_day old moment) below);
    on = λ earlier below. ap (λ (t : Fares). terms_of (content_of t)) (before earlier below);
  }

or_left : (a b : Bool) → (a || b) ≡ false → a ≡ false
or_left true b is = absurd (cc)
or_left false b is = refl

or_right : (a b : Bool) → (a || b) ≡ false → b ≡ false
or_right true b is = absurd (cc)
or_right false b is = is

or_swap : (a b : Bool) → (a || (b || false)) ≡ (b || a)
or_swap true true = refl
or_swap true false = refl
or_swap false true = refl
or_swap false false = refl

and_second : (a b : Bool) → (a && b) ≡ true → b ≡ true
and_second true b is = is
and_second false b is = absurd (cc)

and_other : (a b : Bool) → (a && b) ≡ false → a ≡ true → b ≡ false
and_other true b is on = is
and_other false b is on = absurd (cc)

any-reverse : {X : Type 0} (p : X → Bool) (xs : List X) → list_any p (reverse xs) ≡ list_any p xs
any-reverse p [] = refl
any-reverse p (x ∷ xs) =
    ap (list_any p) (reverse-append (x ∷ []) xs)
    ∙ list_any-append p (reverse xs) (x ∷ [])
    ∙ ap (λ b. b || (p x || false)) (any-reverse p xs)
    ∙ or_swap (list_any p xs) (p x)

module _ (scheme : Scheme) (day : ℤ) where
  earlier-day : (other : ℤ) → not (int_lt other day) ≡ false → other <ℤ day
  earlier-day other is = grind (arith, ints)

  -- an act that hasn't reached the day is before it
  act-before : (act : Act) (acts : List Act) → has_reached scheme day act ≡ false →
      AreBefore day (travel scheme acts) → AreBefore day (travel scheme (act ∷ acts))
  act-before (Enter s m) acts is before = (earlier-day (scheme.stamp m).day is, before)
  act-before (Leave s m) acts is before = (earlier-day (scheme.stamp m).day is, before)
  act-before (TopUp p m) acts is before = before
  act-before (Issue m) acts is before = before
  act-before (Revise d m s) acts is before = before

  counted-before : (counts : Bool) (j : Judged) (js : List Judged) →
      (counts ≡ true → AreBefore day (travel scheme (j.touch.act ∷ map (λ (j : Judged). j.touch.act) js))) →
      AreBefore day (travel scheme (map (λ (j : Judged). j.touch.act) js)) →
      AreBefore day (travel scheme (map (λ (j : Judged). j.touch.act) (cond counts (j ∷ js) js)))
  counted-before true j js newest others = newest refl
  counted-before false j js newest others = others

  abbrev reaches : Judged → Bool
  reaches j = is_accepted j.reply && has_reached scheme day j.touch.act

  all-before : (n : ℕ) (js : List Judged) → list_any reaches js ≡ false →
      AreBefore day (travel scheme (accepted_acts n js))
  all-before n [] none = tt
  all-before n (j ∷ js) none =
      let rest : AreBefore day (travel scheme (accepted_acts n js)) =
      all-before n js (or_right (reaches j) (list_any reaches js) none) in
      counted-before (counts_for n j) j (filter (counts_for n) js)
      (λ counts. act-before j.touch.act (accepted_acts n js)
      (and_other (is_accepted j.reply) (has_reached scheme day j.touch.act)
      (or_left (reaches j) (list_any reaches js) none) (and_second (is_of n j.touch) (is_accepted j.reply) counts))
      rest) rest

  newest-before : (taps : List Tap) → AreBefore day taps → IsNewestBefore day taps
  newest-before [] before = tt
  newest-before (tap ∷ taps) before = before.0

  -- a revision that isn't refused is ahead of all accepted travel
  pub revision-ahead : (n : ℕ) (history : List Judged) → is_day_bad scheme history day ≡ false →
      IsNewestBefore day (travel scheme (accepted n history))
  revision-ahead n history good =
      newest-before (travel scheme (accepted n history))
      (all-before n (reverse history) (any-reverse reaches history ∙ good))

-- so each card of a station stands for its touches after it
pub card-revised : (old new : Schedule) (day : ℤ) (n : ℕ) (history : List Judged) (card : Card) →
    tables_of new ≡ tables_of old → ((earlier : ℤ) → earlier <ℤ day → table_on new earlier ≡ table_on old earlier) →
    is_day_bad (scheme_of old) history day ≡ false → StandsFor (scheme_of old) n (of_card n history) card →
    StandsFor (scheme_of new) n (of_card n history) card
card-revised old new day n history card tables before good stands =
    stands-revised day (scheme_of old) (scheme_of new) n (of_card n history) card
    (schedule-agrees old new day tables before)
    (subst (λ acts. IsNewestBefore day (travel (scheme_of old) acts)) (sym (accepted-of_card n history))
    (revision-ahead (scheme_of old) day n history good))
    stands
