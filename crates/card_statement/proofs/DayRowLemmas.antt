-- The rows of fare days, made day by day from lists whose days fall.
use Rattle.std.proofs.Common.{◌≡◌, ℤ, ◌≤ℤ◌, ◌<ℤ◌, Bool, true, false, ◌||◌, List, [], ◌∷◌, ◌++◌}
use Rattle.std.proofs.Common.{map, take, drop, refl, sym, ap, ◌∙◌, subst, arith, inl, inr, Some}
use Rattle.std.proofs.Common.{◌⊎◌, append_assoc}
use Rattle.std.specs.Int.{int_max}
use Rattle.std.specs.Ordering.{int_eq}
use Rattle.std.proofs.lemmas.Bool.{cases_Bool, both_ways}
use Rattle.std.proofs.lemmas.Bool.Decides.{Decides-int_eq}
use Rattle.std.proofs.lemmas.Int.{ints, clamps, by_lt_z}
use Rattle.fare_table.specs.declared.rows.Cap.{Cap}
use Rattle.oyster_account.specs.declared.journey.Journey.{Journey}
use Rattle.oyster_account.specs.Journey.{journey_day}
use Rattle.oyster_account.specs.Charge.{has_day, on_day}
use Rattle.oyster_account.proofs.DayLemmas.{int_eq-same}
use Rattle.card_statement.specs.declared.statement.Incomplete.{Incomplete}
use Rattle.card_statement.specs.Incomplete.{incomplete_day, incompletes_on}
use Rattle.card_statement.specs.Day.{DayContent, row_of_day, day_row, has_row}
use Rattle.card_statement.specs.Runs.{AreUpTo, AreFalling, AreBefore, AreDaysFalling, run_length, latest}
use Rattle.card_statement.proofs.DayLists.{or_other}
use Rattle.card_statement.proofs.RunLemmas.{below-other, has-up, run-take, rest-on, rest-has, rest-gone}
use Rattle.card_statement.proofs.RunLemmas.{rest-falls}

-- all days that have rows are these days
abbrev pub AreRowDays : List Journey → List Incomplete → List ℤ → Type 0
AreRowDays made missed days = (day : ℤ) → has_day day days ≡ has_row made missed day

-- after these rows these days are left, with these journeys and incomplete touches
pub record AreLeft (row : ℤ → DayContent) (made : List Journey) (missed : List Incomplete) (rows : List DayContent)
    (days left : List ℤ) : Type 0 where
  pub falls : AreDaysFalling left
  pub with_rows : AreRowDays made missed left
  pub rows_first : rows ++ map row left ≡ map row days

-- so many rows are made, and for those that are left all of their days' journeys and touches are there
pub record IsUnderWay (caps : ℤ → List Cap) (js : List Journey) (is : List Incomplete) (made : List Journey)
    (missed : List Incomplete) (rows : List DayContent) : Type 0 where
  pub made_falls : AreFalling journey_day made
  pub missed_falls : AreFalling incomplete_day missed
  pub made_on : (day : ℤ) → has_row made missed day ≡ true → on_day day made ≡ on_day day js
  pub missed_on : (day : ℤ) → has_row made missed day ≡ true → incompletes_on day missed ≡ incompletes_on day is
  pub rest : (days : List ℤ) → AreDaysFalling days → AreRowDays js is days →
      (left : List ℤ) × AreLeft (day_row caps js is) made missed rows days left

or-first : (a b : Bool) → a ≡ true → (a || b) ≡ true
or-first true b is = refl
or-first false b is = absurd (cc)

or-second : (a b : Bool) → b ≡ true → (a || b) ≡ true
or-second true b is = refl
or-second false b is = is

either : (a b c d : Bool) → a ≡ c → b ≡ d → (a || b) ≡ (c || d)
either a b c d left right = ap (λ x. x || b) left ∙ ap (λ x. c || x) right

-- a day before all of these isn't among them
pub before-later : (e d : ℤ) (days : List ℤ) → e <ℤ d → AreBefore e days → AreBefore d days
before-later e d [] below before = tt
before-later e d (f ∷ days) below before = (omega (arith, ints, below, before.0), before.1)

pub before-none : (d : ℤ) (days : List ℤ) → AreBefore d days → has_day d days ≡ false
before-none d [] before = refl
before-none d (e ∷ days) before =
    either (int_eq e d) (has_day d days) false false (below-other e d before.0)
    (before-none d days (before-later e d days before.0 before.1))

pub before-falls : (d : ℤ) (days : List ℤ) → AreBefore d days → AreDaysFalling days
before-falls d [] before = tt
before-falls d (e ∷ days) before = before.1

before-below : (d e : ℤ) (days : List ℤ) → AreBefore d days → has_day e days ≡ true → e <ℤ d
before-below d e [] before has = absurd (cc)
before-below d e (f ∷ days) before has =
    elim (cases_Bool (int_eq f e)) [
      | inl p ↦ subst (λ x. x <ℤ d) ((Decides-int_eq f e).0 p) before.0
      | inr q ↦ before-below d e days (before-later f d days before.0 before.1)
          (or_other (int_eq f e) (has_day e days) has q)
    ]

-- the latest day has a row, and no journey or incomplete touch is of a later one
pub record IsLatest (made : List Journey) (missed : List Incomplete) (day : ℤ) : Type 0 where
  pub has : has_row made missed day ≡ true
  pub made_up : AreUpTo journey_day day made
  pub missed_up : AreUpTo incomplete_day day missed

first-has : {X : Type 0} (day_of : X → ℤ) (x : X) (xs : List X) (day : ℤ) → day_of x ≡ day →
    has_day day (map day_of (x ∷ xs)) ≡ true
first-has day_of x xs day is =
    or-first (int_eq (day_of x) day) (has_day day (map day_of xs)) ((Decides-int_eq (day_of x) day).1 is)

max-one : (a b : ℤ) → (int_max a b ≡ a) ⊎ (int_max a b ≡ b)
max-one a b =
    by_lt_z a b (λ below. inr (omega (arith, ints, clamps, below))) (λ above. inl (omega (arith, ints, clamps, above)))

pub is-latest : (made : List Journey) (missed : List Incomplete) (day : ℤ) → AreFalling journey_day made →
    AreFalling incomplete_day missed → latest made missed ≡ Some day → IsLatest made missed day
is-latest [] [] day made_falls missed_falls is = absurd (cc)
is-latest [] (touch ∷ missed) day made_falls missed_falls is =
    let same : incomplete_day touch ≡ day = cc in
    record {
      has = first-has incomplete_day touch missed day same;
      made_up = tt;
      missed_up = (omega (arith, ints, same), missed_falls);
    }
is-latest (journey ∷ made) [] day made_falls missed_falls is =
    let same : journey_day journey ≡ day = cc in
    record {
      has = or-first (has_day day (map journey_day (journey ∷ made))) false
          (first-has journey_day journey made day same);
      made_up = (omega (arith, ints, same), made_falls);
      missed_up = tt;
    }
is-latest (journey ∷ made) (touch ∷ missed) day made_falls missed_falls is =
    let same : int_max (journey_day journey) (incomplete_day touch) ≡ day = cc in
    record {
      has = elim (max-one (journey_day journey) (incomplete_day touch)) [
        | inl p ↦ or-first (has_day day (map journey_day (journey ∷ made)))
            (has_day day (map incomplete_day (touch ∷ missed)))
            (first-has journey_day journey made day (sym p ∙ same))
        | inr q ↦ or-second (has_day day (map journey_day (journey ∷ made)))
            (has_day day (map incomplete_day (touch ∷ missed)))
            (first-has incomplete_day touch missed day (sym q ∙ same))
      ];
      made_up = (omega (arith, ints, clamps, same), made_falls);
      missed_up = (omega (arith, ints, clamps, same), missed_falls);
    }

module _ (caps : ℤ → List Cap) (js : List Journey) (is : List Incomplete) where
  module _ (made : List Journey) (missed : List Incomplete) (day : ℤ) where
    abbrev made_later : List Journey
    made_later = drop (run_length journey_day day made) made

    abbrev missed_later : List Incomplete
    missed_later = drop (run_length incomplete_day day missed) missed

    -- behind the latest day that day has no row, and the others have theirs
    row-gone : IsLatest made missed day → has_row made_later missed_later day ≡ false
    row-gone at =
        either (has_day day (map journey_day made_later)) (has_day day (map incomplete_day missed_later)) false false
        (rest-gone journey_day day made at.made_up) (rest-gone incomplete_day day missed at.missed_up)

    row-kept : (e : ℤ) → int_eq day e ≡ false → has_row made_later missed_later e ≡ has_row made missed e
    row-kept e other =
        either (has_day e (map journey_day made_later)) (has_day e (map incomplete_day missed_later))
        (has_day e (map journey_day made)) (has_day e (map incomplete_day missed))
        (rest-has journey_day day e made other) (rest-has incomplete_day day e missed other)

    -- a day with a row there is another one
    row-other : IsLatest made missed day → (e : ℤ) → has_row made_later missed_later e ≡ true → int_eq day e ≡ false
    row-other at e has =
        elim (cases_Bool (int_eq day e)) [
          | inl p ↦ absurd (both_ways (has_row made_later missed_later e)
              (subst (λ x. has_row made_later missed_later x ≡ false) ((Decides-int_eq day e).0 p) (row-gone at)) has)
          | inr q ↦ q
        ]

    -- no day with a row is later
    row-up : IsLatest made missed day → (e : ℤ) → has_row made missed e ≡ true → e ≤ℤ day
    row-up at e has =
        elim (cases_Bool (has_day e (map journey_day made))) [
          | inl p ↦ has-up journey_day e day made at.made_up p
          | inr q ↦ has-up incomplete_day e day missed at.missed_up
              (or_other (has_day e (map journey_day made)) (has_day e (map incomplete_day missed)) has q)
        ]

    -- so the first of the days that are left is the latest day
    first-latest : IsLatest made missed day → (d : ℤ) (left : List ℤ) → AreBefore d left →
        AreRowDays made missed (d ∷ left) → d ≡ day
    first-latest at d left before days =
        let up : d ≤ℤ day = row-up at d (sym (days d) ∙ or-first (int_eq d d) (has_day d left) (int_eq-same d)) in
        let has : has_day day (d ∷ left) ≡ true = days day ∙ at.has in
        elim (cases_Bool (int_eq d day)) [
          | inl p ↦ (Decides-int_eq d day).0 p
          | inr q ↦
              let below : day <ℤ d = before-below d day left before
              (or_other (int_eq d day) (has_day day left) has q) in
              absurd (omega (arith, ints, up, below))
        ]

    left-days : IsLatest made missed day → (left : List ℤ) → AreBefore day left → AreRowDays made missed (day ∷ left) →
        AreRowDays made_later missed_later left
    left-days at left before days e =
        elim (cases_Bool (int_eq day e)) [
          | inl p ↦ subst (λ x. has_day x left ≡ has_row made_later missed_later x) ((Decides-int_eq day e).0 p)
              (before-none day left before ∙ sym (row-gone at))
          | inr q ↦ sym (ap (λ b. b || has_day e left) q) ∙ days e ∙ sym (row-kept e q)
        ]

    -- what is left after a row more
    rest-step : IsLatest made missed day → (rows : List DayContent) (new : DayContent) (days left : List ℤ) →
        new ≡ day_row caps js is day → AreLeft (day_row caps js is) made missed rows days left →
        (after : List ℤ) × AreLeft (day_row caps js is) made_later missed_later (rows ++ new ∷ []) days after
    rest-step at rows new days [] same are =
        absurd (both_ways (has_row made missed day) (sym (are.with_rows day)) at.has)
    rest-step at rows new days (d ∷ left) same are =
        let is_day : d ≡ day = first-latest at d left are.falls are.with_rows in
        let before : AreBefore day left = subst (λ x. AreBefore x left) is_day are.falls in (
          left,
          record {
            falls = before-falls day left before;
            with_rows = left-days at left before (subst (λ x. AreRowDays made missed (x ∷ left)) is_day are.with_rows);
            rows_first = append_assoc rows (new ∷ []) (map (day_row caps js is) left)
                ∙ ap (λ r. rows ++ r ∷ map (day_row caps js is) left) (same ∙ ap (day_row caps js is) (sym is_day))
                ∙ are.rows_first;
          },
        )

    -- a row more, of the journeys and incomplete touches at the front
    pub under-way-step : (rows : List DayContent) (new : DayContent) → latest made missed ≡ Some day →
        new ≡ row_of_day (caps day) (take (run_length journey_day day made) made)
        (take (run_length incomplete_day day missed) missed) day →
        IsUnderWay caps js is made missed rows → IsUnderWay caps js is made_later missed_later (rows ++ new ∷ [])
    under-way-step rows new is_day same under =
        let at : IsLatest made missed day = is-latest made missed day under.made_falls under.missed_falls is_day in
        let of_day : take (run_length journey_day day made) made ≡ on_day day js =
        run-take journey_day day made at.made_up ∙ under.made_on day at.has in
        let missed_on_day : take (run_length incomplete_day day missed) missed ≡ incompletes_on day is =
        run-take incomplete_day day missed at.missed_up ∙ under.missed_on day at.has in
        let row : new ≡ day_row caps js is day =
        same ∙ ap (λ l. row_of_day (caps day) l (take (run_length incomplete_day day missed) missed) day) of_day
        ∙ ap (λ l. row_of_day (caps day) (on_day day js) l day) missed_on_day in
        record {
          made_falls = rest-falls journey_day day made under.made_falls;
          missed_falls = rest-falls incomplete_day day missed under.missed_falls;
          made_on = λ e has.
              rest-on journey_day day e made (row-other at e has)
              ∙ under.made_on e (sym (row-kept e (row-other at e has)) ∙ has);
          missed_on = λ e has.
              rest-on incomplete_day day e missed (row-other at e has)
              ∙ under.missed_on e (sym (row-kept e (row-other at e has)) ∙ has);
          rest = λ days falls with_rows.
              rest-step at rows new days (under.rest days falls with_rows).0 row (under.rest days falls with_rows).1;
        }
