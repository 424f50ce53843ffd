-- What the rows of a statement sum to.
use Rattle.std.proofs.Common.{◌≡◌, ℕ, ℤ, ◌+◌, Bool, true, false, ◌||◌, cond, List, [], ◌∷◌, map, filter, refl, sym}
use Rattle.std.proofs.Common.{ap, ◌∙◌, subst, arith, sum_by, Option, Some, None, inl, inr}
use Rattle.std.specs.Prelude.{if◌then◌else◌}
use Rattle.std.specs.Ordering.{int_eq}
use Rattle.std.proofs.lemmas.Bool.{cases_Bool}
use Rattle.std.proofs.lemmas.Bool.Decides.{Decides-int_eq}
use Rattle.std.proofs.lemmas.List.Sums.{sum_by-cons}
use Rattle.fare_table.specs.declared.rows.Cap.{Cap}
use Rattle.oyster_account.specs.declared.touch.Act.{Act}
use Rattle.oyster_account.specs.declared.touch.Act.TheVariants.{Enter, Leave, TopUp, Issue, Revise}
use Rattle.oyster_account.specs.declared.travel.Passage.{Passage}
use Rattle.oyster_account.specs.declared.journey.Journey.{Journey}
use Rattle.card_statement.specs.declared.statement.Incomplete.{Incomplete}
use Rattle.oyster_account.specs.Scheme.{Scheme}
use Rattle.oyster_account.specs.Travel.{Tap, In, Out, passage_of, day_of, travel}
use Rattle.oyster_account.specs.Leg.{is_in_time}
use Rattle.oyster_account.specs.Journey.{continues, add_leg, journeys, journey_day}
use Rattle.oyster_account.specs.Charge.{has_day, add_day, charge_on, caps_on, journeys_charge, entry_charge}
use Rattle.oyster_account.specs.Charge.{exit_charge}
use Rattle.oyster_account.specs.Classes.{is_unfinished, is_late, is_unstarted, missing_charge, missing_charges}
use Rattle.oyster_account.specs.Balance.{pence_paid}
use Rattle.card_statement.specs.Incomplete.{is_missing, incomplete_of, incompletes, incomplete_day, pence_missing}
use Rattle.card_statement.specs.Incomplete.{incompletes_on}
use Rattle.card_statement.specs.Day.{day_row, tap_days, has_row, row_days, pence_charged}
use Rattle.card_statement.specs.Statement.{pence_in_row, top_up_rows}
use Rattle.card_statement.specs.Laws.{DoDaysSum, IsStatementBalance}
use Rattle.oyster_account.proofs.DayLemmas.{charge_on-none, int_eq-same, journeys_charge-cons}
use Rattle.card_statement.proofs.DayLists.{AreDistinct, one_day, add-distinct, charge_on-other, or_left, or_right}
use Rattle.oyster_account.proofs.LawLemmas.{incomplete-missing}

-- these days are among those
abbrev pub AreAmong : List ℤ → List ℤ → Type 0
AreAmong days [] = Unit {0}
AreAmong days (d ∷ ds) = (has_day d days ≡ true) × AreAmong days ds

or_so : (a b : Bool) → b ≡ true → (a || b) ≡ true
or_so true b is = refl
or_so false b is = is

or_first : (a b : Bool) → a ≡ true → (a || b) ≡ true
or_first true b is = refl
or_first false b is = absurd (cc)

or_neither : (a b : Bool) → a ≡ false → b ≡ false → (a || b) ≡ false
or_neither true b not_a not_b = absurd (cc)
or_neither false b not_a not_b = not_b

-- days with another one have the days that they had, and that one
had-day : (b : Bool) (d e : ℤ) (days : List ℤ) → has_day d days ≡ true → has_day d (if b then days else e ∷ days) ≡ true
had-day true d e days is = is
had-day false d e days is = or_so (int_eq e d) (has_day d days) is

new-day : (b : Bool) (d : ℤ) (days : List ℤ) → has_day d days ≡ b → has_day d (if b then days else d ∷ days) ≡ true
new-day true d days is = is
new-day false d days is = or_first (int_eq d d) (has_day d days) (int_eq-same d)

add-had : (d e : ℤ) (days : List ℤ) → has_day d days ≡ true → has_day d (add_day e days) ≡ true
add-had d e days is = had-day (has_day e days) d e days is

add-new : (d : ℤ) (days : List ℤ) → has_day d (add_day d days) ≡ true
add-new d days = new-day (has_day d days) d days refl

add-among : (e : ℤ) (days ds : List ℤ) → AreAmong days ds → AreAmong (add_day e days) ds
add-among e days [] among = tt
add-among e days (d ∷ ds) among = (add-had d e days among.0, add-among e days ds among.1)

-- a filter leaves no day that was not there, and no day twice
kept-without : (b : Bool) (d e : ℤ) (days : List ℤ) → int_eq e d ≡ false → has_day d days ≡ false →
    has_day d (cond b (e ∷ days) days) ≡ false
kept-without true d e days other without = or_neither (int_eq e d) (has_day d days) other without
kept-without false d e days other without = without

filter-without : (p : ℤ → Bool) (d : ℤ) (days : List ℤ) → has_day d days ≡ false → has_day d (filter p days) ≡ false
filter-without p d [] is = refl
filter-without p d (e ∷ days) is =
    kept-without (p e) d e (filter p days) (or_left (int_eq e d) (has_day d days) is)
    (filter-without p d days (or_right (int_eq e d) (has_day d days) is))

kept-distinct : (b : Bool) (e : ℤ) (days : List ℤ) → has_day e days ≡ false → AreDistinct days →
    AreDistinct (cond b (e ∷ days) days)
kept-distinct true e days without distinct = (without, distinct)
kept-distinct false e days without distinct = distinct

filter-distinct : (p : ℤ → Bool) (days : List ℤ) → AreDistinct days → AreDistinct (filter p days)
filter-distinct p [] distinct = tt
filter-distinct p (e ∷ days) distinct =
    kept-distinct (p e) e (filter p days) (filter-without p e days distinct.0) (filter-distinct p days distinct.1)

-- a filter leaves the days that pass
kept-has : (b : Bool) (d e : ℤ) (days : List ℤ) → has_day d days ≡ true → has_day d (cond b (e ∷ days) days) ≡ true
kept-has true d e days is = or_so (int_eq e d) (has_day d days) is
kept-has false d e days is = is

kept-here : (b : Bool) (d e : ℤ) (days : List ℤ) → b ≡ true → int_eq e d ≡ true →
    has_day d (cond b (e ∷ days) days) ≡ true
kept-here true d e days is same = or_first (int_eq e d) (has_day d days) same
kept-here false d e days is same = absurd (cc)

or_rest : (a b : Bool) → (a || b) ≡ true → a ≡ false → b ≡ true
or_rest true b is not_a = absurd (cc)
or_rest false b is not_a = is

filter-has : (p : ℤ → Bool) (d : ℤ) (days : List ℤ) → has_day d days ≡ true → p d ≡ true →
    has_day d (filter p days) ≡ true
filter-has p d [] is passes = absurd (cc)
filter-has p d (e ∷ days) is passes =
    elim (cases_Bool (int_eq e d)) [
      | inl same ↦ kept-here (p e) d e (filter p days)
          (subst (λ x. p x ≡ true) (sym ((Decides-int_eq e d).0 same)) passes) same
      | inr other ↦ kept-has (p e) d e (filter p days)
          (filter-has p d days (or_rest (int_eq e d) (has_day d days) is other) passes)
    ]

filter-among : (p : ℤ → Bool) (days ds : List ℤ) → AreAmong days ds →
    ((d : ℤ) → has_day d ds ≡ true → p d ≡ true) → AreAmong (filter p days) ds
filter-among p days [] among each = tt
filter-among p days (d ∷ ds) among each = (
  filter-has p d days among.0 (each d (or_first (int_eq d d) (has_day d ds) (int_eq-same d))),
  filter-among p days ds among.1 (λ e is. each e (or_so (int_eq d e) (has_day e ds) is)),
)

-- days that have the days of all journeys charge what the journeys are charged
no-charges : (caps : ℤ → List Cap) (days : List ℤ) → sum_by (charge_on caps []) days ≡ 0
no-charges caps [] = refl
no-charges caps (d ∷ days) =
    let here : charge_on caps [] d ≡ 0 = charge_on-none caps d [] refl in
    omega (arith, no-charges caps days, sum_by-cons (charge_on caps []) d days)

charges-sum : (caps : ℤ → List Cap) (js : List Journey) (days : List ℤ) → AreDistinct days →
    AreAmong days (map journey_day js) → sum_by (charge_on caps js) days ≡ journeys_charge caps js
charges-sum caps [] days distinct among = no-charges caps days
charges-sum caps (j ∷ js) days distinct among =
    let step : sum_by (charge_on caps (j ∷ js)) days + charge_on caps js (journey_day j)
    ≡ sum_by (charge_on caps js) days + charge_on caps (j ∷ js) (journey_day j) =
    one_day (journey_day j) (charge_on caps js) (charge_on caps (j ∷ js)) (charge_on-other caps j js) days distinct
    among.0 in
    omega (arith, step, charges-sum caps js days distinct among.1, journeys_charge-cons caps j js)

-- and, where they have the days of all incomplete touches, what these are charged
abbrev missing_on : List Incomplete → ℤ → ℕ
missing_on rows day = sum_by pence_missing (incompletes_on day rows)

no-missing : (days : List ℤ) → sum_by (missing_on []) days ≡ 0
no-missing [] = refl
no-missing (d ∷ days) = omega (arith, no-missing days, sum_by-cons (missing_on []) d days)

kept-own : (b : Bool) (row : Incomplete) (rows : List Incomplete) → b ≡ true →
    sum_by pence_missing (cond b (row ∷ rows) rows) ≡ pence_missing row + sum_by pence_missing rows
kept-own true row rows is = sum_by-cons pence_missing row rows
kept-own false row rows is = absurd (cc)

missing-sum : (rows : List Incomplete) (days : List ℤ) → AreDistinct days →
    AreAmong days (map incomplete_day rows) → sum_by (missing_on rows) days ≡ sum_by pence_missing rows
missing-sum [] days distinct among = no-missing days
missing-sum (row ∷ rows) days distinct among =
    let d : ℤ = incomplete_day row in
    let other : (e : ℤ) → int_eq d e ≡ false → missing_on (row ∷ rows) e ≡ missing_on rows e =
    λ e is. ap (λ b. sum_by pence_missing (cond b (row ∷ incompletes_on e rows) (incompletes_on e rows))) is in
    let step : sum_by (missing_on (row ∷ rows)) days + missing_on rows d
    ≡ sum_by (missing_on rows) days + missing_on (row ∷ rows) d =
    one_day d (missing_on rows) (missing_on (row ∷ rows)) other days distinct among.0 in
    let own : missing_on (row ∷ rows) d ≡ pence_missing row + missing_on rows d =
    kept-own (int_eq d d) row (incompletes_on d rows) (int_eq-same d) in
    omega (arith, step, own, missing-sum rows days distinct among.1, sum_by-cons pence_missing row rows)

-- the rows of days charge both
rows-sum : (caps : ℤ → List Cap) (made : List Journey) (rows : List Incomplete) (days : List ℤ) →
    sum_by pence_charged (map (day_row caps made rows) days)
    ≡ sum_by (charge_on caps made) days + sum_by (missing_on rows) days
rows-sum caps made rows [] = refl
rows-sum caps made rows (d ∷ days) =
    omega (
      arith,
      rows-sum caps made rows days,
      sum_by-cons pence_charged (day_row caps made rows d) (map (day_row caps made rows) days),
      sum_by-cons (charge_on caps made) d days,
      sum_by-cons (missing_on rows) d days,
    )

none-kept : (b : Bool) (n : ℕ) → b ≡ false → cond b n 0 ≡ 0
none-kept true n is = absurd (cc)
none-kept false n is = refl

kept-pence : (b : Bool) (row : Incomplete) (rows : List Incomplete) → (b ≡ false → pence_missing row ≡ 0) →
    sum_by pence_missing (cond b (row ∷ rows) rows) ≡ pence_missing row + sum_by pence_missing rows
kept-pence true row rows none = sum_by-cons pence_missing row rows
kept-pence false row rows none = omega (arith, none refl)

module _ (scheme : Scheme) where
  -- a touch that has its other end is charged nothing by itself
  not-missing : (later : Option Tap) (tap : Tap) (taps : List Tap) → is_missing scheme later tap taps ≡ false →
      missing_charge scheme later tap taps ≡ 0
  not-missing later (In a) taps is =
      none-kept (is_unfinished scheme later (In a)) (entry_charge scheme a taps)
      (or_left (is_unfinished scheme later (In a)) (is_late scheme (In a ∷ taps) || is_unstarted (In a ∷ taps)) is)
  not-missing later (Out b) taps is =
      none-kept (is_late scheme (Out b ∷ taps) || is_unstarted (Out b ∷ taps)) (exit_charge scheme b) is

  -- so the rows of incomplete touches are charged what all touches are
  incompletes-sum : (later : Option Tap) (taps : List Tap) →
      sum_by pence_missing (incompletes scheme later taps) ≡ missing_charges scheme later taps
  incompletes-sum later [] = refl
  incompletes-sum later (tap ∷ taps) =
      kept-pence (is_missing scheme later tap taps) (incomplete_of scheme later tap taps)
      (incompletes scheme (Some tap) taps) (not-missing later tap taps)
      ∙ ap (λ n. missing_charge scheme later tap taps + n) (incompletes-sum (Some tap) taps)

  -- no touch's day stands twice
  taps-distinct : (taps : List Tap) → AreDistinct (tap_days taps)
  taps-distinct [] = tt
  taps-distinct (tap ∷ taps) =
      add-distinct (has_day (day_of (passage_of tap)) (tap_days taps)) (day_of (passage_of tap)) (tap_days taps) refl
      (taps-distinct taps)

  -- incomplete touches stand on days of touches
  kept-among : (b : Bool) (row : Incomplete) (rows : List Incomplete) (days : List ℤ) →
      has_day (incomplete_day row) days ≡ true → AreAmong days (map incomplete_day rows) →
      AreAmong days (map incomplete_day (cond b (row ∷ rows) rows))
  kept-among true row rows days has among = (has, among)
  kept-among false row rows days has among = among

  incompletes-among : (later : Option Tap) (taps : List Tap) →
      AreAmong (tap_days taps) (map incomplete_day (incompletes scheme later taps))
  incompletes-among later [] = tt
  incompletes-among later (tap ∷ taps) =
      kept-among (is_missing scheme later tap taps) (incomplete_of scheme later tap taps)
      (incompletes scheme (Some tap) taps) (tap_days (tap ∷ taps)) (add-new (day_of (passage_of tap)) (tap_days taps))
      (add-among (day_of (passage_of tap)) (tap_days taps) (map incomplete_day (incompletes scheme (Some tap) taps))
      (incompletes-among (Some tap) taps))

  -- so do journeys
  added-among : (continued : Bool) (a b : Passage) (js : List Journey) (days : List ℤ) →
      has_day (day_of a) days ≡ true → AreAmong days (map journey_day js) →
      AreAmong days (map journey_day (add_leg scheme continued a b js))
  added-among true a b [] days has among = (has, tt)
  added-among true a b (j ∷ js) days has among = among
  added-among false a b [] days has among = (has, tt)
  added-among false a b (j ∷ js) days has among = (has, among)

  leg-among : (in_time continued : Bool) (a b : Passage) (js : List Journey) (days : List ℤ) →
      has_day (day_of a) days ≡ true → AreAmong days (map journey_day js) →
      AreAmong days (map journey_day (cond in_time (add_leg scheme continued a b js) js))
  leg-among true continued a b js days has among = added-among continued a b js days has among
  leg-among false continued a b js days has among = among

  journeys-among : (taps : List Tap) → AreAmong (tap_days taps) (map journey_day (journeys scheme taps))
  journeys-among [] = tt
  journeys-among (In a ∷ taps) =
      add-among (day_of a) (tap_days taps) (map journey_day (journeys scheme taps)) (journeys-among taps)
  journeys-among (Out b ∷ []) = tt
  journeys-among (Out b ∷ Out c ∷ taps) =
      add-among (day_of b) (tap_days (Out c ∷ taps)) (map journey_day (journeys scheme (Out c ∷ taps)))
      (journeys-among (Out c ∷ taps))
  journeys-among (Out b ∷ In a ∷ taps) =
      let inside : List ℤ = tap_days (In a ∷ taps) in
      let before : List ℤ = map journey_day (journeys scheme taps) in
      leg-among (is_in_time scheme a b) (continues scheme a taps) a b (journeys scheme taps)
      (tap_days (Out b ∷ In a ∷ taps))
      (add-had (day_of a) (day_of b) inside (add-new (day_of a) (tap_days taps)))
      (add-among (day_of b) inside before (add-among (day_of a) (tap_days taps) before (journeys-among taps)))

  -- so the days with rows have all of them, each day once
  rows-distinct : (taps : List Tap) → AreDistinct (row_days scheme taps)
  rows-distinct taps =
      filter-distinct (has_row (journeys scheme taps) (incompletes scheme None taps)) (tap_days taps)
      (taps-distinct taps)

  pub journeys-rows : (taps : List Tap) → AreAmong (row_days scheme taps) (map journey_day (journeys scheme taps))
  journeys-rows taps =
      let made : List Journey = journeys scheme taps in
      let rows : List Incomplete = incompletes scheme None taps in
      filter-among (has_row made rows) (tap_days taps) (map journey_day made) (journeys-among taps)
      (λ d is. or_first (has_day d (map journey_day made)) (has_day d (map incomplete_day rows)) is)

  pub incompletes-rows : (taps : List Tap) →
      AreAmong (row_days scheme taps) (map incomplete_day (incompletes scheme None taps))
  incompletes-rows taps =
      let made : List Journey = journeys scheme taps in
      let rows : List Incomplete = incompletes scheme None taps in
      filter-among (has_row made rows) (tap_days taps) (map incomplete_day rows) (incompletes-among None taps)
      (λ d is. or_so (has_day d (map journey_day made)) (has_day d (map incomplete_day rows)) is)

pub days-sum : DoDaysSum
days-sum scheme taps =
    let made : List Journey = journeys scheme taps in
    let rows : List Incomplete = incompletes scheme None taps in
    let days : List ℤ = row_days scheme taps in
    omega (
      arith,
      rows-sum (caps_on scheme) made rows days,
      charges-sum (caps_on scheme) made days (rows-distinct scheme taps) (journeys-rows scheme taps),
      missing-sum rows days (rows-distinct scheme taps) (incompletes-rows scheme taps),
      incompletes-sum scheme None taps,
      incomplete-missing scheme taps,
    )

-- the rows of top-ups pay in what the acts do
pub top-ups-sum : (scheme : Scheme) (acts : List Act) →
    sum_by pence_in_row (top_up_rows scheme acts) ≡ sum_by pence_paid acts
top-ups-sum scheme [] = refl
top-ups-sum scheme (Enter station moment ∷ acts) =
    omega (arith, top-ups-sum scheme acts, sum_by-cons pence_paid (Enter station moment) acts)
top-ups-sum scheme (Leave station moment ∷ acts) =
    omega (arith, top-ups-sum scheme acts, sum_by-cons pence_paid (Leave station moment) acts)
top-ups-sum scheme (TopUp pence moment ∷ acts) =
    omega (
      arith,
      top-ups-sum scheme acts,
      sum_by-cons pence_paid (TopUp pence moment) acts,
      sum_by-cons pence_in_row (record { pence = pence; stamp = scheme.stamp moment }) (top_up_rows scheme acts),
    )
top-ups-sum scheme (Issue moment ∷ acts) =
    omega (arith, top-ups-sum scheme acts, sum_by-cons pence_paid (Issue moment) acts)
top-ups-sum scheme (Revise day moment digest ∷ acts) =
    omega (arith, top-ups-sum scheme acts, sum_by-cons pence_paid (Revise day moment digest) acts)

pub statement-balance : IsStatementBalance
statement-balance scheme acts =
    rw (top-ups-sum scheme acts, days-sum scheme (travel scheme acts)) refl
