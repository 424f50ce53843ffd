-- Lists of fare days, each of which is there once.
use Rattle.std.proofs.Common.{◌≡◌, ℕ, ℤ, ◌+◌, Bool, true, false, ◌||◌, cond, List, [], ◌∷◌, ap, subst, arith, sum_by}
use Rattle.std.proofs.Common.{refl, inl, inr}
use Rattle.std.specs.Prelude.{if◌then◌else◌}
use Rattle.std.specs.Ordering.{int_eq}
use Rattle.std.proofs.lemmas.Bool.{cases_Bool}
use Rattle.std.proofs.lemmas.Bool.Decides.{Decides-int_eq}
use Rattle.std.proofs.lemmas.List.Sums.{sum_by-cons}
use Rattle.fare_table.specs.declared.rows.Cap.{Cap}
use Rattle.oyster_account.specs.declared.journey.Journey.{Journey}
use Rattle.oyster_account.specs.Journey.{journey_day}
use Rattle.oyster_account.specs.Charge.{day_charge, on_day, has_day, charge_on}
use Rattle.oyster_account.proofs.DayLemmas.{int_eq-swap}

pub or_left : (a b : Bool) → (a || b) ≡ false → a ≡ false
or_left true b is = absurd (cc)
or_left false b is = refl

pub or_right : (a b : Bool) → (a || b) ≡ false → b ≡ false
or_right true b is = absurd (cc)
or_right false b is = is

pub or_other : (a b : Bool) → (a || b) ≡ true → a ≡ false → b ≡ true
or_other true b is not_a = absurd (cc)
or_other false b is not_a = is

-- no day stands twice
abbrev pub AreDistinct : List ℤ → Type 0
AreDistinct [] = Unit {0}
AreDistinct (day ∷ days) = (has_day day days ≡ false) × AreDistinct days

-- two charges of a day that agree on all days but one
module _ (d : ℤ) (before after : ℤ → ℕ) (agree : (e : ℤ) → int_eq d e ≡ false → after e ≡ before e) where
  -- where that day is not among the days, their sums are the same
  no_day : (days : List ℤ) → has_day d days ≡ false → sum_by after days ≡ sum_by before days
  no_day [] is = refl
  no_day (e ∷ days) is =
      let here : after e ≡ before e = agree e (int_eq-swap e d (or_left (int_eq e d) (has_day d days) is)) in
      let there : sum_by after days ≡ sum_by before days = no_day days (or_right (int_eq e d) (has_day d days) is) in
      omega (arith, sum_by-cons after e days, sum_by-cons before e days)

  -- where it is, they differ by the charge of that day
  pub one_day : (days : List ℤ) → AreDistinct days → has_day d days ≡ true →
      sum_by after days + before d ≡ sum_by before days + after d
  one_day [] distinct is = absurd (cc)
  one_day (e ∷ days) distinct is =
      elim (cases_Bool (int_eq e d)) [
        | inl p ↦
            let same : e ≡ d = (Decides-int_eq e d).0 p in
            let there : sum_by after days ≡ sum_by before days =
            no_day days (subst (λ x. has_day x days ≡ false) same distinct.0) in
            let late : after e ≡ after d = ap after same in
            let early : before e ≡ before d = ap before same in
            omega (arith, sum_by-cons after e days, sum_by-cons before e days)
        | inr q ↦
            let here : after e ≡ before e = agree e (int_eq-swap e d q) in
            let there : sum_by after days + before d ≡ sum_by before days + after d =
            one_day days distinct.1 (or_other (int_eq e d) (has_day d days) is q) in
            omega (arith, sum_by-cons after e days, sum_by-cons before e days)
      ]

-- a day that is added is there once
pub add-distinct : (b : Bool) (day : ℤ) (days : List ℤ) → has_day day days ≡ b → AreDistinct days →
    AreDistinct (if b then days else day ∷ days)
add-distinct true day days is distinct = distinct
add-distinct false day days is distinct = (is, distinct)

-- the other days cost what they did
pub charge_on-other : (caps : ℤ → List Cap) (j : Journey) (js : List Journey) (e : ℤ) →
    int_eq (journey_day j) e ≡ false → charge_on caps (j ∷ js) e ≡ charge_on caps js e
charge_on-other caps j js e is = ap (λ b. day_charge (caps e) (cond b (j ∷ on_day e js) (on_day e js))) is
