-- Which cap a statement names, and what it makes of a day.
use Rattle.std.proofs.Common.{◌≡◌, ℕ, ◌+◌, Bool, true, false, not, cond, List, [], ◌∷◌, map, filter, min, refl, sym}
use Rattle.std.proofs.Common.{◌∙◌, arith, sum_by, Option, Some, None, ◌⊎◌, inl, inr}
use Rattle.std.specs.Prelude.{◌==◌, if◌then◌else◌}
use Rattle.std.specs.List.{find}
use Rattle.std.proofs.lemmas.Bool.{cases_lt, both_ways}
use Rattle.std.proofs.lemmas.Bool.Decides.{Decides-eqb}
use Rattle.std.proofs.lemmas.List.Sums.{sum_by-cons}
use Rattle.fare_table.specs.declared.rows.Cap.{Cap}
use Rattle.oyster_account.specs.declared.journey.Journey.{Journey}
use Rattle.card_statement.specs.declared.statement.JourneyRow.{JourneyRow}
use Rattle.oyster_account.specs.Journey.{pence_of}
use Rattle.oyster_account.specs.Charge.{capped, least, day_charge, on_day}
use Rattle.card_statement.specs.NamedCap.{charged_by, applied_cap, is_covered_by}
use Rattle.card_statement.specs.Day.{journey_row}
use Rattle.card_statement.specs.Laws.{DoesCapAttain, pence_uncovered, price_of, IsDayExplained, pence_in_journey}

-- a least number is one of the two
min-either : (n m : ℕ) → (min n m ≡ n) ⊎ (min n m ≡ m)
min-either n m =
    elim (cases_lt n m) [
      | inl lt ↦ inl (omega arith)
      | inr le ↦ inr (omega arith)
    ]

module _ (made : List Journey) (charge : ℕ) where
  found : (b : Bool) (cap : Cap) (rest : Option Cap) → (b ≡ true → capped made cap ≡ charge) →
      (b ≡ false → charged_by made rest ≡ charge) → charged_by made (cond b (Some cap) rest) ≡ charge
  found true cap rest here there = here refl
  found false cap rest here there = there refl

  -- a charge that is the least of a number and of what caps make, and not the number, is what the first such cap makes
  found-attains : (n : ℕ) (caps : List Cap) → least n (map (capped made) caps) ≡ charge → (n ≡ charge → ⊥) →
      charged_by made (find (λ cap. capped made cap == charge) caps) ≡ charge
  found-attains n [] is other = absurd (other is)
  found-attains n (cap ∷ caps) is other =
      found (capped made cap == charge) cap (find (λ c. capped made c == charge) caps)
      (λ yes. (Decides-eqb (capped made cap) charge).0 yes)
      (λ no. found-attains (min n (capped made cap)) caps is (λ same. elim (min-either n (capped made cap)) [
        | inl p ↦ other (sym p ∙ same)
        | inr q ↦ both_ways (capped made cap == charge) no ((Decides-eqb (capped made cap) charge).1 (sym q ∙ same))
      ]))

  applied : (b : Bool) (rest : Option Cap) → (b ≡ true → sum_by pence_of made ≡ charge) →
      (b ≡ false → charged_by made rest ≡ charge) → charged_by made (if b then None else rest) ≡ charge
  applied true rest here there = here refl
  applied false rest here there = there refl

pub cap-attains : DoesCapAttain
cap-attains caps made =
    let charge : ℕ = day_charge caps made in
    let sum : ℕ = sum_by pence_of made in
    applied made charge (sum == charge) (find (λ cap. capped made cap == charge) caps)
    (λ yes. (Decides-eqb sum charge).0 yes)
    (λ no. found-attains made charge sum caps refl
    (λ same. both_ways (sum == charge) no ((Decides-eqb sum charge).1 same)))

-- the rows of journeys that a cap doesn't cover have the fares of these journeys
kept-row : (b : Bool) (row : JourneyRow) (rows : List JourneyRow) (js : List Journey) →
    sum_by pence_in_journey rows ≡ sum_by pence_of js →
    sum_by pence_in_journey (cond (not b) (row ∷ rows) rows) ≡ sum_by pence_of (cond (not b) (row.journey ∷ js) js)
kept-row true row rows js same = same
kept-row false row rows js same =
    omega (arith, same, sum_by-cons pence_in_journey row rows, sum_by-cons pence_of row.journey js)

uncovered-rows : (c : Option Cap) (js : List Journey) →
    pence_uncovered (map (journey_row c) js) ≡ sum_by pence_of (filter (λ k. not (is_covered_by c k)) js)
uncovered-rows c [] = refl
uncovered-rows c (j ∷ js) =
    kept-row (is_covered_by c j) (journey_row c j) (filter (λ row. not row.covered) (map (journey_row c) js))
    (filter (λ k. not (is_covered_by c k)) js) (uncovered-rows c js)

all-uncovered : (js : List Journey) → sum_by pence_of (filter (λ k. not (is_covered_by None k)) js) ≡ sum_by pence_of js
all-uncovered [] = refl
all-uncovered (j ∷ js) =
    omega (
      arith,
      all-uncovered js,
      sum_by-cons pence_of j (filter (λ k. not (is_covered_by None k)) js),
      sum_by-cons pence_of j js,
    )

charged-rows : (c : Option Cap) (js : List Journey) →
    charged_by js c ≡ price_of c + pence_uncovered (map (journey_row c) js)
charged-rows None js = omega (arith, uncovered-rows None js, all-uncovered js)
charged-rows (Some cap) js = omega (arith, uncovered-rows (Some cap) js)

pub day-explained : IsDayExplained
day-explained caps made rows day =
    sym (cap-attains (caps day) (on_day day made))
    ∙ charged-rows (applied_cap (caps day) (on_day day made)) (on_day day made)
