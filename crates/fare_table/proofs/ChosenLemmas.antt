-- The first of the cheapest fares, and the zones that make it.
use Rattle.std.proofs.Common.{◌≡◌, ℕ, suc, zero, ◌<◌, ◌≤◌, Bool, true, false, ◌||◌, ◌==◌, List, [], ◌∷◌, nat_lt}
use Rattle.std.proofs.Common.{length, get_or, refl, subst, arith, inl, inr}
use Rattle.std.proofs.lemmas.Bool.{cases_Bool, cond-true, cond-false, eqb-true, eq-eqb, or_cases, ltb-true, ltb-false}
use Rattle.fare_table.specs.Fare.{zone_fare, cheaper, cheapest}
use Rattle.fare_table.specs.Zones.{has_zone}
use Rattle.fare_table.specs.Chosen.{IsNoLater, IsChosen, IsCheapestChosen}
use Rattle.fare_table.specs.declared.fare.Fare.{Fare}
use Rattle.fare_table.specs.declared.rows.Single.{Single}
use Rattle.fare_table.specs.declared.station.Zones.{Zones}
use Rattle.fare_table.specs.declared.station.Zones.TheVariants.{One, Two}

-- a fare stands at a place of a list, those before it cost more, and none costs less
pub record IsFirstLeast (fares : List Fare) (fare : Fare) : Type 0 where
  pub place : ℕ
  pub within : place < length fares
  pub at : (other : Fare) → fare ≡ get_or fares place other
  pub above : (j : ℕ) (other : Fare) → j < place → fare.pence < (get_or fares j other).pence
  pub least : (j : ℕ) (other : Fare) → j < length fares → fare.pence ≤ (get_or fares j other).pence

least-alone : (f : Fare) (j : ℕ) (other : Fare) → j < length (f ∷ []) → f.pence ≤ (get_or (f ∷ []) j other).pence
least-alone f zero other within = omega arith
least-alone f (suc j) other within = absurd (omega (arith, within))

-- ---- the second of two fares is cheaper

above-taken : (f g : Fare) (gs : List Fare) (r : Fare) → g.pence < f.pence → (best : IsFirstLeast (g ∷ gs) r) →
    (j : ℕ) (other : Fare) → j < suc best.place → r.pence < (get_or (f ∷ g ∷ gs) j other).pence
above-taken f g gs r less best zero other before =
    let low : r.pence ≤ g.pence = best.least 0 g (omega arith) in
    omega (arith, low, less)
above-taken f g gs r less best (suc j) other before = best.above j other (omega (arith, before))

least-taken : (f g : Fare) (gs : List Fare) (r : Fare) → g.pence < f.pence → (best : IsFirstLeast (g ∷ gs) r) →
    (j : ℕ) (other : Fare) → j < length (f ∷ g ∷ gs) → r.pence ≤ (get_or (f ∷ g ∷ gs) j other).pence
least-taken f g gs r less best zero other within =
    let low : r.pence ≤ g.pence = best.least 0 g (omega arith) in
    omega (arith, low, less)
least-taken f g gs r less best (suc j) other within = best.least j other (omega (arith, within))

taken : (f g : Fare) (gs : List Fare) (r : Fare) → g.pence < f.pence → IsFirstLeast (g ∷ gs) r →
    IsFirstLeast (f ∷ g ∷ gs) r
taken f g gs r less best = record {
  place = suc best.place;
  within = omega (arith, best.within);
  at = best.at;
  above = above-taken f g gs r less best;
  least = least-taken f g gs r less best;
}

-- ---- the second of two fares is not cheaper

above-kept : (f g : Fare) (gs : List Fare) (r : Fare) (k : ℕ) → f.pence ≤ g.pence →
    ((j : ℕ) (other : Fare) → j < suc k → r.pence < (get_or (f ∷ gs) j other).pence) →
    (j : ℕ) (other : Fare) → j < suc (suc k) → r.pence < (get_or (f ∷ g ∷ gs) j other).pence
above-kept f g gs r k low above zero other before = above 0 other (omega arith)
above-kept f g gs r k low above (suc zero) other before =
    let first : r.pence < f.pence = above 0 other (omega arith) in
    omega (arith, first, low)
above-kept f g gs r k low above (suc (suc j)) other before = above (suc j) other (omega (arith, before))

least-kept : (f g : Fare) (gs : List Fare) (r : Fare) → f.pence ≤ g.pence →
    ((j : ℕ) (other : Fare) → j < length (f ∷ gs) → r.pence ≤ (get_or (f ∷ gs) j other).pence) →
    (j : ℕ) (other : Fare) → j < length (f ∷ g ∷ gs) → r.pence ≤ (get_or (f ∷ g ∷ gs) j other).pence
least-kept f g gs r low least zero other within = least 0 other (omega arith)
least-kept f g gs r low least (suc zero) other within =
    let first : r.pence ≤ f.pence = least 0 other (omega arith) in
    omega (arith, first, low)
least-kept f g gs r low least (suc (suc j)) other within = least (suc j) other (omega (arith, within))

kept : (f g : Fare) (gs : List Fare) (r : Fare) → f.pence ≤ g.pence → (k : ℕ) → k < length (f ∷ gs) →
    ((other : Fare) → r ≡ get_or (f ∷ gs) k other) →
    ((j : ℕ) (other : Fare) → j < k → r.pence < (get_or (f ∷ gs) j other).pence) →
    ((j : ℕ) (other : Fare) → j < length (f ∷ gs) → r.pence ≤ (get_or (f ∷ gs) j other).pence) →
    IsFirstLeast (f ∷ g ∷ gs) r
kept f g gs r low zero within at above least = record {
  place = 0;
  within = omega arith;
  at = at;
  above = λ j other before. absurd (omega (arith, before));
  least = least-kept f g gs r low least;
}
kept f g gs r low (suc k) within at above least = record {
  place = suc (suc k);
  within = omega (arith, within);
  at = at;
  above = above-kept f g gs r k low above;
  least = least-kept f g gs r low least;
}

-- the cheapest of some fares is the first of the least
first-least : (f : Fare) (gs : List Fare) → IsFirstLeast (f ∷ gs) (cheapest f gs)
first-least f [] = record {
  place = 0;
  within = omega arith;
  at = λ other. refl;
  above = λ j other before. absurd (omega (arith, before));
  least = least-alone f;
}
first-least f (g ∷ gs) =
    let r : Fare = cheapest (cheaper f g) gs in
    elim (cases_Bool (nat_lt g.pence f.pence)) [
      | inl less ↦
          let picked : cheaper f g ≡ g = cond-true (nat_lt g.pence f.pence) g f less in
          taken f g gs r (ltb-true g.pence f.pence less)
          (subst (λ h. IsFirstLeast (h ∷ gs) r) picked (first-least (cheaper f g) gs))
      | inr other ↦
          let picked : cheaper f g ≡ f = cond-false (nat_lt g.pence f.pence) g f other in
          let best = subst (λ h. IsFirstLeast (h ∷ gs) r) picked (first-least (cheaper f g) gs) in
          kept f g gs r (ltb-false g.pence f.pence other) best.place best.within best.at best.above best.least
    ]

-- ---- the zones of a station

itself : (zone : ℕ) → (zone == zone) ≡ true
itself zone = eq-eqb zone zone refl

or_second : (a b : Bool) → b ≡ true → a || b ≡ true
or_second true b e = refl
or_second false b e = e

lower : (low high : ℕ) → has_zone low (Two low high) ≡ true
lower low high = rw (itself low) refl

higher : (low high : ℕ) → has_zone high (Two low high) ≡ true
higher low high = or_second (low == high) (high == high) (itself high)

each-one : (only : ℕ) (P : ℕ → Type 0) → P only → (a : ℕ) → has_zone a (One only) ≡ true → P a
each-one only P here a is = subst P (eqb-true only a is) here

each-two : (low high : ℕ) (P : ℕ → Type 0) → P low → P high → (a : ℕ) → has_zone a (Two low high) ≡ true → P a
each-two low high P here there a is =
    elim (or_cases (low == a) (high == a) is) [
      | inl same ↦ subst P (eqb-true low a same) here
      | inr same ↦ subst P (eqb-true high a same) there
    ]

-- ---- the zones of a fare

module _ (singles : List Single) (off_peak : Bool) where
  abbrev fare : ℕ → ℕ → Fare
  fare a b = zone_fare singles off_peak a b

  -- no choice is cheaper, and this one comes before those of the same pence
  abbrev IsBest : ℕ → ℕ → Fare → ℕ → ℕ → Type 0
  IsBest from to r a b = (r.pence ≤ (fare a b).pence) × ((fare a b).pence ≡ r.pence → IsNoLater from to a b)

  -- a choice that costs more needs no order
  dearer : (from to a b : ℕ) (r : Fare) → r.pence < (fare a b).pence → IsBest from to r a b
  dearer from to a b r more = (omega (arith, more), λ same. absurd (omega (arith, more, same)))

  chosen : (origin destination : Zones) (from to : ℕ) (r : Fare) → has_zone from origin ≡ true →
      has_zone to destination ≡ true → r ≡ fare from to →
      ((a b : ℕ) → has_zone a origin ≡ true → has_zone b destination ≡ true → IsBest from to r a b) →
      IsChosen singles off_peak origin destination r
  chosen origin destination from to r of_origin of_destination made each = record {
    from = from;
    to = to;
    of_origin = of_origin;
    of_destination = of_destination;
    made = made;
    least = λ a b one other. (each a b one other).0;
    first = λ a b one other same. (each a b one other).1 same;
  }

  -- a choice is no dearer than a fare below it
  itself-best : (from to : ℕ) (r : Fare) → r.pence ≤ (fare from to).pence → IsBest from to r from to
  itself-best from to r low = (low, λ same. inr (refl, omega arith))

  same-origin : (from to b : ℕ) (r : Fare) → to < b → r.pence ≤ (fare from b).pence → IsBest from to r from b
  same-origin from to b r up low = (low, λ same. inr (refl, omega (arith, up)))

  later-origin : (from to a b : ℕ) (r : Fare) → from < a → r.pence ≤ (fare a b).pence → IsBest from to r a b
  later-origin from to a b r up low = (low, λ same. inl up)

  -- one zone and one zone
  chosen-1-1 : (a d : ℕ) (r : Fare) → IsFirstLeast (fare a d ∷ []) r → (k : ℕ) → k < 1 →
      ((other : Fare) → r ≡ get_or (fare a d ∷ []) k other) → IsChosen singles off_peak (One a) (One d) r
  chosen-1-1 a d r best zero within at =
      chosen (One a) (One d) a d r (itself a) (itself d) (at r)
      (λ x y one other. each-one a (λ x. IsBest a d r x y)
      (each-one d (IsBest a d r a) (itself-best a d r (best.least 0 r (omega arith))) y other) x one)
  chosen-1-1 a d r best (suc k) within at = absurd (omega (arith, within))

  -- one zone and two
  chosen-1-2 : (a d e : ℕ) (r : Fare) → d < e → (best : IsFirstLeast (fare a d ∷ fare a e ∷ []) r) →
      (k : ℕ) → k ≡ best.place → ((other : Fare) → r ≡ get_or (fare a d ∷ fare a e ∷ []) k other) →
      IsChosen singles off_peak (One a) (Two d e) r
  chosen-1-2 a d e r up best zero place at =
      chosen (One a) (Two d e) a d r (itself a) (lower d e) (at r)
      (λ x y one other. each-one a (λ x. IsBest a d r x y)
      (each-two d e (IsBest a d r a)
      (itself-best a d r (best.least 0 r (omega arith)))
      (same-origin a d e r up (best.least 1 r (omega arith))) y other) x one)
  chosen-1-2 a d e r up best (suc zero) place at =
      chosen (One a) (Two d e) a e r (itself a) (higher d e) (at r)
      (λ x y one other. each-one a (λ x. IsBest a e r x y)
      (each-two d e (IsBest a e r a)
      (dearer a e a d r (best.above 0 r (omega (arith, place))))
      (itself-best a e r (best.least 1 r (omega arith))) y other) x one)
  chosen-1-2 a d e r up best (suc (suc k)) place at = absurd (omega (arith, place, best.within))

  -- two zones and one
  chosen-2-1 : (a b d : ℕ) (r : Fare) → a < b → (best : IsFirstLeast (fare a d ∷ fare b d ∷ []) r) →
      (k : ℕ) → k ≡ best.place → ((other : Fare) → r ≡ get_or (fare a d ∷ fare b d ∷ []) k other) →
      IsChosen singles off_peak (Two a b) (One d) r
  chosen-2-1 a b d r up best zero place at =
      chosen (Two a b) (One d) a d r (lower a b) (itself d) (at r)
      (λ x y one other. each-two a b (λ x. IsBest a d r x y)
      (each-one d (IsBest a d r a) (itself-best a d r (best.least 0 r (omega arith))) y other)
      (each-one d (IsBest a d r b) (later-origin a d b d r up (best.least 1 r (omega arith))) y other) x one)
  chosen-2-1 a b d r up best (suc zero) place at =
      chosen (Two a b) (One d) b d r (higher a b) (itself d) (at r)
      (λ x y one other. each-two a b (λ x. IsBest b d r x y)
      (each-one d (IsBest b d r a) (dearer b d a d r (best.above 0 r (omega (arith, place)))) y other)
      (each-one d (IsBest b d r b) (itself-best b d r (best.least 1 r (omega arith))) y other) x one)
  chosen-2-1 a b d r up best (suc (suc k)) place at = absurd (omega (arith, place, best.within))

  -- two zones and two
  module _ (a b d e : ℕ) (r : Fare) (up : a < b) (up_to : d < e)
      (best : IsFirstLeast (fare a d ∷ fare a e ∷ fare b d ∷ fare b e ∷ []) r) where
    -- each of the four choices is no better than this one
    four : (from to : ℕ) → has_zone from (Two a b) ≡ true → has_zone to (Two d e) ≡ true → r ≡ fare from to →
        IsBest from to r a d → IsBest from to r a e → IsBest from to r b d → IsBest from to r b e →
        IsChosen singles off_peak (Two a b) (Two d e) r
    four from to of_origin of_destination made ad ae bd be =
        chosen (Two a b) (Two d e) from to r of_origin of_destination made
        (λ x y one other. each-two a b (λ x. IsBest from to r x y)
        (each-two d e (IsBest from to r a) ad ae y other) (each-two d e (IsBest from to r b) bd be y other) x one)

    at_least : (j : ℕ) → j < 4 →
        r.pence ≤ (get_or (fare a d ∷ fare a e ∷ fare b d ∷ fare b e ∷ []) j r).pence
    at_least j within = best.least j r (omega (arith, within))

    chosen-2-2 : (k : ℕ) → k ≡ best.place →
        ((other : Fare) → r ≡ get_or (fare a d ∷ fare a e ∷ fare b d ∷ fare b e ∷ []) k other) →
        IsChosen singles off_peak (Two a b) (Two d e) r
    chosen-2-2 zero place at =
        four a d (lower a b) (lower d e) (at r)
        (itself-best a d r (at_least 0 (omega arith))) (same-origin a d e r up_to (at_least 1 (omega arith)))
        (later-origin a d b d r up (at_least 2 (omega arith))) (later-origin a d b e r up (at_least 3 (omega arith)))
    chosen-2-2 (suc zero) place at =
        four a e (lower a b) (higher d e) (at r)
        (dearer a e a d r (best.above 0 r (omega (arith, place)))) (itself-best a e r (at_least 1 (omega arith)))
        (later-origin a e b d r up (at_least 2 (omega arith))) (later-origin a e b e r up (at_least 3 (omega arith)))
    chosen-2-2 (suc (suc zero)) place at =
        four b d (higher a b) (lower d e) (at r)
        (dearer b d a d r (best.above 0 r (omega (arith, place))))
        (dearer b d a e r (best.above 1 r (omega (arith, place))))
        (itself-best b d r (at_least 2 (omega arith))) (same-origin b d e r up_to (at_least 3 (omega arith)))
    chosen-2-2 (suc (suc (suc zero))) place at =
        four b e (higher a b) (higher d e) (at r)
        (dearer b e a d r (best.above 0 r (omega (arith, place))))
        (dearer b e a e r (best.above 1 r (omega (arith, place))))
        (dearer b e b d r (best.above 2 r (omega (arith, place)))) (itself-best b e r (at_least 3 (omega arith)))
    chosen-2-2 (suc (suc (suc (suc k)))) place at = absurd (omega (arith, place, best.within))

-- the cheapest fare is of the choice that the rule names
pub cheapest-chosen : IsCheapestChosen
cheapest-chosen singles off_peak (One a) (One d) up up_to =
    let best = first-least (zone_fare singles off_peak a d) [] in
    chosen-1-1 singles off_peak a d _ best best.place (omega (arith, best.within)) best.at
cheapest-chosen singles off_peak (One a) (Two d e) up up_to =
    let best = first-least (zone_fare singles off_peak a d) (zone_fare singles off_peak a e ∷ []) in
    chosen-1-2 singles off_peak a d e _ up_to best best.place refl best.at
cheapest-chosen singles off_peak (Two a b) (One d) up up_to =
    let best = first-least (zone_fare singles off_peak a d) (zone_fare singles off_peak b d ∷ []) in
    chosen-2-1 singles off_peak a b d _ up best best.place refl best.at
cheapest-chosen singles off_peak (Two a b) (Two d e) up up_to =
    let best = first-least (zone_fare singles off_peak a d) (zone_fare singles off_peak a e
    ∷ zone_fare singles off_peak b d ∷ zone_fare singles off_peak b e ∷ []) in
    chosen-2-2 singles off_peak a b d e _ up up_to best best.place refl best.at
