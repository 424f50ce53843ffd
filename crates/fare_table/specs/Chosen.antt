-- Which zones make a fare without a named pair (FARES.md, "Fare by a table"; which of equal
-- prices is taken is this project's choice).
use Rattle.std.specs.Prelude.{◌≡◌, ◌<◌, ◌≤◌, ◌⊎◌, ℕ, Bool, IsTrue, List}
use Rattle.fare_table.specs.Fare.{zone_fare, zone_fares, cheapest_of}
use Rattle.fare_table.specs.Zones.{has_zone, Ascends}
use Rattle.fare_table.specs.declared.fare.Fare.{Fare}
use Rattle.fare_table.specs.declared.rows.Single.{Single}
use Rattle.fare_table.specs.declared.station.Zones.{Zones}

-- the zones of one choice come before those of another: a lower origin zone, or the same and no
-- higher destination zone
abbrev pub IsNoLater : ℕ → ℕ → ℕ → ℕ → Type 0
IsNoLater from to a b = (from < a) ⊎ ((from ≡ a) × (to ≤ b))

-- the fare is that of a zone of the origin and one of the destination; no other choice has a lower
-- fare, and of the choices with the same pence it is the one of the lower origin zone, then of the
-- lower destination zone
pub record IsChosen (singles : List Single) (off_peak : Bool) (origin destination : Zones)
    (fare : Fare) : Type 0 where
  pub from : ℕ
  pub to : ℕ
  pub of_origin : IsTrue (has_zone from origin)
  pub of_destination : IsTrue (has_zone to destination)
  pub made : fare ≡ zone_fare singles off_peak from to
  pub least : (a b : ℕ) → IsTrue (has_zone a origin) → IsTrue (has_zone b destination)
      → fare.pence ≤ (zone_fare singles off_peak a b).pence
  pub first : (a b : ℕ) → IsTrue (has_zone a origin) → IsTrue (has_zone b destination)
      → (zone_fare singles off_peak a b).pence ≡ fare.pence → IsNoLater from to a b

-- the cheapest fare of the zones of two stations, each with one zone or with two in ascending order
abbrev pub IsCheapestChosen : Type 0
IsCheapestChosen =
    (singles : List Single) (off_peak : Bool) (origin destination : Zones)
    → Ascends origin → Ascends destination
    → IsChosen singles off_peak origin destination
    (cheapest_of (zone_fares singles off_peak origin destination))
