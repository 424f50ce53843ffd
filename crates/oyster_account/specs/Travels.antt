-- What a card keeps of its travel, and which travel it stands for. Lists are newest first.
use Rattle.std.specs.Prelude.{◌≡◌, ℕ, ◌+◌, ◌*◌, ◌≤◌, List, [], ◌∷◌, Bool, true, false}
use Rattle.std.specs.Option.{ForSome}
use Rattle.fare_table.specs.declared.key.TheConstants.{HIGHEST_PRICE}
use Rattle.oyster_account.specs.declared.travels.Newest.{Newest}
use Rattle.oyster_account.specs.declared.travels.Newest.TheVariants.{Nowhere, Inside, Outside}
use Rattle.oyster_account.specs.declared.travels.Travels.{Travels}
use Rattle.oyster_account.specs.Scheme.{Scheme}
use Rattle.oyster_account.specs.Travel.{Tap, In, Out, IsKnown}
use Rattle.oyster_account.specs.Leg.{ends_leg}
use Rattle.oyster_account.specs.Journey.{continues, journeys}
use Rattle.oyster_account.specs.Charge.{caps_on, entry_charge, incomplete_charge}
use Rattle.oyster_account.specs.Totals.{IsRunning, spent}

-- the newest touch, with what it did
abbrev pub newest_of : Scheme → List Tap → Newest
newest_of scheme [] = Nowhere
newest_of scheme (In start ∷ taps) = Inside start (continues scheme start taps)
newest_of scheme (Out finish ∷ taps) = Outside finish (ends_leg scheme (Out finish ∷ taps))

-- the travel without an open touch in
abbrev pub closed : List Tap → List Tap
closed (In start ∷ taps) = taps
closed (Out finish ∷ taps) = Out finish ∷ taps
closed [] = []

-- what an open touch in takes, and 0 where there is none
abbrev pub open_charge : Scheme → List Tap → ℕ
open_charge scheme [] = 0
open_charge scheme (In start ∷ taps) = entry_charge scheme start taps
open_charge scheme (Out finish ∷ taps) = 0

-- what is kept is of this travel
pub record IsTravelOf (scheme : Scheme) (taps : List Tap) (travels : Travels) : Type 0 where
  pub totals : IsRunning (caps_on scheme) (journeys scheme taps) travels.totals
  pub incomplete : travels.incomplete ≡ incomplete_charge scheme (closed taps)
  pub taken : travels.taken ≡ open_charge scheme taps
  pub newest : travels.newest ≡ newest_of scheme taps

-- there is an open touch in
abbrev pub is_inside : Newest → Bool
is_inside Nowhere = false
is_inside (Inside start continued) = true
is_inside (Outside finish ended) = false

-- the station of a touch in that is open is known
abbrev pub IsNewestKnown : Scheme → Newest → Type 0
IsNewestKnown scheme Nowhere = Unit {0}
IsNewestKnown scheme (Inside start continued) = IsKnown scheme start
IsNewestKnown scheme (Outside finish ended) = Unit {0}

-- the stations that a further leg may start from are known, the sums are those of so many touches,
-- and the journeys are charged no more than their fares
pub record IsSafe (scheme : Scheme) (count : ℕ) (travels : Travels) : Type 0 where
  pub newest : IsNewestKnown scheme travels.newest
  pub last : ForSome travels.totals.last (λ journey. IsKnown scheme journey.start)
  pub charged : travels.totals.charged ≤ spent travels.totals
  pub spent : spent travels.totals + travels.incomplete ≤ 2 * HIGHEST_PRICE * count
