-- Which connections get a place at a station's door, and why one gets none (this project's choice).
use Rattle.std.specs.Prelude.{◌≡◌, ℕ, List, Option, Some, None, slice_get, IsSome}
use Rattle.door_file.specs.Rule.{Entry, place_for, rule_for}
use Rattle.station_door.specs.declared.shut_out.ShutOut.{ShutOut}
use Rattle.station_door.specs.declared.shut_out.ShutOut.TheVariants.{NoRule, Connections}

-- this rule is at this place of the list, and it is that of a connection of this name: that of the
-- name itself, else that of all others
pub record IsRuleFor (name : Option (List ℕ)) (rules : List Entry) (place : ℕ) (entry : Entry)
    : Type 0 where
  pub found : place_for name rules ≡ Some place
  pub is : rule_for name rules ≡ Some entry
  pub there : slice_get rules place ≡ Some entry

-- a connection of this name is refused for this place: its rule is there, and has a limit
pub record IsLimited (name : Option (List ℕ)) (rules : List Entry) (place : ℕ) : Type 0 where
  pub entry : Entry
  pub rule : IsRuleFor name rules place entry
  pub limit : IsSome entry.connections

-- all connections of the rule at this place are open: it has a limit
pub record IsFullAt (rules : List Entry) (place : ℕ) (shut : ShutOut) : Type 0 where
  pub is : shut ≡ Connections place
  pub entry : Entry
  pub there : slice_get rules place ≡ Some entry
  pub limit : IsSome entry.connections

-- this is why a connection of this name gets no place: there is no rule for it, or its rule has a
-- limit
abbrev pub IsShutOutFor : Option (List ℕ) → List Entry → ShutOut → Type 0
IsShutOutFor name rules NoRule = rule_for name rules ≡ None
IsShutOutFor name rules (Connections place) = IsLimited name rules place
