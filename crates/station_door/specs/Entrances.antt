-- The entrances of a door's rules, each at the place of its rule (this project's choice).
use Rattle.std.specs.Prelude.{◌≡◌, ℕ, List, slice_get, Some}
use Rattle.station_door.specs.declared.entrance.Entrance.{Entrance}

-- each entrance has the place at which it is in the list, counted from 0
abbrev pub AreNumbered : List Entrance → Type 0
AreNumbered entrances =
    (place : ℕ) (entrance : Entrance) → slice_get entrances place ≡ Some entrance
    → entrance.place ≡ place
