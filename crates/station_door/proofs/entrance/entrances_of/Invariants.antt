use Rattle.std.proofs.Common.{◌≡◌, vec_len}
use Rattle.station_door.specs.Entrances.{AreNumbered}
use Rattle.station_door.proofs.entrance.entrances_of.Given as goal

-- there is an entrance for each rule so far, each at its rule's place
abbrev pub invariant-loop-place : goal.invariant-loop-place
invariant-loop-place l = record { each : vec_len l.made ≡ l.place; numbered : AreNumbered l.made.items }
