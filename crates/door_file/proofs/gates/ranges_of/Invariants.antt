use Rattle.std.proofs.Common.{◌≡◌, map, take}
use Rattle.toml.specs.View.{view}
use Rattle.door_file.specs.Content.{ranges_of}
use Rattle.door_file.proofs.gates.ranges_of.Given as goal

-- the ranges so far
abbrev pub invariant-loop-item : goal.invariant-loop-item
invariant-loop-item l = l.ranges.items ≡ ranges_of (map view (take l.item-index l.items))
