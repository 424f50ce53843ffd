use Rattle.std.proofs.Common.{◌≡◌, map, take}
use Rattle.toml.specs.View.{view}
use Rattle.door_file.specs.Content.{entry_in}
use Rattle.door_file.specs.Rule.{entry_of}
use Rattle.door_file.proofs.reading.rules_of.Given as goal

-- the rules so far
abbrev pub invariant-loop-value : goal.invariant-loop-value
invariant-loop-value l = map entry_of l.rules.items ≡ map entry_in (map view (take l.value-index l.values))
