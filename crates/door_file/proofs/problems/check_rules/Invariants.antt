use Rattle.std.proofs.Common.{◌≡◌, ◌+◌, [], map, take, drop}
use Rattle.toml.specs.View.{view}
use Rattle.toml_reading.specs.First.{first}
use Rattle.door_file.specs.Faults.{rules_faults}
use Rattle.door_file.proofs.problems.check_rules.Given as goal

-- the first fault is one of the rules that are left
abbrev pub invariant-loop-place : goal.invariant-loop-place
invariant-loop-place l =
    first (rules_faults 1 [] (map view l.rules))
    ≡ first (rules_faults (l.place + 1) (map view (take l.place l.rules)) (map view (drop l.place l.rules)))
