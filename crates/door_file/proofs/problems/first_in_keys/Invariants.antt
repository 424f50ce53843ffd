use Rattle.std.proofs.Common.{◌≡◌, drop, map}
use Rattle.toml.specs.View.{view, table_view}
use Rattle.toml_reading.specs.First.{first}
use Rattle.door_file.specs.Faults.{keys_faults}
use Rattle.door_file.proofs.problems.first_in_keys.Given as goal

-- the first fault is one of the keys that are left
abbrev pub invariant-loop-key : goal.invariant-loop-key
invariant-loop-key l =
    first (keys_faults l.rule (map view l.earlier) (table_view l.table) l.keys)
    ≡ first (keys_faults l.rule (map view l.earlier) (table_view l.table) (drop l.key-index l.keys))
