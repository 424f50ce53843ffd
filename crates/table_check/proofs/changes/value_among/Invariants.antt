use Rattle.std.proofs.Common.{◌≡◌, drop}
use Rattle.table_check.specs.Changes.{value_among}
use Rattle.table_check.proofs.changes.value_among.Given as goal

-- what is sought is sought among what is left
abbrev pub invariant-loop-one : goal.invariant-loop-one
invariant-loop-one l = value_among l.place (drop l.one-index l.said) ≡ value_among l.place l.said
