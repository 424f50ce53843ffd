use Rattle.std.proofs.Common.{◌≡◌, ◌++◌, drop, string_bytes}
use Rattle.door_check.specs.Lines.{printed_ranges}
use Rattle.door_check.proofs.lines.ranges_text.Given as goal

-- the text so far, with the ranges that are left, has all ranges
abbrev pub invariant-loop-range : goal.invariant-loop-range
invariant-loop-range l =
    string_bytes l.text ++ printed_ranges (drop l.range-index l.gates) ≡ printed_ranges l.gates
