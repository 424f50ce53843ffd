use Rattle.std.proofs.Common.{◌≡◌, ◌++◌, drop, map}
use Rattle.door_check.specs.Lines.{shown}
use Rattle.door_check.proofs.name.push_name.Given as goal

-- the text so far, with the bytes that are left as they are printed, has the whole name
abbrev pub invariant-loop-byte : goal.invariant-loop-byte
invariant-loop-byte l =
    l.text.items ++ map shown (drop l.byte-index l.name) ≡ l.fn.text.items ++ map shown l.name
