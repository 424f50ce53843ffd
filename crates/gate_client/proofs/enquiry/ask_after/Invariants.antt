use Rattle.std.proofs.Common.{◌≡◌, Some, IfSome}
use Rattle.gate_client.proofs.enquiry.ask_after.Given as goal

-- what is ready is the line that was handed in
abbrev pub invariant-loop : goal.invariant-loop
invariant-loop g l = IfSome l.ready (λ begun. l.fn.line ≡ Some begun)
