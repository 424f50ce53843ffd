use Rattle.std.proofs.Common.{◌≡◌, Some, IfSome}
use Rattle.oyster_account.specs.declared.touch.Touch.{Touch}
use Rattle.gate_client.specs.Client.{waits_of}
use Rattle.gate_client.proofs.TryLemmas.{IsTrying}
use Rattle.gate_client.proofs.settling.settle.Given as goal

-- the client is as it was, what is ready is the line that was handed in, and each try so far went on
abbrev pub invariant-loop : goal.invariant-loop
invariant-loop g l = record {
  same : l.client ≡ l.initial.client;
  ready : IfSome l.ready (λ begun. l.fn.line ≡ Some begun);
  trying : (t : Touch) → waits_of l.initial.client ≡ Some t
      → IsTrying g.R.Read.remaining g.W.Write.contents g.S.Station.made t l.fn.line l.ready l.counter;
}
