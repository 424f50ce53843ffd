use Rattle.std.proofs.Common.{is_some, not, sym, ap, ◌∙◌}
use Rattle.std.specs.Prelude.{IsSome}
use Rattle.gate_client.specs.Client.{waits_of}
use Rattle.station_calls.proofs.ReachedLemmas.{some-waits, reached-settled}
use Rattle.station_calls.proofs.crashes.settled.Goals as goal

pub returns-in-Some : goal.returns-in-Some
returns-in-Some g c alone number first from =
    let some : IsSome (waits_of c.args.client.now) =
    ap is_some (sym c.waiting.ensures) ∙ c.is_none.ensures ∙ ap not c.if-is_none.false in
    let touch = some-waits (waits_of c.args.client.now) some in
    reached-settled _ _ alone g.N.Named.opened number first touch.0 c.settle_in_steps.result c.args.client.now
    c.settle_in_steps.new.client c.args.keeper.now c.settle_in_steps.new.keeper from
    (c.settle_in_steps.ensures alone number from.last touch.0 touch.1 from.gate_shown from.station_shown)
