use Rattle.std.proofs.Common.{ap, ◌∙◌}
use Rattle.tap_office.specs.Name.{Opened}
use Rattle.station_calls.proofs.ReachedLemmas.{reached-keeper, given-by}
use Rattle.station_calls.proofs.crashes.round_in_steps.Goals as goal

pub returns-in-Ok : goal.returns-in-Ok
returns-in-Ok g c alone first from files =
    let opened = g.N.Named.opened in
    let opening = c.args.opening in
    let is = c.requires.name.is in
    c.going.ensures alone first opening.tables
    (reached-keeper _ _ alone opened c.args.gate first c.args.cards c.args.client opening c.in-Ok.keeper is
    c.in-Ok.ensures from) (given-by opened opening is)
    (ap (λ (o : Opened). o.header.cards) is ∙ from.cards_is) files
