use Rattle.reply_book.specs.Tables.{tables_in}
use Rattle.station_calls.proofs.ReachedLemmas.{reached-gate, reached-open}
use Rattle.station_calls.proofs.crashes.going.Goals as goal

-- asked, settled, crashed and opened, settled, and the station crashed and opened
pub returns : goal.returns
returns g c alone first tables from given same files =
    let opened = g.N.Named.opened in
    let gate = c.args.gate in
    let asked = reached-gate _ _ alone opened gate first c.args.client c.ask_in_steps.new.client c.args.keeper
    (c.ask_in_steps.ensures.steps alone opened.header.cards gate) from in
    let before = c.settled.ensures alone gate first asked in
    let crashed = reached-gate _ _ alone opened gate first c.settled.new.client c.in_ok-opened.opened
    c.settled.new.keeper (c.in_ok-opened.ensures alone opened.header.cards) before in
    let after = c.settled-2.ensures alone gate first crashed in
    let by = c.in_ok-opening.ensures in
    reached-open _ _ alone opened gate first c.args.cards tables (tables_in c.args.schedule) c.settled-2.new.client
    c.settled-2.new.keeper c.in_ok-opening.opening given same by.opening.cards_is files (by.steps alone) after
