use Rattle.tap_office.proofs.DeskLemmas.{answered}
use Rattle.tap_office.proofs.desk.Desk.enquire.Goals as goal

-- the desk's list goes on from what was found, by the opening's tables
pub returns-clause-answer : goal.returns-clause-answer
returns-clause-answer g c =
    let said = c.enquire.ensures in
    answered g.N.Named.opened g.N.LogName.table c.self.inside.desk.list c.enquire.new.self.list c.args.card
    c.enquire.result c.self.invariant.1 c.self.invariant.0 said.list said.legal said.front said.view
