use Rattle.std.proofs.Common.{subst}
use Rattle.reply_book.specs.Legal.{history_of}
use Rattle.tap_office.specs.Given.{IsLegalFor}
use Rattle.tap_office.specs.Keeper.{KeeperState}
use Rattle.tap_office.proofs.KeeperLemmas.{legal_of}
use Rattle.tap_office.proofs.keeper.Keeper.refused.Goals as goal

-- the history is legal by the opening's tables
pub returns-clause-legal : goal.returns-clause-legal
returns-clause-legal g c =
    let o = g.N.Named.opened in
    let kept = c.self.invariant.0 in
    subst (λ (k : KeeperState g.row.D.Denot). IsLegalFor o (history_of k.history)) c.self.view_is
    (legal_of o c.self.inside.book kept.legal kept.tables kept.cards)
