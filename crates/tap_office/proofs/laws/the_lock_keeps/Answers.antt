use Rattle.std.proofs.Common.{◌≡◌, ◌+◌, length, subst}
use Rattle.reply_book.specs.Legal.{history_of}
use Rattle.tap_office.specs.Given.{IsLegalFor}
use Rattle.tap_office.specs.Keeper.{KeeperState, IsHaltedByDisk, IsLeft}
use Rattle.tap_office.proofs.KeeperLemmas.{legal_of, is_left}
use Rattle.tap_office.proofs.laws.the_lock_keeps.Goals as goal

pub returns-clause-legal : goal.returns-clause-legal
returns-clause-legal g c =
    let o = g.N.Named.opened in
    let kept = c.keeper.invariant.0 in
    subst (λ (k : KeeperState g.row.D.Denot). IsLegalFor o (history_of k.history)) c.keeper.view_is
    (legal_of o c.keeper.inside.book kept.legal kept.tables kept.cards)

pub returns-clause-published : goal.returns-clause-published
returns-clause-published g c =
    subst (λ (k : KeeperState g.row.D.Denot). k.published ≡ k.history) c.keeper.view_is c.keeper.invariant.1.list

pub returns-clause-left : goal.returns-clause-left
returns-clause-left g c =
    let o = g.N.Named.opened in
    let inside = c.keeper.inside in
    subst (λ (k : KeeperState g.row.D.Denot). IsLeft g.D.Disk.honest g.D.Disk.content g.D.Disk.outcome o.header
    k.history k.halted k.disk) c.keeper.view_is
    (is_left o inside.book inside.halted inside.journal c.keeper.invariant.0
    g.met.D.Disk.content_is_outcome)

pub returns-clause-failed : goal.returns-clause-failed
returns-clause-failed g c =
    subst (λ (k : KeeperState g.row.D.Denot). IsHaltedByDisk k.halted (g.D.Disk.failed_calls k.disk)) c.keeper.view_is
    c.keeper.invariant.0.failed

pub returns-clause-grown : goal.returns-clause-grown
returns-clause-grown g c =
    subst (λ (k : KeeperState g.row.D.Denot). length k.history ≡ length g.N.Named.opened.recovered + k.total)
    c.keeper.view_is c.keeper.invariant.2.grown
