-- A desk may go to another thread.
use denote.RattleType.{RattleType}
use denote.Param.Send.{IsSend, IsSync, sendable}
use Rattle.core.specs.declared.ledger.Ledger as ledger
use Rattle.tap_desk.specs.declared.copy_version.LogName as commit_log
use Rattle.tap_desk.proofs.Sending as desk
use Rattle.tap_office.specs.declared.name.Named as named
use Rattle.tap_office.specs.contracts.desk.Desk as Desk

pub Desk-send : (T : RattleType) (n : named.Ghosts T.Denot) (l : ledger.Ghosts T.Denot) (g : commit_log.Ghosts T.Denot)
    → IsSend T → IsSync T → IsSend (Desk.the_row T n l g)
Desk-send T n l g s y = search (sendable, desk.Desk-send) depth 20
