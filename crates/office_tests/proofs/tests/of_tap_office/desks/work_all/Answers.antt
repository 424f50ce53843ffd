use denote.RattleType.{RattleType}
use denote.Param.Send.{IsSend, IsSync, sendable}
use Rattle.core.specs.declared.ledger.Ledger as ledger
use Rattle.tap_desk.specs.declared.copy_version.LogName as commit_log
use Rattle.tap_office.specs.declared.name.Named as named
use Rattle.office_tests.specs.contracts.tests.of_tap_office.desks.Worker as Worker
use Rattle.tap_office.proofs.Sending.{Desk-send}
use Rattle.tap_office.proofs.seat.Seat.TheSendSync as seat
use Rattle.office_tests.proofs.tests.of_tap_office.desks.Log.TheSendSync as log
use Rattle.office_tests.proofs.tests.of_tap_office.desks.work_all.Goals as goal

Worker-send : (T : RattleType) (n : named.Ghosts T.Denot) (l : ledger.Ghosts T.Denot) (g : commit_log.Ghosts T.Denot)
    → IsSend T → IsSync T → IsSend (Worker.the_row T n l g)
Worker-send T n l g s y = search (sendable, Desk-send, seat.the_send, log.the_field_send) depth 20

-- a worker goes to another thread as its parts do
pub for_each_mut-requires-send-T : goal.for_each_mut-requires-send-T
for_each_mut-requires-send-T g c κs within =
    let worker = Worker-send _ g.N.Named g.N.Ledger g.N.LogName c.type_bounds.send-N c.type_bounds.sync-N in
    search sendable depth 20
