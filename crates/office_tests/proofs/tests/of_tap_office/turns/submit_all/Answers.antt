use denote.RattleType.{RattleType}
use denote.Param.Send.{IsSend, IsSync, sendable}
use Rattle.core.specs.declared.ledger.Ledger as ledger
use Rattle.tap_desk.specs.declared.copy_version.LogName as commit_log
use Rattle.tap_office.specs.declared.name.Named as named
use Rattle.office_tests.specs.contracts.tests.of_tap_office.turns.Gate as Gate
use Rattle.tap_office.proofs.seat.Seat.TheSendSync as seat
use Rattle.office_tests.proofs.tests.of_tap_office.turns.submit_all.Goals as goal

Gate-send : (T : RattleType) (n : named.Ghosts T.Denot) (l : ledger.Ghosts T.Denot) (g : commit_log.Ghosts T.Denot)
    → IsSend T → IsSync T → IsSend (Gate.the_row T n l g)
Gate-send T n l g s y = search (sendable, seat.the_send) depth 20

-- a gate goes to another thread as its parts do
pub for_each_mut-requires-send-T : goal.for_each_mut-requires-send-T
for_each_mut-requires-send-T g c κs within =
    let gate = Gate-send _ g.N.Named g.N.Ledger g.N.LogName c.type_bounds.send-N c.type_bounds.sync-N in
    search sendable depth 20
