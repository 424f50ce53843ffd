use denote.RattleType.{RattleType}
use denote.Param.Send.{IsSend, IsSync, sendable}
use Rattle.core.specs.declared.ledger.Ledger as ledger
use Rattle.tap_desk.specs.declared.copy_version.LogName as commit_log
use Rattle.tap_office.specs.declared.name.Named as named
use Rattle.tap_office.proofs.Sending.{Desk-send}
use Rattle.tap_office.proofs.seat.Seat.TheSendSync as seat
use Rattle.office_lines.specs.contracts.post.Post as Post
use Rattle.office_lines.proofs.post.serve_all.Goals as goal

Post-send : (L T : RattleType) (n : named.Ghosts T.Denot) (l : ledger.Ghosts T.Denot) (g : commit_log.Ghosts T.Denot)
    → IsSend L → IsSend T → IsSync T → IsSend (Post.the_row L T n l g)
Post-send L T n l g a s y = search (sendable, Desk-send, seat.the_send) depth 20

-- a post goes to another thread as its parts do
pub for_each_mut-requires-send-T : goal.for_each_mut-requires-send-T
for_each_mut-requires-send-T g c κs within =
    let post = Post-send _ _ g.N.Named g.N.Ledger g.N.LogName c.type_bounds.send-L c.type_bounds.send-N
    c.type_bounds.sync-N in
    search sendable depth 20
