use Rattle.std.proofs.Common.{◌^◌, arith}
use Rattle.office_lines.proofs.ServingLemmas.{HasServed-none, HasServed-more}
use Rattle.office_lines.proofs.TallyLemmas.{IsBelow-more}
use Rattle.office_lines.specs.declared.tally.TheConstants.{MOST}
use Rattle.office_lines.proofs.post.serve_post.Goals as goal

pub loop-init : goal.loop-init
loop-init g c = HasServed-none _ _ _ _

-- where there is room the counts are far below what they may be
pub count-requires-clause-below : goal.count-requires-clause-below
count-requires-clause-below g c =
    IsBelow-more MOST (2 ^ 63) c.loop.tally (omega arith) (c.has_room.ensures c.if-not-has_room.false)

-- one connection more, where there was room for it
pub loop-preserved : goal.loop-preserved
loop-preserved g c =
    let session = c.serve_connection-served in
    HasServed-more c.loop.counter session.result _ _ _ c.args.post.now.tally c.loop.tally c.count.new.self
    c.args.post.now.seat c.loop.seat session.new.seat c.args.post.now.desk c.loop.desk session.new.desk
    c.loop.invariant c.in-Some.ensures session.ensures.counts c.count.ensures.counted c.count.ensures.grown
    session.ensures.seat session.ensures.desk
