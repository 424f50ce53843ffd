use Rattle.office_lines.specs.Post.{HasServed}
use Rattle.office_lines.proofs.post.serve_post.Given as goal

-- so many connections were served
abbrev pub invariant-loop : goal.invariant-loop
invariant-loop g l = HasServed l.counter (g.L.GateLine.given l.fn.post.line) (g.L.GateLine.given l.line) l.fn.post.tally
    l.tally l.fn.post.seat l.seat l.fn.post.desk l.desk
