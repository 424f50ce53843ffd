use Rattle.std.proofs.Common.{subst, sym}
use Rattle.std.specs.List.{All}
use Rattle.std.proofs.lemmas.List.Elements.{All-push}
use Rattle.office_lines.specs.Tally.{IsEmpty}
use Rattle.journal_service.proofs.station_line.station_posts.Goals as goal

pub loop-seat-preserved : goal.loop-seat-preserved
loop-seat-preserved g c =
    subst (All (λ post. IsEmpty post.tally)) (sym c.in_ok-push.ensures.items)
    (All-push (λ post. IsEmpty post.tally) c.loop-seat.posts.items c.new_post.result c.loop-seat.invariant
    c.new_post.ensures)
