use Rattle.std.specs.List.{All}
use Rattle.office_lines.specs.Tally.{IsEmpty}
use Rattle.journal_service.proofs.station_line.station_posts.Given as goal

-- each post that was made has served nobody yet
abbrev pub invariant-loop-seat : goal.invariant-loop-seat
invariant-loop-seat g l = All (λ post. IsEmpty post.tally) l.posts.items
