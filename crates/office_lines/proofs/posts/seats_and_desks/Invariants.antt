use Rattle.std.proofs.Common.{◌≡◌, ◌+◌, ◌≤◌, ◌++◌, map, reverse, length, vec_capacity}
use Rattle.office_lines.proofs.posts.seats_and_desks.Given as goal

-- the seats and the desks of the posts that were taken, and room for the others
abbrev pub invariant-loop-post : goal.invariant-loop-post
invariant-loop-post g l = record {
  room : length l.seats.items + length l.posts.items ≤ vec_capacity l.seats;
  desk_room : length l.desks.items + length l.posts.items ≤ vec_capacity l.desks;
  seats : map (λ post. post.seat) (reverse l.fn.posts.items)
      ≡ l.seats.items ++ map (λ post. post.seat) (reverse l.posts.items);
  desks : map (λ post. post.desk) (reverse l.fn.posts.items)
      ≡ l.desks.items ++ map (λ post. post.desk) (reverse l.posts.items);
}

abbrev pub decreases-loop-post : goal.decreases-loop-post
decreases-loop-post g l = length l.posts.items
