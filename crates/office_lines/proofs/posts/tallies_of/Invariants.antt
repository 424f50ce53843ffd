use Rattle.std.proofs.Common.{◌≡◌, map, take, vec_capacity}
use Rattle.office_lines.proofs.posts.tallies_of.Given as goal

-- the tallies of the posts so far, in a place that didn't grow
abbrev pub invariant-loop-post : goal.invariant-loop-post
invariant-loop-post g l = record {
  room : vec_capacity l.tallies ≡ vec_capacity l.fn.ready;
  items : l.tallies.items ≡ map (λ post. post.tally) (take l.post-index l.posts);
}
