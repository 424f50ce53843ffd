use Rattle.std.proofs.Common.{◌≡◌, ap, ◌∙◌, map, length, arith}
use Rattle.std.proofs.lemmas.List.{take_all}
use Rattle.office_lines.proofs.LeftLemmas.{mapped-size, mapped-more}
use Rattle.office_lines.proofs.posts.tallies_of.Goals as goal

pub push_reserved-requires : goal.push_reserved-requires
push_reserved-requires g c =
    let size : length c.loop-post.tallies.items ≡ c.loop-post.post-index =
    mapped-size (λ post. post.tally) c.args.posts.now c.loop-post.tallies.items c.loop-post.post-index
    c.loop-post.auto.post-index-end c.loop-post.invariant.items in
    omega (arith, size, c.loop-post.tallies.ok.0, c.loop-post-test.true, c.requires.room, c.loop-post.invariant.room)

pub loop-post-preserved : goal.loop-post-preserved
loop-post-preserved g c = record {
  room = c.push_reserved.ensures.capacity ∙ c.loop-post.invariant.room;
  items = mapped-more (λ post. post.tally) c.args.posts.now c.loop-post.tallies.items c.push_reserved.new.self.items
      c.loop-post.post-index c.post-item.result c.loop-post-test.true c.post-item.is c.loop-post.invariant.items
      c.push_reserved.ensures.items;
}

pub returns : goal.returns
returns g c =
    c.loop-post.invariant.items
    ∙ ap (map (λ post. post.tally)) (take_all c.loop-post.post-index c.args.posts.now c.loop-post-test.false)
