use Rattle.std.proofs.Common.{◌≡◌, ◌++◌, ap, sym, length, map, reverse, arith}
use Rattle.office_lines.proofs.LeftLemmas.{none-left, reversed-more, room-more}
use Rattle.office_lines.proofs.posts.seats_and_desks.Goals as goal

pub loop-post-init : goal.loop-post-init
loop-post-init g c =
    let none = ap length c.requires.empty in
    let no_desks = ap length c.requires.no_desks in
    record {
      room = omega (arith, none, c.requires.room);
      desk_room = omega (arith, no_desks, c.requires.desk_room);
      seats = ap (λ l. l ++ map (λ post. post.seat) (reverse c.args.posts.items)) (sym c.requires.empty);
      desks = ap (λ l. l ++ map (λ post. post.desk) (reverse c.args.posts.items)) (sym c.requires.no_desks);
    }

-- one seat and one desk more, and one post less
pub loop-post-preserved : goal.loop-post-preserved
loop-post-preserved g c =
    let room = room-more c.loop-post.posts.items c.pop.new.self.items c.in-Some.post c.loop-post.seats.items
    c.push_reserved.new.self.items c.in-Some.post.seat _ c.loop-post.invariant.room c.in-Some.ensures.items
    c.push_reserved.ensures.items in
    let desk_room = room-more c.loop-post.posts.items c.pop.new.self.items c.in-Some.post c.loop-post.desks.items
    c.push_reserved-in-Some.new.self.items c.in-Some.post.desk _ c.loop-post.invariant.desk_room c.in-Some.ensures.items
    c.push_reserved-in-Some.ensures.items in
    record {
      room = omega (arith, room, c.push_reserved.ensures.capacity);
      desk_room = omega (arith, desk_room, c.push_reserved-in-Some.ensures.capacity);
      seats = reversed-more (λ post. post.seat) c.loop-post.posts.items c.pop.new.self.items c.in-Some.post _
          c.loop-post.seats.items c.push_reserved.new.self.items c.loop-post.invariant.seats c.in-Some.ensures.items
          c.push_reserved.ensures.items;
      desks = reversed-more (λ post. post.desk) c.loop-post.posts.items c.pop.new.self.items c.in-Some.post _
          c.loop-post.desks.items c.push_reserved-in-Some.new.self.items c.loop-post.invariant.desks
          c.in-Some.ensures.items c.push_reserved-in-Some.ensures.items;
    }

pub returns-clause-seats : goal.returns-clause-seats
returns-clause-seats g c =
    let none : length c.loop-post.posts.items ≡ 0 =
    omega (arith, c.loop-post.posts.ok.0, c.in_default.ensures.cases.0) in
    none-left (λ post. post.seat) c.loop-post.posts.items _ c.loop-post.seats.items none c.loop-post.invariant.seats

pub returns-clause-desks : goal.returns-clause-desks
returns-clause-desks g c =
    let none : length c.loop-post.posts.items ≡ 0 =
    omega (arith, c.loop-post.posts.ok.0, c.in_default.ensures.cases.0) in
    none-left (λ post. post.desk) c.loop-post.posts.items _ c.loop-post.desks.items none c.loop-post.invariant.desks
