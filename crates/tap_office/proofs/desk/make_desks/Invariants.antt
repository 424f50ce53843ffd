use Rattle.std.proofs.Common.{◌≡◌}
use Rattle.tap_office.specs.Opening.{AreNewDesks}
use Rattle.tap_office.proofs.desk.make_desks.Given as goal

abbrev pub invariant-loop : goal.invariant-loop
invariant-loop g l =
    record {
      desks : AreNewDesks l.counter g.N.Named.opened.recovered l.desks.items;
      same : l.publisher ≡ l.fn.publisher;
    }
