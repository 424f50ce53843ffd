use Rattle.std.proofs.Common.{take}
use Rattle.std.specs.List.{All}
use Rattle.tap_desk.specs.Listed.{HaveGrownTo}
use Rattle.tap_office.proofs.close.are_in.Given as goal

abbrev pub invariant-loop-desk : goal.invariant-loop-desk
invariant-loop-desk g l = All (λ desk. HaveGrownTo desk.points l.publisher.list) (take l.desk-index l.desks)
