use Rattle.std.proofs.Common.{subst, refl}
use Rattle.std.proofs.lemmas.List.Elements.{All-more}
use Rattle.std.proofs.lemmas.List.{take_all}
use Rattle.std.specs.List.{All}
use Rattle.tap_desk.specs.Desks.{DeskState}
use Rattle.tap_desk.specs.Listed.{HaveGrownTo}
use Rattle.tap_office.proofs.close.are_in.Goals as goal

pub loop-desk-preserved : goal.loop-desk-preserved
loop-desk-preserved g c =
    All-more (λ (desk : DeskState). HaveGrownTo desk.points c.args.publisher.now.list) c.args.desks.now
    c.loop-desk.desk-index _ c.loop-desk-test.true c.loop-desk.invariant
    (subst (λ (desk : DeskState). HaveGrownTo desk.points c.args.publisher.now.list) c.desk-item.is
    (c.if-not-is_in.ensures refl))

pub returns : goal.returns
returns g c =
    λ _. subst (All (λ (desk : DeskState). HaveGrownTo desk.points c.args.publisher.now.list))
    (take_all c.loop-desk.desk-index c.args.desks.now c.loop-desk-test.false) c.loop-desk.invariant
