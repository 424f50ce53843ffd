use Rattle.std.proofs.Common.{◌+◌, ◌∙◌, ap, refl}
use Rattle.table_check.proofs.TableLemmas.{handed-on, first-alone, supplied-next, refused-next, front-next}
use Rattle.table_check.proofs.tables.schedule_of.Goals as goal

pub loop-path-init : goal.loop-path-init
loop-path-init g c =
    let alone = first-alone (g.F.WholeFiles.gave c.args.files.now) c.args.first c.in_ok-schedule.schedule
    c.in_ok-schedule.ensures.tables in
    record { place = refl; first = alone.0; supplied = alone.1; unrevised = c.in_ok-schedule.ensures.revisions }

-- the table of one word more stands behind the others
pub loop-path-preserved : goal.loop-path-preserved
loop-path-preserved g c =
    let gave = g.F.WholeFiles.gave c.args.files.now in
    let old = c.loop-path.schedule in
    let new = c.supply_from.new.schedule in
    let taken = c.in_ok-supply_from.ensures.supplied in
    record {
      place = ap (λ n. n + 1) c.loop-path.invariant.place;
      first = front-next gave _ old new taken ∙ c.loop-path.invariant.first;
      supplied = supplied-next (λ word. word.now) c.args.revisions.now c.loop-path.path-index _
          c.loop-path-test.true gave old new c.loop-path.invariant.supplied taken;
      unrevised = c.supply_from.ensures.revisions ∙ c.loop-path.invariant.unrevised;
    }

-- a word that isn't taken stands behind those that were
pub returns-in_err-supply_from-clause-fault : goal.returns-in_err-supply_from-clause-fault
returns-in_err-supply_from-clause-fault g c =
    handed-on _ c.from_residual-in_err-supply_from.result c.in_err-supply_from.field-0.0
    c.from_residual-in_err-supply_from.ensures.1
    (refused-next (λ word. word.now) c.args.revisions.now c.loop-path.path-index _ c.loop-path-test.true
    (g.F.WholeFiles.gave c.args.files.now) c.args.first c.loop-path.schedule c.in_err-supply_from.field-0.0
    c.loop-path.place c.loop-path.invariant.place
    c.loop-path.invariant.first c.loop-path.invariant.supplied c.in_err-supply_from.ensures.fault)
