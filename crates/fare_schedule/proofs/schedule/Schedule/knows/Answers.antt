use Rattle.std.proofs.Common.{is_some, ap, ◌∙◌}
use Rattle.fare_schedule.specs.Schedule.{tables_of}
use Rattle.fare_schedule.proofs.PlaceLemmas.{place-some}
use Rattle.fare_schedule.proofs.schedule.Schedule.knows.Goals as goal

-- A digest has a place where it has a table.
pub returns : goal.returns
returns c =
    c.is_some.ensures
    ∙ ap is_some c.place_of.ensures.value
    ∙ place-some 0 (tables_of c.args.self.now) c.args.digest.now
