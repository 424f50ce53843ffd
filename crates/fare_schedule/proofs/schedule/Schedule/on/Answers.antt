use Rattle.std.proofs.Common.{◌≡◌, sym, ap, ◌∙◌, rules}
use Rattle.std.specs.Int.{w32}
use Rattle.std.specs.Int.RustNames.{FitsSigned}
use Rattle.std.proofs.lemmas.Int.{to_z-of_z}
use Rattle.fare_schedule.specs.Dated.{place_by}
use Rattle.fare_schedule.specs.Places.{table_at}
use Rattle.fare_schedule.proofs.InForceLemmas.{on-place}
use Rattle.fare_schedule.proofs.schedule.Schedule.on.Goals as goal

-- The place found is that of the table in force.
pub returns : goal.returns
returns c =
    let fits : FitsSigned w32 c.args.day = search rules in
    let place : c.place_on.result ≡ place_by 0 c.args.self.now.dated.items c.args.day =
    c.place_on.ensures.value
    ∙ ap (λ day. place_by 0 c.as_slice.result.now day) (to_z-of_z w32 c.args.day fits)
    ∙ ap (λ dated. place_by 0 dated c.args.day) c.as_slice.ensures.value in
    c.table.ensures
    ∙ ap (table_at c.args.self.now.first c.args.self.now.supplied.items) place
    ∙ sym (on-place c.args.self.now c.args.day)
