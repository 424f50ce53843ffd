use Rattle.std.proofs.Common.{◌≡◌, ◌-◌, Some, length, sym, ap, ◌∙◌, rules, option_map, slice_get, option_copied}
use Rattle.std.specs.Int.{w32}
use Rattle.std.specs.Int.RustNames.{FitsSigned}
use Rattle.std.proofs.lemmas.Int.{to_z-of_z}
use Rattle.fare_schedule.specs.declared.dated.Dated.{Dated}
use Rattle.fare_schedule.proofs.DatedLemmas.{last-day}
use Rattle.fare_schedule.proofs.schedule.Schedule.last_day.Goals as goal

-- The last that is kept is the last revision.
pub returns-in-Some : goal.returns-in-Some
returns-in-Some c =
    let self = c.args.self.now in
    let dated : Dated = c.in-Some.dated.now in
    let fits : FitsSigned w32 dated.day = search rules in
    let newest : slice_get self.dated.items (length self.dated.items - 1) ≡ Some dated =
    ap (λ ds. slice_get ds (length ds - 1)) (sym c.as_slice.ensures.value)
    ∙ sym c.last.ensures.value ∙ ap option_copied c.in-Some.is in
    ap Some (to_z-of_z w32 dated.day fits)
    ∙ sym (last-day self.first self.supplied.items self.dated.items ∙ ap (option_map (λ (d : Dated). d.day)) newest)
