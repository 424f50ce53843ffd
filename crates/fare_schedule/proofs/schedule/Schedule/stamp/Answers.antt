use Rattle.std.specs.Int.{w32}
use Rattle.std.proofs.Common.{◌≡◌, ◌∙◌, ap, refl, sym, subst, rules, Ok, IfOk, FitsSigned}
use Rattle.std.proofs.lemmas.Int.{to_z-of_z}
use Rattle.std.proofs.lemmas.Result.{IfOk-at_ok}
use Rattle.fare_table.specs.Fare.{stamp_of, stamp_with}
use Rattle.fare_table.specs.Fares.{content_of}
use Rattle.fare_table.specs.declared.fares.Fares.{Fares}
use Rattle.fare_schedule.specs.Places.{table_at}
use Rattle.fare_schedule.specs.Dated.{place_by}
use Rattle.fare_schedule.specs.Schedule.{table_on, content_on, fare_day}
use Rattle.fare_schedule.proofs.InForceLemmas.{on-place}
use Rattle.money_time.proofs.StampLemmas.{restamped}
use Rattle.money_time.specs.declared.stamp.Stamp.{Stamp}
use Rattle.fare_schedule.proofs.schedule.Schedule.stamp.Goals as goal

-- The first table is in force: its own stamp is the one by the holidays in force.
pub returns-then-place-eq0 : goal.returns-then-place-eq0
returns-then-place-eq0 c =
    let schedule = c.args.self.now in
    let by_first : c.in_ok-by_first.by_first ≡ stamp_of (content_of schedule.first) c.args.moment =
    IfOk-at_ok (λ (s : Stamp). s ≡ stamp_of (content_of schedule.first) c.args.moment) c.in_ok-by_first.was
    (subst (λ r. IfOk r (λ s. s ≡ stamp_of (content_of schedule.first) c.args.moment)) (sym c.stamp.ensures) refl) in
    let fits : FitsSigned w32 c.in_ok-by_first.by_first.day = search rules in
    let none : place_by 0 schedule.dated.items (fare_day schedule c.args.moment) ≡ 0 =
    sym (c.place_on-place.ensures.value
    ∙ ap (λ day. place_by 0 c.as_slice.result.now day) (to_z-of_z w32 c.in_ok-by_first.by_first.day fits
    ∙ ap (λ (s : Stamp). s.day) by_first)
    ∙ ap (λ dated. place_by 0 dated (fare_day schedule c.args.moment)) c.as_slice.ensures.value)
    ∙ c.if-place-eq0.true in
    let first : schedule.first ≡ table_on schedule (fare_day schedule c.args.moment) =
    ap (table_at schedule.first schedule.supplied.items) (sym none)
    ∙ sym (on-place schedule (fare_day schedule c.args.moment)) in
    ap Ok (by_first ∙ ap (λ (t : Fares). stamp_with (content_of schedule.first) (content_of t) c.args.moment) first)

-- The stamp by the first table becomes the one by the holidays in force.
pub returns : goal.returns
returns c =
    let schedule = c.args.self.now in
    let by_first : c.in_ok-by_first.by_first ≡ stamp_of (content_of schedule.first) c.args.moment =
    IfOk-at_ok (λ (s : Stamp). s ≡ stamp_of (content_of schedule.first) c.args.moment) c.in_ok-by_first.was
    (subst (λ r. IfOk r (λ s. s ≡ stamp_of (content_of schedule.first) c.args.moment)) (sym c.stamp.ensures) refl) in
    let fits : FitsSigned w32 c.in_ok-by_first.by_first.day = search rules in
    let place : c.place_on-place.result ≡ place_by 0 schedule.dated.items c.in_ok-by_first.by_first.day =
    c.place_on-place.ensures.value
    ∙ ap (λ day. place_by 0 c.as_slice.result.now day) (to_z-of_z w32 c.in_ok-by_first.by_first.day fits)
    ∙ ap (λ dated. place_by 0 dated c.in_ok-by_first.by_first.day) c.as_slice.ensures.value in
    let table : c.table.result.now ≡ table_on schedule c.in_ok-by_first.by_first.day =
    c.table.ensures ∙ ap (table_at schedule.first schedule.supplied.items) place
    ∙ sym (on-place schedule c.in_ok-by_first.by_first.day) in
    rw c.restamp.ensures (rw table (rw by_first (ap Ok
    (restamped (content_of schedule.first).zone (content_of schedule.first).holidays
    (content_on schedule (fare_day schedule c.args.moment)).holidays c.args.moment))))
