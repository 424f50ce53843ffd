use Rattle.std.proofs.Common.{◌-◌, ◌<◌, sym, subst, arith, rules}
use Rattle.std.specs.Int.{w32}
use Rattle.std.specs.Int.RustNames.{FitsSigned}
use Rattle.std.proofs.lemmas.Int.{to_z-of_z}
use Rattle.fare_schedule.specs.Dated.{IsCountOn}
use Rattle.fare_schedule.proofs.DatedLemmas.{place-none, place-last}
use Rattle.fare_schedule.proofs.dated.place_on.Goals as goal

-- No revision counts yet.
pub returns-then-count-eq0-clause-value : goal.returns-then-count-eq0-clause-value
returns-then-count-eq0-clause-value c =
    let fits : FitsSigned w32 c.args.day = search rules in
    let counted : IsCountOn c.args.day c.args.dated.now c.count_on-count.result =
    subst (λ day. IsCountOn day c.args.dated.now c.count_on-count.result) (to_z-of_z w32 c.args.day fits)
    c.count_on-count.ensures.counted in
    sym (place-none 0 c.args.dated.now c.args.day
    (λ k d below. counted.others k d (omega (arith, c.if-count-eq0.true)) below))

-- The last that counts.
pub returns-else-count-eq0-clause-value : goal.returns-else-count-eq0-clause-value
returns-else-count-eq0-clause-value c =
    let fits : FitsSigned w32 c.args.day = search rules in
    let counted : IsCountOn c.args.day c.args.dated.now c.count_on-count.result =
    subst (λ day. IsCountOn day c.args.dated.now c.count_on-count.result) (to_z-of_z w32 c.args.day fits)
    c.count_on-count.ensures.counted in
    let some : 0 < c.count_on-count.result = omega (arith, c.if-count-eq0.false) in
    sym (place-last 0 c.args.dated.now (c.count_on-count.result - 1) _ c.args.day
    (omega (arith, c.count_on-count.ensures.bound, some))
    (λ k d below. counted.first k d (omega (arith, some, below)))
    (λ k d above below. counted.others k d (omega (arith, some, above)) below))
