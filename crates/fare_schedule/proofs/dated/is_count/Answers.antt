use Rattle.std.proofs.Common.{◌≡◌, ◌-◌, suc, true, false, sym, ap, subst, ◌∙◌, arith, rules}
use Rattle.std.specs.Int.{w32}
use Rattle.std.specs.Int.RustNames.{FitsSigned}
use Rattle.std.proofs.lemmas.Int.{to_z-of_z}
use Rattle.fare_schedule.specs.Dated.{counts_at, IsCountOn}
use Rattle.fare_schedule.proofs.DatedLemmas.{count-none, count-some, counts-within}
use Rattle.fare_schedule.proofs.dated.is_count.Goals as goal

-- None counts, since the first doesn't.
pub returns-then-count-eq0-clause-counted : goal.returns-then-count-eq0-clause-counted
returns-then-count-eq0-clause-counted c is =
    let fits : FitsSigned w32 c.args.day = search rules in
    let first : 0 ≡ c.args.count = omega (arith, c.if-count-eq0.true) in
    let none : counts_at c.args.day c.args.dated.now c.args.count ≡ false =
    sym (ap (λ day. counts_at day c.args.dated.now c.args.count) (to_z-of_z w32 c.args.day fits))
    ∙ sym c.counts.ensures ∙ c.if-counts.false in
    subst (IsCountOn c.args.day c.args.dated.now) first
    (count-none c.args.day c.args.dated.now c.requires.ascending
    (subst (λ n. counts_at c.args.day c.args.dated.now n ≡ false) (sym first) none))

-- The one in front is there.
pub returns-else-count-eq0-clause-bound : goal.returns-else-count-eq0-clause-bound
returns-else-count-eq0-clause-bound c is =
    let fits : FitsSigned w32 c.args.day = search rules in
    let counts : counts_at c.args.day c.args.dated.now (c.args.count - 1) ≡ true =
    sym (ap (λ day. counts_at day c.args.dated.now (c.args.count - 1)) (to_z-of_z w32 c.args.day fits))
    ∙ sym c.counts-else-count-eq0.ensures ∙ is in
    omega (arith, counts-within c.args.day c.args.dated.now (c.args.count - 1) counts)

-- It counts, and the one behind it doesn't.
pub returns-else-count-eq0-clause-counted : goal.returns-else-count-eq0-clause-counted
returns-else-count-eq0-clause-counted c is =
    let fits : FitsSigned w32 c.args.day = search rules in
    let last : suc (c.args.count - 1) ≡ c.args.count = omega (arith, c.if-count-eq0.false) in
    let counts : counts_at c.args.day c.args.dated.now (c.args.count - 1) ≡ true =
    sym (ap (λ day. counts_at day c.args.dated.now (c.args.count - 1)) (to_z-of_z w32 c.args.day fits))
    ∙ sym c.counts-else-count-eq0.ensures ∙ is in
    let none : counts_at c.args.day c.args.dated.now c.args.count ≡ false =
    sym (ap (λ day. counts_at day c.args.dated.now c.args.count) (to_z-of_z w32 c.args.day fits))
    ∙ sym c.counts.ensures ∙ c.if-counts.false in
    subst (IsCountOn c.args.day c.args.dated.now) last
    (count-some c.args.day c.args.dated.now (c.args.count - 1) c.requires.ascending counts
    (subst (λ n. counts_at c.args.day c.args.dated.now n ≡ false) (sym last) none))
