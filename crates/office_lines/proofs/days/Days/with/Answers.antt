use Rattle.std.proofs.Common.{sym, ◌∙◌, rules}
use Rattle.office_lines.proofs.DaysLemmas.{above-first, alone}
use Rattle.office_lines.proofs.days.Days.with.Goals as goal

pub returns-in-Some-2 : goal.returns-in-Some-2
returns-in-Some-2 c = λ touches days.
    let both = above-first touches c.args.seen c.in-Some-2.first (sym days.first ∙ c.in-Some-2.is)
    (search rules) (search rules) (search rules) in
    record { first = both.0; second = both.1 }

pub returns-in-None : goal.returns-in-None
returns-in-None c = λ touches days.
    let both = alone touches c.args.seen (sym days.first ∙ c.in-None.is) (search rules) in
    record { first = both.0; second = both.1 }
