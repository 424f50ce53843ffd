use Rattle.std.proofs.Common.{◌+◌, slice_set, slice_index, ap, refl, rules}
use Rattle.office_lines.proofs.TallyLemmas.{HasCountedIn-one, HasGrown-one}
use Rattle.office_lines.proofs.tally.Tally.count.Goals as goal

pub returns-clause-grown : goal.returns-clause-grown
returns-clause-grown c =
    let ends = c.args.self.now.ends in
    HasGrown-one c.args.served.now.end c.args.self.now _ c.args.served.now.requests c.args.served.now.answers
    (search rules) (ap (λ place. slice_set ends place (slice_index ends place + 1)) c.place_of.ensures)
    refl refl refl c.requires.counted

pub returns-clause-counted : goal.returns-clause-counted
returns-clause-counted c =
    let ends = c.args.self.now.ends in
    HasCountedIn-one c.args.served.now c.args.self.now _ (search rules)
    (ap (λ place. slice_set ends place (slice_index ends place + 1)) c.place_of.ensures) refl refl refl
