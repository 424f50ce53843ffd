use Rattle.std.proofs.Common.{refl, ap, ◌∙◌, Some, subst, sym}
use Rattle.oyster_account.specs.declared.travel.Passage.{Passage}
use Rattle.oyster_account.specs.Scheme.{scheme_of}
use Rattle.oyster_account.specs.Travel.{IsKnown}
use Rattle.oyster_account.specs.Journey.{journey_of}
use Rattle.card_statement.proofs.GatheredLemmas.{of-ended, start-known}
use Rattle.card_statement.proofs.gathered.Gathered.end_leg.Goals as goal

-- The journey starts at a known station.
pub of-requires-clause-start : goal.of-requires-clause-start
of-requires-clause-start c =
    let scheme = scheme_of c.args.schedule.now in
    subst (IsKnown scheme) (sym c.start_of-start.ensures)
    (start-known scheme c.args.entry c.args.self.now.last (c.requires.ready.entry c.args.entry c.requires.inside)
    c.requires.ready.last)

-- The leg makes or continues the last journey.
pub returns-clause-of : goal.returns-clause-of
returns-clause-of c taps of =
    let scheme = scheme_of c.args.schedule.now in
    of-ended scheme taps c.args.self.now _ of c.args.finish c.args.entry c.requires.inside c.requires.in_time
    c.in_ok-settle.ensures.rows
    (ap Some (c.of.ensures.value
    ∙ ap (λ (start : Passage). journey_of scheme start c.args.finish) c.start_of-start.ensures))
    refl refl refl
