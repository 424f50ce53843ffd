use Rattle.std.proofs.Common.{refl}
use Rattle.oyster_account.specs.Scheme.{scheme_of}
use Rattle.card_statement.proofs.GatheredLemmas.{of-entered}
use Rattle.card_statement.proofs.gathered.Gathered.enter.Goals as goal

-- The row of the touch in that was open, where there is one, is more.
pub returns-clause-of : goal.returns-clause-of
returns-clause-of c taps of =
    of-entered (scheme_of c.args.schedule.now) taps c.args.self.now _ of c.args.start c.continues_from-continued.result
    c.continues_from-continued.ensures c.in_ok-miss_entry.ensures.rows refl refl refl refl
