use Rattle.std.proofs.Common.{◌∙◌}
use Rattle.oyster_account.specs.Scheme.{scheme_of}
use Rattle.card_statement.proofs.GatheredLemmas.{end-journeys, end-incompletes}
use Rattle.card_statement.proofs.gathered.Gathered.end.Goals as goal

pub returns-clause-journeys : goal.returns-clause-journeys
returns-clause-journeys c taps of =
    c.reverse.ensures.items
    ∙ end-journeys (scheme_of c.args.schedule.now) taps c.args.self.now c.args.self.now of c.settle.new.journeys.items
    c.in_ok-settle.ensures.rows

pub returns-clause-incompletes : goal.returns-clause-incompletes
returns-clause-incompletes c taps of =
    c.reverse-2.ensures.items
    ∙ end-incompletes (scheme_of c.args.schedule.now) taps c.args.self.now c.args.self.now of
    c.miss_entry.new.incompletes.items c.in_ok-miss_entry.ensures.rows
