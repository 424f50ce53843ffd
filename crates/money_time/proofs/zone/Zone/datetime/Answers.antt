use Rattle.money_time.specs.Zone.{rule_of, clock_second}
use Rattle.money_time.proofs.ClockLemmas.{shown_second, shown_day, shown_minute}
use Rattle.money_time.proofs.zone.Zone.datetime.Goals as goal

-- The date is the whole days of what the clock shows.
pub returns-clause-day : goal.returns-clause-day
returns-clause-day c =
    shown_day c.to_datetime.result (clock_second (rule_of c.args.self.now) c.args.moment)
    (shown_second (rule_of c.args.self.now) c.args.moment c.instant_of.result.nanosecond c.to_datetime.result
    c.instant_of.ensures c.to_datetime.ensures)

-- Hour and minute are the whole minutes of what is left.
pub returns-clause-minute : goal.returns-clause-minute
returns-clause-minute c =
    shown_minute c.to_datetime.result (clock_second (rule_of c.args.self.now) c.args.moment)
    (shown_second (rule_of c.args.self.now) c.args.moment c.instant_of.result.nanosecond c.to_datetime.result
    c.instant_of.ensures c.to_datetime.ensures)
