use Rattle.std.proofs.Common.{◌+◌, ◌*◌, ◌^◌, ◌≤◌, length, map, sum_by}
use Rattle.oyster_account.specs.Scheme.{scheme_of}
use Rattle.oyster_account.specs.Charge.{caps_on}
use Rattle.card_statement.specs.Day.{content_of_day, pence_charged}
use Rattle.card_statement.proofs.DayRowLemmas.{IsUnderWay}
use Rattle.card_statement.proofs.runs.days_of.Given as goal

-- the rows so far are those of the days before the ones that are left
abbrev pub invariant-loop-day : goal.invariant-loop-day
invariant-loop-day l = record {
  under_way : IsUnderWay (caps_on (scheme_of l.schedule)) l.journeys l.incompletes l.made l.missed
      (map content_of_day l.rows.items);
  made : length l.made ≤ length l.journeys;
  missed : length l.missed ≤ length l.incompletes;
  limit : sum_by pence_charged (map content_of_day l.rows.items) + 2 ^ 32 * (length l.made + length l.missed)
      ≤ 2 ^ 32 * (length l.journeys + length l.incompletes);
}

abbrev pub decreases-loop-day : goal.decreases-loop-day
decreases-loop-day l = length l.made + length l.missed
