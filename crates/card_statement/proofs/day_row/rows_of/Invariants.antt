use Rattle.std.proofs.Common.{◌≡◌, map, take}
use Rattle.card_statement.specs.Day.{journey_row}
use Rattle.card_statement.proofs.day_row.rows_of.Given as goal

-- the rows so far are those of the journeys so far
abbrev pub invariant-loop-journey : goal.invariant-loop-journey
invariant-loop-journey l = record {
  rows : l.rows.items ≡ map (journey_row l.cap) (take l.journey-index l.journeys);
}
