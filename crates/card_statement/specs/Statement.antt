-- A card's statement (FARES.md, "Statement"; this project's choice). `acts` are a card's
-- accepted acts. Lists are newest first.
use Rattle.std.specs.Prelude.{ℕ, ℤ, pos, ◌-ℤ◌, List, map, sum_by, Option, Some, None}
use Rattle.std.specs.List.{filter_map}
use Rattle.oyster_account.specs.declared.touch.Act.{Act}
use Rattle.oyster_account.specs.declared.touch.Act.TheVariants.{Enter, Leave, TopUp, Issue, Revise}
use Rattle.card_statement.specs.declared.statement.TopUp.{TopUp as TopUpRow}
use Rattle.card_statement.specs.declared.statement.Statement.{Statement}
use Rattle.oyster_account.specs.Scheme.{Scheme}
use Rattle.oyster_account.specs.Travel.{travel}
use Rattle.card_statement.specs.Day.{DayContent, day_rows, pence_charged, content_of_day}

-- the row of an act that pays in
abbrev pub top_up_of : Scheme → Act → Option TopUpRow
top_up_of scheme (Enter station moment) = None
top_up_of scheme (Leave station moment) = None
top_up_of scheme (TopUp pence moment) =
    Some (record { pence = pence; stamp = scheme.stamp moment })
top_up_of scheme (Issue moment) = None
top_up_of scheme (Revise day moment digest) = None

-- the rows of the top-ups
abbrev pub top_up_rows : Scheme → List Act → List TopUpRow
top_up_rows scheme acts = filter_map (top_up_of scheme) acts

-- what a top-up pays in
abbrev pub pence_in_row : TopUpRow → ℕ
pence_in_row row = row.pence

-- what a statement says
pub record StatementContent : Type 0 where
  -- the fare days with a journey or an incomplete touch
  pub days : List DayContent
  pub top_ups : List TopUpRow
  -- the sum of the top-ups
  pub paid_in : ℕ
  -- the sum of what the days' rows charge
  pub charged : ℕ
  -- what was paid in less what was charged
  pub balance : ℤ

-- these rows, with their sums
abbrev pub statement_with : List DayContent → List TopUpRow → StatementContent
statement_with days top_ups = record {
  days = days;
  top_ups = top_ups;
  paid_in = sum_by pence_in_row top_ups;
  charged = sum_by pence_charged days;
  balance = pos (sum_by pence_in_row top_ups) -ℤ pos (sum_by pence_charged days);
}

-- the statement of a card's accepted acts
abbrev pub statement_of : Scheme → List Act → StatementContent
statement_of scheme acts =
    statement_with (day_rows scheme (travel scheme acts)) (top_up_rows scheme acts)

-- what a statement of the code says
abbrev pub content_of_statement : Statement → StatementContent
content_of_statement statement = record {
  days = map content_of_day statement.days.items;
  top_ups = statement.top_ups.items;
  paid_in = statement.paid_in;
  charged = statement.charged;
  balance = statement.balance;
}
