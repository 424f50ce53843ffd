-- The lines of a statement (COMMANDS.md, "statement"; this project's choice). They are defined
-- last one first, since the lists of a statement are newest first.
use Rattle.std.specs.Prelude.{◌<◌, ◌^◌, ℕ, ℤ, List, [], ◌∷◌, ◌++◌, map, filter, flat_map}
use Rattle.std.specs.Prelude.{sum_by, Bool, if◌then◌else◌, Option, Some, None}
use Rattle.std.specs.List.{list_any}
use Rattle.card_statement.specs.declared.statement.TopUp.{TopUp}
use Rattle.card_statement.specs.declared.statement.Statement.{Statement}
use Rattle.card_statement.specs.Day.{DayContent, pence_charged, content_of_day}
use Rattle.card_statement.specs.Statement.{StatementContent, pence_in_row}
use Rattle.statement_command.specs.declared.days.Days.{Days}
use Rattle.statement_command.specs.declared.line.Line.{Line}
use Rattle.statement_command.specs.declared.line.Line.TheVariants as lines
use Rattle.statement_command.specs.declared.line.Sums.{Sums}
use Rattle.statement_command.specs.declared.line.RefusedTouch.{RefusedTouch}
use Rattle.statement_command.specs.Days.{has_day, is_before_first, is_up_to_last}

-- what the rows of a statement charge and pay in can be summed in 64 bits
pub record IsSummable (statement : Statement) : Type 0 where
  pub charged : sum_by pence_charged (map content_of_day statement.days.items) < 2 ^ 64
  pub paid_in : sum_by pence_in_row statement.top_ups.items < 2 ^ 64

-- the lines of a fare day between its incomplete touches and its journeys, last one first
abbrev pub sums_back : DayContent → List Line
sums_back day =
    lines.Journeys day.day day.charge ∷ lines.Cap day.day day.cap
    ∷ lines.Fares day.day day.fares ∷ []

-- the lines of a fare day, last one first
abbrev pub day_back : DayContent → List Line
day_back day =
    (lines.Charge day.day (pence_charged day) ∷ [])
    ++ (map (lines.Touch day.day) day.incomplete
    ++ (sums_back day ++ (map (lines.Journey day.day) day.journeys ++ lines.Day day.day ∷ [])))

-- those of a fare day that is asked for, and none of any other
abbrev pub day_back_of : Days → DayContent → List Line
day_back_of days day = if has_day days day.day then day_back day else []

-- those of the fare days, last one first
abbrev pub days_back : Days → List DayContent → List Line
days_back days rows = flat_map (day_back_of days) rows

-- a top-up is on a fare day that is asked for
abbrev pub is_top_up_of : Days → TopUp → Bool
is_top_up_of days top_up = has_day days top_up.stamp.day

-- so is a refused touch
abbrev pub is_refusal_of : Days → RefusedTouch → Bool
is_refusal_of days refusal = has_day days refusal.stamp.day

-- the line of a top-up of a fare day that is asked for, and none of any other
abbrev pub top_up_back : Days → TopUp → List Line
top_up_back days top_up = if is_top_up_of days top_up then lines.TopUp top_up ∷ [] else []

-- so it is of a refused touch
abbrev pub refusal_back : Days → RefusedTouch → List Line
refusal_back days refusal =
    if is_refusal_of days refusal then lines.Refused refusal ∷ [] else []

-- the lines of the top-ups, last one first
unfoldable pub top_ups_back : Days → List TopUp → List Line
top_ups_back days top_ups =
    flat_map (top_up_back days) top_ups
    ++ lines.TopUps (list_any (is_top_up_of days) top_ups) ∷ []

-- those of the refused touches, last one first
unfoldable pub refusals_back : Days → List RefusedTouch → List Line
refusals_back days refusals =
    flat_map (refusal_back days) refusals
    ++ lines.Refusals (list_any (is_refusal_of days) refusals) ∷ []

-- the days' charges up to the last day that is asked for
abbrev pub charged_up_to : Days → List DayContent → ℕ
charged_up_to days rows =
    sum_by pence_charged (filter (λ row. is_up_to_last days row.day) rows)

-- the top-ups up to that day
abbrev pub paid_up_to : Days → List TopUp → ℕ
paid_up_to days top_ups =
    sum_by pence_in_row (filter (λ top_up. is_up_to_last days top_up.stamp.day) top_ups)

-- the days' charges before the first day that is asked for
abbrev pub charged_before : Days → List DayContent → ℕ
charged_before days rows =
    sum_by pence_charged (filter (λ row. is_before_first days row.day) rows)

-- the top-ups before that day
abbrev pub paid_before : Days → List TopUp → ℕ
paid_before days top_ups =
    sum_by pence_in_row (filter (λ top_up. is_before_first days top_up.stamp.day) top_ups)

-- what was paid in and charged before the first day that is asked for, if one is
abbrev pub before : Days → StatementContent → Option ℤ → Option Sums
before days content None = None
before days content (Some from) = Some (record {
  day = from;
  paid_in = paid_before days content.top_ups;
  charged = charged_before days content.days;
})

-- the lines of the sums, last one first
unfoldable pub totals_back : Days → StatementContent → List Line
totals_back days content =
    lines.Balance (paid_up_to days content.top_ups) (charged_up_to days content.days)
    ∷ lines.Charged (charged_up_to days content.days)
    ∷ lines.PaidIn (paid_up_to days content.top_ups) ∷ []

-- the lines before all fare days, last one first
unfoldable pub heading_back : ℕ → Days → StatementContent → List Line
heading_back card days content =
    lines.Before (before days content days.from) ∷ lines.Card card days ∷ []

-- all lines of the statement of a card, last one first
unfoldable pub lines_back : ℕ → Days → StatementContent → List RefusedTouch → List Line
lines_back card days content refusals =
    totals_back days content
    ++ (refusals_back days refusals
    ++ (top_ups_back days content.top_ups
    ++ (days_back days content.days ++ heading_back card days content)))
