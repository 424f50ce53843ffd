-- The fare days that a statement is asked for (COMMANDS.md, "statement"; this project's choice).
use Rattle.std.specs.Prelude.{ℤ, Bool, true, false, ◌&&◌, int_le, int_lt, Option, Some, None}
use Rattle.command_line.specs.declared.statement.Statement.{Statement}
use Rattle.statement_command.specs.declared.days.Days.{Days}

-- the days that a command line names
abbrev pub days_by : Statement → Days
days_by asked = record { from = asked.from; to = asked.to }

-- the day is this one or after it, if there is one
abbrev pub is_from : Option ℤ → ℤ → Bool
is_from None day = true
is_from (Some from) day = int_le from day

-- the day is this one or before it, if there is one
abbrev pub is_to : Option ℤ → ℤ → Bool
is_to None day = true
is_to (Some to) day = int_le day to

-- there is such a day, and the day is before it
abbrev pub is_before : Option ℤ → ℤ → Bool
is_before None day = false
is_before (Some from) day = int_lt day from

-- the day is the first one that is asked for or after it
abbrev pub is_after_first : Days → ℤ → Bool
is_after_first days day = is_from days.from day

-- the day is the last one that is asked for or before it
abbrev pub is_up_to_last : Days → ℤ → Bool
is_up_to_last days day = is_to days.to day

-- the day is before the first one that is asked for
abbrev pub is_before_first : Days → ℤ → Bool
is_before_first days day = is_before days.from day

-- the day is one of those that are asked for
abbrev pub has_day : Days → ℤ → Bool
has_day days day = is_after_first days day && is_up_to_last days day
