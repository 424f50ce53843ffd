-- The dates of days and moments, and how a history prints them (ISO 8601, whose calendar has a year
-- 0; moments by RFC 3339, in UTC).
use Rattle.std.specs.Prelude.{ℕ, zero, suc, ◌+◌, ◌/◌, ◌%◌, ◌==◌, ◌&&◌, Bool, if◌then◌else◌}
use Rattle.std.specs.Prelude.{ℤ, pos, neg_ℤ, ◌+ℤ◌, unsigned_abs, int_le, List, [], ◌∷◌, ◌++◌}
use Rattle.std.specs.Fmt.{signed_decimal}
use Rattle.jiff_core.specs.Calendar.{days_in_month}
use Rattle.jiff_fmt.specs.Text.{year_text, pad2}

-- a date: a year, a month and a day of the month, both counted from 1
pub record Civil : Type 0 where
  pub year : ℤ
  pub month : ℕ
  pub day : ℕ

-- the first of January that begins a year
abbrev pub first_of_year : ℤ → Civil
first_of_year year = record { year = year; month = 1; day = 1 }

-- the date after the last day of a month: the first of the next one
abbrev pub first_of_next : Civil → Civil
first_of_next date =
    if date.month == 12 then first_of_year (date.year +ℤ pos 1)
    else record { year = date.year; month = date.month + 1; day = 1 }

-- the date after this one
abbrev pub day_after : Civil → Civil
day_after date =
    if date.day == days_in_month date.year date.month then first_of_next date
    else record { year = date.year; month = date.month; day = date.day + 1 }

-- the date so many days after the first one that the calendar has, -9999-01-01
unfoldable pub days_after_first : ℕ → Civil
days_after_first zero = first_of_year (neg_ℤ (pos 9999))
days_after_first (suc n) = day_after (days_after_first n)

-- the date of a day, which is counted from 1970-01-01: that is day 4371587 from the first date on
abbrev pub date_of : ℤ → Civil
date_of day = days_after_first (unsigned_abs (day +ℤ pos 4_371_587))

-- the calendar has a date for the day: from -9999-01-01 to 9999-12-31
abbrev pub has_date : ℤ → Bool
has_date day = int_le (neg_ℤ (pos 4_371_587)) day && int_le day (pos 2_932_896)

-- a date as `2025-01-07`; a year before 0 has six digits behind its sign
abbrev pub civil_text : Civil → List ℕ
civil_text date = year_text date.year ++ 45 ∷ [] ++ pad2 date.month ++ 45 ∷ [] ++ pad2 date.day

-- what is printed of a day: its date, or where the calendar has none its number
unfoldable pub day_text : ℤ → List ℕ
day_text day = if has_date day then civil_text (date_of day) else signed_decimal day

-- a second of the day in UTC as `T08:00:00Z`
abbrev pub clock_text : ℕ → List ℕ
clock_text second =
    84 ∷ (pad2 (second / 3600)
    ++ 58 ∷ (pad2 (second % 3600 / 60) ++ 58 ∷ (pad2 (second % 60) ++ 90 ∷ [])))

-- what is printed of a moment, in seconds since 1970-01-01 00:00:00 UTC: `2025-01-07T08:00:00Z`
unfoldable pub moment_text : ℕ → List ℕ
moment_text moment = day_text (pos (moment / 86_400)) ++ clock_text (moment % 86_400)
