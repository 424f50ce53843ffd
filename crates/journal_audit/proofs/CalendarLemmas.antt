-- Counting from the first date on gives each day the date that has its number.
use Rattle.std.proofs.Common.{◌≡◌, ℕ, zero, suc, ◌+◌, ◌≤◌, ◌==◌, Bool, true, false, ℤ, pos, negsuc, ◌+ℤ◌, ◌<ℤ◌, ◌≤ℤ◌}
use Rattle.std.proofs.Common.{unsigned_abs, refl, sym, ap, ◌∙◌, arith, rules}
use Rattle.std.proofs.lemmas.Bool.{eqb-true, eqb-false}
use Rattle.std.proofs.lemmas.Int.{by_lt_z}
use Rattle.jiff_core.specs.declared.civil.date.Date.{Date}
use Rattle.jiff_core.specs.Calendar.{days_from_civil, days_in_month, IsCivilDate, IsYear}
use Rattle.jiff_core.specs.Date.{epoch_day}
use Rattle.jiff_core.proofs.SignedLemmas.{signed_arith}
use Rattle.jiff_core.proofs.CalendarLemmas.{days_in_month_bounds}
use Rattle.jiff_core.proofs.DateLemmas.{days_from_civil-min, days_from_civil-max, days_from_civil-day}
use Rattle.jiff_core.proofs.DateLemmas.{days_from_civil-next_month, days_from_civil-next_year, epoch_day_injective}
use Rattle.jiff_core.proofs.DateLemmas.{epoch_day_range}
use Rattle.jiff_fmt.specs.Text.{date_text}
use Rattle.journal_audit.specs.Calendar.{Civil, first_of_year, first_of_next, day_after, days_after_first, date_of}
use Rattle.journal_audit.specs.Calendar.{has_date, civil_text, day_text}

-- the date is one of the calendar, and so many days after the first one
record IsDayOf (n : ℕ) (date : Civil) : Type 0 where
  civil : IsCivilDate date.year date.month date.day
  count : days_from_civil date.year date.month date.day +ℤ pos 4371587 ≡ pos n

-- a last day of December that isn't the last date of all is in a year before the last
before_last : (n : ℕ) (y : ℤ) → IsYear y → days_from_civil y 12 31 +ℤ pos 4371587 ≡ pos n → suc n ≤ 7304483
    → y <ℤ pos 9999
before_last n y year count bound =
    by_lt_z y (pos 9999) (λ lt. lt) (λ ge.
    let last : y ≡ pos 9999 = omega (arith, signed_arith, year) in
    let of_last : days_from_civil y 12 31 ≡ pos 2932896 =
    ap (λ (z : ℤ). days_from_civil z 12 31) last ∙ days_from_civil-max in
    absurd (omega (arith, signed_arith, of_last, count, bound)))

-- the first of January comes behind the last of December
new_year : (n : ℕ) (y : ℤ) → IsYear y → days_from_civil y 12 31 +ℤ pos 4371587 ≡ pos n → suc n ≤ 7304483
    → IsDayOf (suc n) (first_of_year (y +ℤ pos 1))
new_year n y year count bound =
    let below = before_last n y year count bound in
    let next = days_from_civil-next_year y (y +ℤ pos 1) (omega (arith, signed_arith, year)) refl in
    let long = days_in_month_bounds (y +ℤ pos 1) 1 in
    record {
      civil =
          (omega (arith, signed_arith, year, below), (omega arith, omega arith), (omega arith, omega (arith, long)));
      count = omega (arith, signed_arith, next, count);
    }

-- behind the last day of a month comes the first of the next, but behind the last date of all
next_month : (n : ℕ) (date : Civil) → IsDayOf n date → suc n ≤ 7304483 → date.day ≡ days_in_month date.year date.month
    → IsDayOf (suc n) (first_of_next date)
next_month n date is bound last = by (date.month == 12) refl
  where
    by : (t : Bool) → (date.month == 12) ≡ t → IsDayOf (suc n) (first_of_next date)
    by true e =
        let month = eqb-true date.month 12 e in
        let day : date.day ≡ 31 = last ∙ ap (days_in_month date.year) month in
        let count : days_from_civil date.year 12 31 +ℤ pos 4371587 ≡ pos n =
        ap (λ (m : ℕ). days_from_civil date.year m 31 +ℤ pos 4371587) (sym month)
        ∙ ap (λ (d : ℕ). days_from_civil date.year date.month d +ℤ pos 4371587) (sym day) ∙ is.count in
        rw e (new_year n date.year is.civil.0 count bound)
    by false e =
        let other = eqb-false date.month 12 e in
        let next = days_from_civil-next_month date.year date.month date.day is.civil.1.0 last in
        let long = days_in_month_bounds date.year (date.month + 1) in
        rw e (record {
          civil = (is.civil.0, (omega arith, omega (arith, other, is.civil.1)), (omega arith, omega (arith, long)));
          count = omega (arith, signed_arith, next, is.count);
        })

-- the day after a date is the next day
next_day : (n : ℕ) (date : Civil) → IsDayOf n date → suc n ≤ 7304483 → IsDayOf (suc n) (day_after date)
next_day n date is bound = by (date.day == days_in_month date.year date.month) refl
  where
    by : (t : Bool) → (date.day == days_in_month date.year date.month) ≡ t → IsDayOf (suc n) (day_after date)
    by true e = rw e (next_month n date is bound (eqb-true date.day (days_in_month date.year date.month) e))
    by false e =
        let other = eqb-false date.day (days_in_month date.year date.month) e in
        let next = days_from_civil-day date.year date.month date.day (date.day + 1) is.civil.2.0 (omega arith) in
        rw e (record {
          civil = (is.civil.0, is.civil.1, (omega arith, omega (arith, other, is.civil.2)));
          count = omega (arith, signed_arith, next, is.count);
        })

-- each count has its date
counted : (n : ℕ) → n ≤ 7304483 → IsDayOf n (days_after_first n)
unfolding days_after_first
counted zero bound = record {
  civil = (search rules, search rules, search rules);
  count = omega (arith, signed_arith, days_from_civil-min);
}
counted (suc n) bound = next_day n (days_after_first n) (counted n (omega arith)) bound

-- a date of the calendar with these parts
dated : (n : ℕ) (date : Civil) → IsDayOf n date → Date
dated n date is = record {
  year = date.year;
  month = date.month;
  day = date.day;
  year_in = is.civil.0;
  month_in = is.civil.1;
  day_in = is.civil.2;
}

-- a date that has the number of a counted day has its parts
same_parts : (n : ℕ) (found : Civil) → IsDayOf n found → (date : Date) → epoch_day date +ℤ pos 4371587 ≡ pos n
    → (found.year ≡ date.year) × (found.month ≡ date.month) × (found.day ≡ date.day)
unfolding dated
same_parts n found is date number =
    epoch_day_injective (dated n found is) date (omega (arith, signed_arith, is.count, number))

-- dates with the same parts are printed alike
same_text : (found : Civil) (date : Date)
    → (found.year ≡ date.year) × (found.month ≡ date.month) × (found.day ≡ date.day)
    → civil_text found ≡ date_text date
same_text found date same = rw (same.0, same.1, same.2) refl

-- the calendar has a date for the number of one
has_own : (date : Date) → has_date (epoch_day date) ≡ true
has_own date = grind (arith, signed_arith, epoch_day_range date)

-- a number that isn't negative is its amount
amount_of : (z : ℤ) → pos 0 ≤ℤ z → z ≡ pos (unsigned_abs z)
amount_of (pos n) positive = refl
amount_of (negsuc n) positive = absurd (omega (arith, signed_arith, positive))

-- so what is printed of a date's day is the date
pub day_text-date : (date : Date) → day_text (epoch_day date) ≡ date_text date
unfolding day_text
day_text-date date =
    let range = epoch_day_range date in
    let n = unsigned_abs (epoch_day date +ℤ pos 4371587) in
    let number : epoch_day date +ℤ pos 4371587 ≡ pos n =
    amount_of (epoch_day date +ℤ pos 4371587) (omega (arith, signed_arith, range)) in
    let is = counted n (omega (arith, signed_arith, range, number)) in
    rw (has_own date) (same_text (date_of (epoch_day date)) date
    (same_parts n (date_of (epoch_day date)) is date number))
