-- What a clock shows in whole days and minutes, where jiff's date and time of it are known.
use Rattle.std.proofs.Common.{◌≡◌, ℕ, ◌+◌, ◌*◌, ◌/◌, ℤ, pos, ◌+ℤ◌, ◌*ℤ◌, unsigned_abs, ap, ◌∙◌, arith}
use Rattle.std.specs.Int.{int_div_euclid, int_rem_euclid}
use Rattle.jiff_core.proofs.SignedLemmas.{signed_arith}
use Rattle.jiff_core.proofs.DateTimeLemmas.{civil_nanos-parts, time_nanos_bound}
use Rattle.jiff_core.specs.Date.{epoch_day}
use Rattle.jiff_core.specs.DateTime.{civil_nanos}
use Rattle.jiff_core.specs.declared.civil.datetime.DateTime.{DateTime}
use Rattle.jiff.specs.Words.{offset_at, nanos_of_seconds}
use Rattle.jiff_tz.specs.declared.timezone.TimeZone.{TimeZone}
use Rattle.money_time.specs.Zone.{clock_second}

-- the date is the whole days of the seconds that the clock shows
pub shown_day : (shown : DateTime) (second : ℤ) → civil_nanos shown ≡ second *ℤ pos 1_000_000_000
    → epoch_day shown.date ≡ int_div_euclid second (pos 86_400)
shown_day shown second e = omega (arith, signed_arith, e, civil_nanos-parts shown, time_nanos_bound shown.time)

-- hour and minute are the whole minutes of what is left
pub shown_minute : (shown : DateTime) (second : ℤ) → civil_nanos shown ≡ second *ℤ pos 1_000_000_000
    → shown.time.hour * 60 + shown.time.minute ≡ unsigned_abs (int_rem_euclid second (pos 86_400)) / 60
shown_minute shown second e =
    omega (arith, signed_arith, e, civil_nanos-parts shown, time_nanos_bound shown.time)

-- what jiff's clock shows at an instant are the seconds of this moment's clock
pub shown_second : (rule : TimeZone) (moment : ℕ) (instant : ℤ) (shown : DateTime)
    → instant ≡ nanos_of_seconds (pos moment)
    → civil_nanos shown ≡ instant +ℤ nanos_of_seconds (offset_at rule instant)
    → civil_nanos shown ≡ clock_second rule moment *ℤ pos 1_000_000_000
shown_second rule moment instant shown at e =
    e ∙ ap (λ x. x +ℤ nanos_of_seconds (offset_at rule x)) at
    ∙ omega (arith, signed_arith)
