-- What a zone's stamp becomes by other holidays.
use Rattle.std.proofs.Common.{◌≡◌, ℕ, ℤ, List, ap, arith}
use Rattle.jiff_tz.specs.declared.timezone.TimeZone.{TimeZone}
use Rattle.money_time.specs.Stamp.{stamp_of, by_holidays, fare_day_of, window_of}
use Rattle.money_time.specs.Zone.{civil_day, civil_minute}

-- the window is the same by the fare day and by the civil date: they differ before 04:30 alone
same_window : (holidays : List ℤ) (day : ℤ) (minute : ℕ) →
    window_of holidays (fare_day_of day minute) minute ≡ window_of holidays day minute
same_window holidays day minute = grind (arith)

-- so a zone's stamp becomes the zone's stamp by these holidays
pub restamped : (rule : TimeZone) (holidays others : List ℤ) (moment : ℕ) →
    by_holidays others (stamp_of rule holidays moment) ≡ stamp_of rule others moment
restamped rule holidays others moment =
    ap (λ window. record {
      moment = moment;
      day = fare_day_of (civil_day rule moment) (civil_minute rule moment);
      minute = civil_minute rule moment;
      window = window;
    }) (same_window others (civil_day rule moment) (civil_minute rule moment))
