use Rattle.std.proofs.Common.{arith}
use Rattle.std.proofs.lemmas.Int.{ints}
use Rattle.jiff_core.proofs.SignedLemmas.{signed_arith}
use Rattle.jiff_core.proofs.CalendarLemmas.{weekday_number-parts}
use Rattle.money_time.proofs.stamp.is_weekday.Goals as goal

-- The remainder is the weekday's number.
pub returns : goal.returns
returns c = grind (arith, signed_arith, ints, c.rem_euclid.ensures.value, weekday_number-parts c.args.day)
