use Rattle.std.proofs.Common.{arith, ◌≡◌, ◌∙◌, pos}
use Rattle.jiff_core.specs.DateTime.{civil_nanos}
use Rattle.jiff_core.specs.Timestamp.{nanos_of_seconds}
use Rattle.jiff_core.proofs.DateLemmas.{civil}
use Rattle.jiff_core.proofs.SignedLemmas.{signed_arith}
use Rattle.jiff_tz.proofs.YearLemmas.{back_year, year_of_nanos-civil}
use Rattle.money_time.proofs.span.year_at.Goals as goal

pub returns : goal.returns
returns c =
    let dt = c.to_datetime.result in
    let year_in = (civil dt.date).0 in
    let back = back_year dt.date.year year_in in
    let same : civil_nanos dt ≡ nanos_of_seconds (pos c.args.moment) = c.to_datetime.ensures
    ∙ omega (arith, signed_arith, c.instant_of.ensures) in
    record {
      value = back ∙ year_of_nanos-civil dt (nanos_of_seconds (pos c.args.moment)) same;
      bound = rw back year_in;
    }
