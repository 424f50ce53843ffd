-- What a fare table says, whatever value holds it (TABLE.md; this project's choice). It is
-- the table's content, with what the clock of its zone shows in place of the zone's own value. That
-- value keeps the names of standard and summer time in places of one length, and the text doesn't
-- say what stands there behind a shorter name.
use Rattle.std.specs.Prelude.{◌≡◌, ℕ, ℤ, List}
use Rattle.money_time.specs.Zone.{clock_second}
use Rattle.fare_table.specs.Fare.{Content}
use Rattle.fare_table.specs.Fares.{content_of, digest_of, zone_text_of}
use Rattle.fare_table.specs.Table.{IsTableOf}
use Rattle.fare_table.specs.declared.fares.Fares.{Fares}
use Rattle.fare_table.specs.declared.rates.Rates.{Rates}
use Rattle.fare_table.specs.declared.rows.Single.{Single}
use Rattle.fare_table.specs.declared.rows.Pair.{Pair}
use Rattle.fare_table.specs.declared.rows.Cap.{Cap}
use Rattle.fare_table.specs.declared.rows.Interchange.{Interchange}
use Rattle.fare_table.specs.declared.station.Station.{Station}

-- what a table says; the clock gives for each moment what the zone's clock shows then, in seconds
-- from 1970-01-01 00:00:00 of that clock
pub record Said : Type 0 where
  pub clock : ℕ → ℤ
  pub rates : Rates
  pub holidays : List ℤ
  pub stations : List Station
  pub singles : List Single
  pub pairs : List Pair
  pub caps : List Cap
  pub interchanges : List Interchange

-- what a content says
abbrev pub said_in : Content → Said
said_in content = record {
  clock = λ moment. clock_second content.zone moment;
  rates = content.rates;
  holidays = content.holidays;
  stations = content.stations;
  singles = content.singles;
  pairs = content.pairs;
  caps = content.caps;
  interchanges = content.interchanges;
}

-- what a table says
abbrev pub said_of : Fares → Said
said_of fares = said_in (content_of fares)

-- two tables say the same, and have the same digest and the same text of their zone
pub record AreAlike (one other : Fares) : Type 0 where
  pub said : said_of one ≡ said_of other
  pub digest : digest_of one ≡ digest_of other
  pub zone_text : zone_text_of one ≡ zone_text_of other

-- two tables that were read from one text are alike
abbrev pub DoReadingsAgree : Type 0
DoReadingsAgree =
    (text : List ℕ) (one other : Fares) → IsTableOf text one → IsTableOf text other
    → AreAlike one other
