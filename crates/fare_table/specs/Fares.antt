-- What contracts see of a fare table that was read.
use Rattle.std.specs.Prelude.{ℕ, List, string_bytes}
use Rattle.money_time.specs.Zone.{rule_of}
use Rattle.fare_table.specs.Fare.{Content}
use Rattle.fare_table.specs.declared.fares.Fares.{Fares}

-- what the table says
abbrev pub content_of : Fares → Content
content_of fares = record {
  zone = rule_of fares.clock;
  rates = fares.rates;
  holidays = fares.holidays.items;
  stations = fares.lists.stations;
  singles = fares.lists.singles.items;
  pairs = fares.lists.pairs;
  caps = fares.lists.caps.items;
  interchanges = fares.lists.interchanges;
}

-- the digest of the table's text
abbrev pub digest_of : Fares → List ℕ
digest_of fares = fares.digest

-- the text of the table's zone
abbrev pub zone_text_of : Fares → List ℕ
zone_text_of fares = string_bytes fares.zone_text
