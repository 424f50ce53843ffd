-- What a table that was read says: the content of the tree of its text (TABLE.md).
use Rattle.std.specs.Prelude.{◌≡◌, ℕ, List, map, Some}
use Rattle.jiff.specs.Placed.{IsPosixZone}
use Rattle.sha2.specs.Sha256.{sha256}
use Rattle.toml.specs.Data.{Members}
use Rattle.toml.specs.Parse.{parse_document}
use Rattle.toml_reading.specs.Tree.{text_in}
use Rattle.fare_table.specs.Tree.{value_at, rows_at}
use Rattle.fare_table.specs.Content.{rates_of, stations_of, singles_of}
use Rattle.fare_table.specs.Content.{pairs_of, caps_of, interchanges_of}
use Rattle.fare_table.specs.Dates.{dates_of}
use Rattle.fare_table.specs.Fare.{Content}
use Rattle.fare_table.specs.Fares.{content_of, digest_of, zone_text_of}
use Rattle.fare_table.specs.declared.key.Key.TheVariants as key
use Rattle.fare_table.specs.declared.fares.Fares.{Fares}

-- the content is what the keys of a tree hold
pub record IsContentOf (ms : Members) (content : Content) : Type 0 where
  pub zone : IsPosixZone (text_in (value_at key.Zone ms)) content.zone
  pub rates : content.rates ≡ rates_of ms
  pub holidays : map Some content.holidays ≡ dates_of (rows_at key.Holidays ms)
  pub stations : content.stations ≡ stations_of (rows_at key.Station ms)
  pub singles : content.singles ≡ singles_of (rows_at key.Single ms)
  pub pairs : content.pairs ≡ pairs_of (rows_at key.Pair ms)
  pub caps : content.caps ≡ caps_of (rows_at key.Cap ms)
  pub interchanges : content.interchanges ≡ interchanges_of (rows_at key.Interchange ms)

-- the table has the content and the zone's text of its text's tree, and the digest of its text
pub record IsTableOf (text : List ℕ) (fares : Fares) : Type 0 where
  pub tree : Members
  pub parsed : parse_document text ≡ Some tree
  pub content : IsContentOf tree (content_of fares)
  pub zone_text : zone_text_of fares ≡ text_in (value_at key.Zone tree)
  pub digest : digest_of fares ≡ sha256 text
