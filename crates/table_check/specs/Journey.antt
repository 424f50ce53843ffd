-- What `check --fare` has written where it ends (COMMANDS.md, "check"; this project's choice).
use Rattle.std.specs.Prelude.{◌≡◌, ◌⊎◌, ℕ, List, None}
use Rattle.fare_table.specs.Fare.{Content, station_at}
use Rattle.fare_table.specs.Fares.{content_of}
use Rattle.fare_table.specs.Table.{IsTableOf}
use Rattle.fare_table.specs.declared.fares.Fares.{Fares}
use Rattle.command_line.specs.declared.check.Journey.{Journey}
use Rattle.table_check.specs.Fare.{IsQuoteOf, printed_quote}
use Rattle.table_check.specs.declared.fare.Quote.{Quote}
use Rattle.console.specs.declared.fault.TrialFault.{TrialFault}
use Rattle.console.specs.declared.fault.TrialFault.TheVariants.{Station}

-- the text has the lines of what this journey costs by the table that these bytes are
pub record IsFareText (bytes : List ℕ) (journey : Journey) (text : List ℕ) : Type 0 where
  pub table : Fares
  pub read : IsTableOf bytes table
  pub quote : Quote
  pub costs : IsQuoteOf (content_of table) journey.from journey.to journey.moment quote
  pub written : text ≡ printed_quote quote

-- the journey is from or to a station that the table hasn't
abbrev pub IsUnknown : Content → Journey → TrialFault → Type 0
IsUnknown content journey (Station station) =
    ((station ≡ journey.from) ⊎ (station ≡ journey.to)) × (station_at content station ≡ None)
IsUnknown content journey _ = ⊥
