-- Which stations two tables share (TABLE.md, "Revised tables"; this project's choice).
use Rattle.std.specs.Prelude.{Bool}
use Rattle.std.specs.List.{list_all}
use Rattle.fare_table.specs.Fare.{Content}
use Rattle.fare_table.specs.Faults.{is_known}

-- each station of the other table is a station of this one
abbrev pub has_stations_of : Content → Content → Bool
has_stations_of content other =
    list_all (λ station. is_known content.stations station.id) other.stations
