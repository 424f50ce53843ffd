-- Tables of the same stations (TABLE.md, "Revised tables"; this project's choice).
use Rattle.std.specs.Prelude.{◌≡◌, ℕ, Bool, ◌&&◌, is_some}
use Rattle.fare_table.specs.Fare.{station_at}
use Rattle.fare_table.specs.Fares.{content_of}
use Rattle.fare_table.specs.Stations.{has_stations_of}
use Rattle.fare_table.specs.declared.fares.Fares.{Fares}

-- two tables have the same station numbers
abbrev pub have_same_stations : Fares → Fares → Bool
have_same_stations one other =
    has_stations_of (content_of one) (content_of other)
    && has_stations_of (content_of other) (content_of one)

-- each number is that of a station in both tables or in neither
abbrev pub HaveSameStations : Fares → Fares → Type 0
HaveSameStations one other =
    (id : ℕ) → is_some (station_at (content_of one) id) ≡ is_some (station_at (content_of other) id)
