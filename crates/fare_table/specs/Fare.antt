-- The fare between two stations (FARES.md, "Band" and "Fare by a table"; the bands are those
-- of TfL's published scheme; the evening exception, how a station of two zones counts, and which of
-- equal prices is taken are this project's choice).
use Rattle.std.specs.Prelude.{ℕ, ℤ, Bool, true, false, not, ◌&&◌, ◌==◌, nat_lt, min, max}
use Rattle.std.specs.Prelude.{List, [], ◌∷◌, map, Option, Some, None}
use Rattle.std.specs.Prelude.{option_map, unwrap_or, if◌then◌else◌}
use Rattle.std.specs.List.{find, flat_map}
use Rattle.jiff_tz.specs.declared.timezone.TimeZone.{TimeZone}
use Rattle.money_time.specs.Stamp.{stamp_of as zone_stamp}
use Rattle.money_time.specs.declared.stamp.Stamp.{Stamp}
use Rattle.money_time.specs.declared.stamp.Window.{Window}
use Rattle.money_time.specs.declared.stamp.Window.TheVariants.{Early, Evening, Off}
use Rattle.fare_table.specs.Content.{same_ends, ends_of, ends_of_pair, ends_of_interchange}
use Rattle.fare_table.specs.Zones.{has_zone, zone_list}
use Rattle.fare_table.specs.declared.fare.Fare.{Fare}
use Rattle.fare_table.specs.declared.fare.TheConstants.{CENTRAL_ZONE}
use Rattle.fare_table.specs.declared.rates.Rates.{Rates}
use Rattle.fare_table.specs.declared.rows.Single.{Single}
use Rattle.fare_table.specs.declared.rows.Pair.{Pair}
use Rattle.fare_table.specs.declared.rows.Cap.{Cap}
use Rattle.fare_table.specs.declared.rows.Interchange.{Interchange}
use Rattle.fare_table.specs.declared.station.Station.{Station}
use Rattle.fare_table.specs.declared.station.Zones.{Zones}
use Rattle.fare_table.specs.declared.station.Zones.TheVariants.{One}

-- what a table says; its zone is the rule of the clock, and those of stations are zones of fares
pub record Content : Type 0 where
  pub zone : TimeZone
  pub rates : Rates
  pub holidays : List ℤ
  pub stations : List Station
  pub singles : List Single
  pub pairs : List Pair
  pub caps : List Cap
  pub interchanges : List Interchange

-- the station of a number
abbrev pub station_at : Content → ℕ → Option Station
station_at c id = find (λ station. id == station.id) c.stations

-- the zones of a station that may be known
abbrev pub zones_or_none : Option Station → Zones
zones_or_none None = One 0
zones_or_none (Some station) = station.zones

-- the zones of the station of a number, zone 0 where it is not known
abbrev pub zones_at : Content → ℕ → Zones
zones_at c id = zones_or_none (station_at c id)

-- the named pair of two stations, in either order
abbrev pub pair_at : Content → ℕ → ℕ → Option Pair
pair_at c a b = find (λ pair. same_ends (ends_of a b) (ends_of_pair pair)) c.pairs

-- a journey between these zones is off-peak: always in the window Off, never in Early, and in
-- Evening by the exception for journeys that start outside the central zone and end in it
abbrev pub is_off_peak : Bool → Zones → Zones → Window → Bool
is_off_peak evening_rule origin destination Off = true
is_off_peak evening_rule origin destination Early = false
is_off_peak evening_rule origin destination Evening =
    evening_rule && (not (has_zone CENTRAL_ZONE origin) && has_zone CENTRAL_ZONE destination)

-- the peak or the off-peak price
abbrev pub price : Bool → ℕ → ℕ → ℕ
price off_peak peak low = if off_peak then low else peak

-- the single of two zones, in either order
abbrev pub single_at : List Single → ℕ → ℕ → Option Single
single_at singles a b = find (λ single. (single.low == min a b) && (single.high == max a b)) singles

-- the price of a single that may be there, 0 where it is not: no valid table lacks one of its zones
abbrev pub single_price : Bool → Option Single → ℕ
single_price off_peak None = 0
single_price off_peak (Some single) = price off_peak single.peak single.off_peak

-- the fare between two zones, with the range from the lower to the higher
abbrev pub zone_fare : List Single → Bool → ℕ → ℕ → Fare
zone_fare singles off_peak a b = record {
  pence = single_price off_peak (single_at singles a b);
  lo = min a b;
  hi = max a b;
  off_peak = off_peak;
}

-- of two fares the cheaper, and of equal ones the first
abbrev pub cheaper : Fare → Fare → Fare
cheaper f g = if nat_lt g.pence f.pence then g else f

-- the first of the cheapest of a fare and of those after it
abbrev pub cheapest : Fare → List Fare → Fare
cheapest f [] = f
cheapest f (g ∷ gs) = cheapest (cheaper f g) gs

-- the first of the cheapest of these fares. Each station has a zone, so there is one
abbrev pub cheapest_of : List Fare → Fare
cheapest_of [] = record { pence = 0; lo = 0; hi = 0; off_peak = false }
cheapest_of (f ∷ fs) = cheapest f fs

-- the fares for each zone of the origin and each of the destination, the lower zones first
abbrev pub zone_fares : List Single → Bool → Zones → Zones → List Fare
zone_fares singles off_peak origin destination =
    flat_map (λ a. map (zone_fare singles off_peak a) (zone_list destination)) (zone_list origin)

-- the fare of a named pair
abbrev pub pair_fare : Bool → Pair → Fare
pair_fare off_peak pair = record {
  pence = price off_peak pair.peak pair.off_peak;
  lo = pair.lo;
  hi = pair.hi;
  off_peak = off_peak;
}

-- the fare of a pair that may be named, and else the other
abbrev pub pair_or : Bool → Option Pair → Fare → Fare
pair_or off_peak None fare = fare
pair_or off_peak (Some pair) fare = pair_fare off_peak pair

-- the fare of a band: that of the named pair, and else the cheapest of the zones
abbrev pub fare_in_band : Content → Bool → ℕ → ℕ → Fare
fare_in_band c off_peak from to =
    pair_or off_peak (pair_at c from to)
    (cheapest_of (zone_fares c.singles off_peak (zones_at c from) (zones_at c to)))

-- the fare of a journey that starts at one station in a window and ends at the other
abbrev pub fare_of : Content → ℕ → ℕ → Window → Fare
fare_of c from to window =
    fare_in_band c
    (is_off_peak c.rates.evening_rule (zones_at c from) (zones_at c to) window) from to

-- the maximum charge of a window
abbrev pub maximum_of : Content → Window → ℕ
maximum_of c Off = c.rates.maximum_off_peak
maximum_of c Early = c.rates.maximum_peak
maximum_of c Evening = c.rates.maximum_peak

-- the minutes of a pair that may be named, and else those of the table
abbrev pub minutes_or : ℕ → Option Pair → ℕ
minutes_or minutes None = minutes
minutes_or minutes (Some pair) = unwrap_or pair.minutes minutes

-- the minutes that a leg between two stations may take
abbrev pub leg_minutes_of : Content → ℕ → ℕ → ℕ
leg_minutes_of c from to = minutes_or c.rates.leg_minutes (pair_at c from to)

-- the minutes that an interchange between two stations may take, where there is one
abbrev pub interchange_of : Content → ℕ → ℕ → Option ℕ
interchange_of c a b = option_map (λ interchange. interchange.minutes)
    (find (λ interchange. same_ends (ends_of a b) (ends_of_interchange interchange)) c.interchanges)

-- the stamp of a moment, by the table's zone and holidays
abbrev pub stamp_of : Content → ℕ → Stamp
stamp_of c moment = zone_stamp c.zone c.holidays moment

-- the stamp of a moment, by one table's zone and another's holidays
abbrev pub stamp_with : Content → Content → ℕ → Stamp
stamp_with c other moment = zone_stamp c.zone other.holidays moment
