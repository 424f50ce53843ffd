-- The faults of a table, cause by cause in the order of TABLE.md, "Faults". The first of them
-- is answered (the causes and their order are this project's choice).
use Rattle.std.specs.Prelude.{ℕ, ◌+◌, Bool, not, ◌&&◌, ◌==◌, nat_le, is_some}
use Rattle.std.specs.Prelude.{List, [], ◌∷◌, ◌++◌, Option, Some, None, if◌then◌else◌}
use Rattle.std.specs.List.{filter_map, flat_map, list_any}
use Rattle.std.specs.Str.{is_utf8}
use Rattle.jiff.specs.Words.{read_whole}
use Rattle.toml.specs.Data.{Data, Members}
use Rattle.toml.specs.Parse.{parse_document}
use Rattle.money_time.specs.Date.{date_day}
use Rattle.toml_reading.specs.First.{first}
use Rattle.toml_reading.specs.Tree.{text_in}
use Rattle.fare_table.specs.Tree.{value_at, rows_at}
use Rattle.fare_table.specs.Causes.{walk_faults}
use Rattle.fare_table.specs.Repeats.{repeats}
use Rattle.fare_table.specs.Limits.{is_maximum_low}
use Rattle.fare_table.specs.Zones.{has_zone, all_zones}
use Rattle.fare_table.specs.Fare.{single_at}
use Rattle.fare_table.specs.Content.{same_station, same_single, same_pair}
use Rattle.fare_table.specs.Content.{same_cap, same_interchange}
use Rattle.fare_table.specs.Content.{rates_of, stations_of, singles_of}
use Rattle.fare_table.specs.Content.{pairs_of, caps_of, interchanges_of}
use Rattle.fare_table.specs.declared.key.Key.TheVariants as key
use Rattle.fare_table.specs.declared.fault.Cause.TheVariants as cause
use Rattle.fare_table.specs.declared.fault.TableFault.{TableFault}
use Rattle.fare_table.specs.declared.fault.TableFault.TheVariants.{NotToml, UnknownStation}
use Rattle.fare_table.specs.declared.fault.TableFault.TheVariants.{MissingSingle}
use Rattle.fare_table.specs.declared.fault.TableFault.TheVariants.{MaximumTooLow, BadZone, BadDate}
use Rattle.fare_table.specs.declared.rates.Rates.{Rates}
use Rattle.fare_table.specs.declared.rows.Single.{Single}
use Rattle.fare_table.specs.declared.rows.Pair.{Pair}
use Rattle.fare_table.specs.declared.rows.Interchange.{Interchange}
use Rattle.fare_table.specs.declared.station.Station.{Station}

-- a key that is absent, then a value of the wrong type, then one out of its range
abbrev pub key_faults : Members → List TableFault
key_faults ms =
    walk_faults cause.Missing ms ++ (walk_faults cause.WrongType ms ++ walk_faults cause.Range ms)

-- a row that names what an earlier row of its list names
abbrev pub twice_faults : Members → List TableFault
twice_faults ms =
    repeats same_station key.Station [] 1 (stations_of (rows_at key.Station ms))
    ++ (repeats same_single key.Single [] 1 (singles_of (rows_at key.Single ms))
    ++ (repeats same_pair key.Pair [] 1 (pairs_of (rows_at key.Pair ms))
    ++ (repeats same_cap key.Cap [] 1 (caps_of (rows_at key.Cap ms))
    ++ repeats same_interchange key.Interchange [] 1
    (interchanges_of (rows_at key.Interchange ms)))))

-- some station has this number
abbrev pub is_known : List Station → ℕ → Bool
is_known stations id = list_any (λ station. id == station.id) stations

-- a station that is named must be known
abbrev pub unknown : List Station → ℕ → List TableFault
unknown stations id = if is_known stations id then [] else UnknownStation id ∷ []

-- the stations that a pair names and that are not known, in its order
abbrev pub unknown_of_pair : List Station → Pair → List TableFault
unknown_of_pair stations pair = unknown stations pair.from ++ unknown stations pair.to

-- the stations that an interchange names and that are not known, in its order
abbrev pub unknown_of_interchange : List Station → Interchange → List TableFault
unknown_of_interchange stations interchange =
    unknown stations interchange.a ++ unknown stations interchange.b

-- a pair or an interchange that names a station which is not known
abbrev pub unknown_faults : List Station → List Pair → List Interchange → List TableFault
unknown_faults stations pairs interchanges =
    flat_map (unknown_of_pair stations) pairs
    ++ flat_map (unknown_of_interchange stations) interchanges

-- some station is in this zone
abbrev pub is_used : List Station → ℕ → Bool
is_used stations zone = list_any (λ station. has_zone zone station.zones) stations

-- two zones of stations, the lower one first, that no single has
abbrev pub missing_single : List Station → List Single → ℕ → ℕ → Option TableFault
missing_single stations singles low high =
    if ((nat_le low high && is_used stations low) && is_used stations high)
    && not (is_some (single_at singles low high))
    then Some (MissingSingle low high) else None

-- the singles that are missing of a lower zone and of these higher ones
abbrev pub missing_from : List Station → List Single → List ℕ → ℕ → List TableFault
missing_from stations singles zones low = filter_map (missing_single stations singles low) zones

-- the singles that are missing, by the lower zone and then by the higher one
abbrev pub missing_singles : List Station → List Single → List TableFault
missing_singles stations singles = flat_map (missing_from stations singles all_zones) all_zones

-- a maximum that is too low
abbrev pub maximum_faults : Rates → List Single → List Pair → List TableFault
maximum_faults rates singles pairs =
    if is_maximum_low rates singles pairs then MaximumTooLow ∷ [] else []

-- a zone whose text is no POSIX TZ rule
abbrev pub zone_faults : List ℕ → List TableFault
zone_faults text = if is_some (read_whole text) then [] else BadZone ∷ []

-- a holiday whose text is no date, in rows of which the first has this number
abbrev pub date_faults : ℕ → List Data → List TableFault
date_faults row [] = []
date_faults row (d ∷ ds) =
    (if is_some (date_day (text_in (Some d))) then [] else BadDate row ∷ [])
    ++ date_faults (row + 1) ds

-- the faults between the rows of a table's lists
abbrev pub agreement_faults :
    Rates → List Station → List Single → List Pair → List Interchange → List TableFault
agreement_faults rates stations singles pairs interchanges =
    unknown_faults stations pairs interchanges
    ++ (missing_singles stations singles ++ maximum_faults rates singles pairs)

-- the faults between the rows of a tree's lists
abbrev pub agreement_faults_of : Members → List TableFault
agreement_faults_of ms = agreement_faults (rates_of ms)
    (stations_of (rows_at key.Station ms)) (singles_of (rows_at key.Single ms))
    (pairs_of (rows_at key.Pair ms)) (interchanges_of (rows_at key.Interchange ms))

-- the faults of the zone and of the dates
abbrev pub time_faults : Members → List TableFault
time_faults ms =
    zone_faults (text_in (value_at key.Zone ms)) ++ date_faults 1 (rows_at key.Holidays ms)

-- all faults of a table
abbrev pub faults : Members → List TableFault
faults ms = key_faults ms ++ (twice_faults ms ++ (agreement_faults_of ms ++ time_faults ms))

-- the first fault of a text that a tree may be read from
abbrev pub first_fault_of : Option Members → Option TableFault
first_fault_of None = Some NotToml
first_fault_of (Some ms) = first (faults ms)

-- the first fault of a text
abbrev pub first_fault : List ℕ → Option TableFault
first_fault text = first_fault_of (parse_document text)

-- the first fault of the table that some bytes hold
abbrev pub fault_in : List ℕ → Option TableFault
fault_in bytes = if is_utf8 bytes then first_fault bytes else Some NotToml
