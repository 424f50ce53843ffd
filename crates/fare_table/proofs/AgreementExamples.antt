-- The first fault of small tables whose keys have none, by computing: rows that repeat others,
-- that do not agree, and texts that name no zone or day.
use Rattle.std.proofs.Common.{◌≡◌, [], ◌∷◌, Some, refl}
use Rattle.std.specs.Prelude.{codes}
use Rattle.jiff_tz.specs.PosixReader.{read_whole, read_tz, read_abbreviation, read_unquoted, read_offset}
use Rattle.jiff_tz.specs.PosixReader.{read_up_to_two, read_digit, read_sign, read_minutes}
use Rattle.toml.specs.Data.{string}
use Rattle.toml_reading.specs.First.{first}
use Rattle.fare_table.specs.Content.{single_of, pair_of, cap_of, interchange_of}
use Rattle.fare_table.specs.Faults.{faults}
use Rattle.fare_table.specs.declared.key.Key.TheVariants as key
use Rattle.fare_table.specs.declared.fault.TableFault.TheVariants.{Twice, UnknownStation, MissingSingle}
use Rattle.fare_table.specs.declared.fault.TableFault.TheVariants.{MaximumTooLow, BadZone, BadDate}
use Rattle.fare_table.proofs.SampleTable.{whole, list, set, station, single, pair, cap, interchange, rows, sample}

-- ---- Twice

station_twice : first (faults (set key.Station (rows (station 3 (1 ∷ []) ∷ station 2 (1 ∷ []) ∷ station 3 (3
    ∷ []) ∷ [])) sample))
    ≡ Some (Twice key.Station 3)
station_twice = refl

single_twice : first (faults (set key.Single (rows (single 1 2 300 250 ∷ single 1 2 310 250 ∷ [])) sample))
    ≡ Some (Twice key.Single 2)
unfolding single_of
single_twice = refl

-- in the other order
pair_twice : first (faults (set key.Pair (rows (pair 2 1 1 2 230 200 ∷ pair 1 2 1 2 230 200 ∷ [])) sample))
    ≡ Some (Twice key.Pair 2)
unfolding single_of pair_of
pair_twice = refl

cap_twice : first (faults (set key.Cap (rows (cap 1 2 (codes "anytime") 850 ∷ cap 1 3 (codes "anytime") 850
    ∷ cap 1 2 (codes "anytime") 9 ∷ [])) sample))
    ≡ Some (Twice key.Cap 3)
unfolding single_of pair_of cap_of
cap_twice = refl

-- in the other order
interchange_twice : first (faults (set key.Interchange (rows (interchange 1 3 10 ∷ interchange 3 1 20
    ∷ [])) sample))
    ≡ Some (Twice key.Interchange 2)
unfolding single_of pair_of cap_of interchange_of
interchange_twice = refl

stations_before_interchanges : first (faults (set key.Station (rows (station 3 (1 ∷ []) ∷ station 3 (3 ∷ [])
    ∷ [])) (set key.Interchange (rows (interchange 1 3 10 ∷ interchange 3 1 20 ∷ [])) sample)))
    ≡ Some (Twice key.Station 2)
stations_before_interchanges = refl

-- ---- UnknownStation

unknown_from : first (faults (set key.Pair (rows (pair 8 9 1 2 230 200 ∷ [])) sample)) ≡ Some (UnknownStation 8)
unfolding single_of pair_of cap_of interchange_of
unknown_from = refl

unknown_to : first (faults (set key.Pair (rows (pair 2 9 1 2 230 200 ∷ [])) sample)) ≡ Some (UnknownStation 9)
unfolding single_of pair_of cap_of interchange_of
unknown_to = refl

unknown_a : first (faults (set key.Interchange (rows (interchange 8 9 10 ∷ [])) sample)) ≡ Some (UnknownStation 8)
unfolding single_of pair_of cap_of interchange_of
unknown_a = refl

unknown_b : first (faults (set key.Interchange (rows (interchange 1 9 10 ∷ [])) sample)) ≡ Some (UnknownStation 9)
unfolding single_of pair_of cap_of interchange_of
unknown_b = refl

pairs_before_interchanges : first (faults (set key.Pair (rows (pair 2 1 1 2 230 200 ∷ pair 1 9 1 2 230 200
    ∷ [])) (set key.Interchange (rows (interchange 8 1 10 ∷ [])) sample)))
    ≡ Some (UnknownStation 9)
unfolding single_of pair_of cap_of interchange_of
pairs_before_interchanges = refl

-- ---- MissingSingle: the least zone, then the least other one

-- 1 and 3 come before 2 and 2 and before 2 and 3
least_a_then_least_b : first (faults (set key.Single (rows (single 1 1 300 250 ∷ single 1 2 350 290
    ∷ single 3 3 210 190 ∷ [])) sample))
    ≡ Some (MissingSingle 1 3)
unfolding single_of pair_of cap_of interchange_of
least_a_then_least_b = refl

least_b : first (faults (set key.Single (rows (single 1 1 300 250 ∷ [])) sample)) ≡ Some (MissingSingle 1 2)
unfolding single_of pair_of cap_of interchange_of
least_b = refl

-- 3 is the second zone of a station alone
second_zone_counts : first (faults (set key.Single (rows (single 1 1 300 250 ∷ single 1 2 350 290
    ∷ single 2 2 210 190 ∷ [])) sample))
    ≡ Some (MissingSingle 1 3)
unfolding single_of pair_of cap_of interchange_of
second_zone_counts = refl

-- ---- MaximumTooLow

maximum_below_off_peak : first (faults (set key.MaximumPeak (whole 699) sample)) ≡ Some MaximumTooLow
unfolding single_of pair_of cap_of interchange_of
maximum_below_off_peak = refl

maximum_below_a_single : first (faults (set key.MaximumPeak (whole 399)
    (set key.MaximumOffPeak (whole 399) sample)))
    ≡ Some MaximumTooLow
unfolding single_of pair_of cap_of interchange_of
maximum_below_a_single = refl

maximum_below_an_off_peak_single : first (faults (set key.MaximumOffPeak (whole 309) sample)) ≡ Some MaximumTooLow
unfolding single_of pair_of cap_of interchange_of
maximum_below_an_off_peak_single = refl

maximum_below_a_pair : first (faults (set key.Pair (rows (pair 2 1 1 2 901 200 ∷ [])) sample)) ≡ Some MaximumTooLow
unfolding single_of pair_of cap_of interchange_of
maximum_below_a_pair = refl

maximum_below_an_off_peak_pair : first (faults (set key.Pair (rows (pair 2 1 1 2 701 701 ∷ [])) sample))
    ≡ Some MaximumTooLow
unfolding single_of pair_of cap_of interchange_of
maximum_below_an_off_peak_pair = refl

-- ---- BadZone and BadDate

zone_of_one_letter : first (faults (set key.Zone (string (codes "U")) sample)) ≡ Some BadZone
unfolding single_of pair_of cap_of interchange_of read_whole read_tz read_abbreviation read_unquoted read_offset
    read_up_to_two read_digit read_sign read_minutes
zone_of_one_letter = refl

day_32 : first (faults (set key.Holidays (list (string (codes "2025-12-25") ∷ string (codes "2025-12-32")
    ∷ [])) sample))
    ≡ Some (BadDate 2)
unfolding single_of pair_of cap_of interchange_of read_whole read_tz read_abbreviation read_unquoted read_offset
    read_up_to_two read_digit read_sign read_minutes
day_32 = refl

zone_before_date : first (faults (set key.Zone (string (codes "U")) (set key.Holidays (list (string []
    ∷ [])) sample)))
    ≡ Some BadZone
unfolding single_of pair_of cap_of interchange_of read_whole read_tz read_abbreviation read_unquoted read_offset
    read_up_to_two read_digit read_sign read_minutes
zone_before_date = refl
