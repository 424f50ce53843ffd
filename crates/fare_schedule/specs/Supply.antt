-- Why a table isn't supplied (TABLE.md, "Revised tables"; this project's choice).
use Rattle.std.specs.Prelude.{Bool, not, nat_lt, length, Option, Some, None, is_some, if◌then◌else◌}
use Rattle.std.specs.Str.{bytes_eq}
use Rattle.fare_table.specs.Fares.{digest_of, zone_text_of}
use Rattle.fare_table.specs.declared.fares.Fares.{Fares}
use Rattle.fare_schedule.specs.InForce.{table_of}
use Rattle.fare_schedule.specs.Schedule.{tables_of}
use Rattle.fare_schedule.specs.Stations.{have_same_stations}
use Rattle.fare_schedule.specs.declared.fault.SupplyFault.{SupplyFault}
use Rattle.fare_schedule.specs.declared.fault.SupplyFault.TheVariants.{Twice, OtherZone}
use Rattle.fare_schedule.specs.declared.fault.SupplyFault.TheVariants.{OtherStations}
use Rattle.fare_schedule.specs.declared.fault.SupplyFault.TheVariants.{TooMany}
use Rattle.fare_schedule.specs.declared.schedule.Schedule.{Schedule}
use Rattle.fare_schedule.specs.declared.schedule.TheConstants.{TABLE_LIMIT}

-- a fault where its cause holds, else what comes after it
abbrev pub fault_where : Bool → SupplyFault → Option SupplyFault → Option SupplyFault
fault_where holds fault others = if holds then Some fault else others

-- a table of the same digest is there
abbrev pub is_twice : Schedule → Fares → Bool
is_twice schedule table = is_some (table_of (tables_of schedule) (digest_of table))

-- its zone has another text than the first table's
abbrev pub is_of_other_zone : Schedule → Fares → Bool
is_of_other_zone schedule table =
    not (bytes_eq (zone_text_of schedule.first) (zone_text_of table))

-- its stations have other numbers than the first table's
abbrev pub is_of_other_stations : Schedule → Fares → Bool
is_of_other_stations schedule table = not (have_same_stations schedule.first table)

-- there are as many tables as a schedule may have
abbrev pub is_full : Schedule → Bool
is_full schedule = not (nat_lt (length (tables_of schedule)) TABLE_LIMIT)

-- the first cause that holds, want of memory aside
abbrev pub supply_fault : Schedule → Fares → Option SupplyFault
supply_fault schedule table =
    fault_where (is_twice schedule table) Twice
    (fault_where (is_of_other_zone schedule table) OtherZone
    (fault_where (is_of_other_stations schedule table) OtherStations
    (fault_where (is_full schedule) TooMany None)))
