-- The printed text of each fault: its number and its name (TABLE.md, "Revised tables"; this
-- project's choice).
use Rattle.std.specs.Prelude.{codes, ℕ, List}
use Rattle.fare_schedule.specs.declared.fault.SupplyFault.{SupplyFault}
use Rattle.fare_schedule.specs.declared.fault.SupplyFault.TheVariants.{Memory, Twice, OtherZone}
use Rattle.fare_schedule.specs.declared.fault.SupplyFault.TheVariants.{OtherStations, TooMany}

-- what a fault prints
abbrev pub printed_fault : SupplyFault → List ℕ
printed_fault Memory = codes "1 Memory"
printed_fault Twice = codes "2 Twice"
printed_fault OtherZone = codes "3 OtherZone"
printed_fault OtherStations = codes "4 OtherStations"
printed_fault TooMany = codes "5 TooMany"
