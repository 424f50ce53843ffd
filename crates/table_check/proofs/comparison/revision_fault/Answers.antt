use Rattle.std.proofs.Common.{◌≢◌, rules}
use Rattle.fare_schedule.specs.declared.fault.SupplyFault.TheVariants.{Memory}
use Rattle.table_check.proofs.comparison.revision_fault.Goals as goal

-- the schedule of the first table takes the second
pub returns-in-Ok : goal.returns-in-Ok
returns-in-Ok c = (c.in_ok-schedule.schedule, c.in_ok-schedule.ensures.tables, c.in-Ok.ensures.ok)

-- it doesn't, for this fault
pub returns : goal.returns
returns c =
    let other : c.in-Err.fault ≢ Memory = search rules in
    (c.in_ok-schedule.schedule, c.in_ok-schedule.ensures.tables, c.in-Err.ensures.fault other)
