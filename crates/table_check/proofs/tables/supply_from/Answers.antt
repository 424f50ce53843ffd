use Rattle.std.proofs.Common.{inr}
use Rattle.table_check.proofs.TableLemmas.{handed-on}
use Rattle.table_check.proofs.tables.supply_from.Goals as goal

-- the table was read, and the schedule refuses it
pub returns-in_err-supply-clause-fault : goal.returns-in_err-supply-clause-fault
returns-in_err-supply-clause-fault g c =
    handed-on _ c.from_residual-in_err-supply.result c.in_err-supply.field-0.0 c.from_residual-in_err-supply.ensures.1
    (inr (record {
      table = c.in_ok-table.table;
      read = c.in_ok-table.ensures.ok;
      refused = c.in_err-supply.ensures.fault;
    }))

-- the schedule has the table that was read
pub returns-clause-supplied : goal.returns-clause-supplied
returns-clause-supplied g c = (c.in_ok-table.table, c.in_ok-table.ensures.ok, c.in_ok-supply.ensures.supplied)
