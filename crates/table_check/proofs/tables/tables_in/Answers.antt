use Rattle.std.proofs.Common.{inr}
use Rattle.table_check.proofs.TableLemmas.{said-more}
use Rattle.table_check.proofs.tables.tables_in.Goals as goal

-- the first table is there, and a further one isn't taken
pub returns-clause-fault : goal.returns-clause-fault
returns-clause-fault g c =
    said-more c.schedule_of.result (λ fault is. inr (c.in_ok-first.first, c.in_ok-first.ensures.ok, is))
    c.schedule_of.ensures.fault
