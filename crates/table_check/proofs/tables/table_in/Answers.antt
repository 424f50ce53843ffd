use Rattle.std.proofs.Common.{List, ℕ, subst}
use Rattle.std.proofs.lemmas.Result.{IfErr-weaker}
use Rattle.table_check.specs.Tables.{IsTableFault}
use Rattle.table_check.proofs.TableLemmas.{in-file}
use Rattle.table_check.proofs.tables.table_in.Goals as goal

-- the fault of the bytes is that of the file which gave them
pub returns-clause-fault : goal.returns-clause-fault
returns-clause-fault g c =
    IfErr-weaker c.table_of.result (IsTableFault c.deref.result.now) _
    (λ fault is.
    in-file (g.F.WholeFiles.gave c.args.files.now) c.args.path.now c.in_ok-bytes.bytes.items c.in_ok-bytes.ensures.ok
    fault
    (subst (λ (bytes : List ℕ). IsTableFault bytes fault) c.deref.ensures.value is))
    c.table_of.ensures.fault
