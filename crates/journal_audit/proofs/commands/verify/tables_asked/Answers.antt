use Rattle.std.proofs.Common.{ℕ, List, map, Option, option_map, subst, sym, Bor}
use Rattle.journal_audit.specs.Verified.{AreTablesRefused, AreWordsRefused}
use Rattle.table_check.proofs.TableLemmas.{handed-on}
use Rattle.journal_audit.proofs.commands.verify.tables_asked.Goals as goal

-- a first table is named, and the words give no tables
pub returns-in_err-schedule-in-Some-clause-fault : goal.returns-in_err-schedule-in-Some-clause-fault
returns-in_err-schedule-in-Some-clause-fault g c =
    let refused = rw c.as_slice.ensures.value at c.in_err-schedule-in-Some.ensures.fault in
    handed-on (AreTablesRefused (g.F.WholeFiles.gave c.args.files.now) c.args.asked.now) c.from_residual.result
    c.in_err-schedule-in-Some.field-0.0 c.from_residual.ensures.1
    (subst (λ (table : Option (Bor (List ℕ))). AreWordsRefused (g.F.WholeFiles.gave c.args.files.now)
    (option_map (λ word. word.now) table) (map (λ word. word.now) c.args.asked.now.revisions.items)
    c.in_err-schedule-in-Some.field-0.0) (sym c.in-Some.is) refused)
