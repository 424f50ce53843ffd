use Rattle.std.proofs.Common.{sym, rules, w64}
use Rattle.std.specs.Int.RustNames.{FitsSigned}
use Rattle.std.proofs.lemmas.Int.{to_z-of_z}
use Rattle.journal_audit.proofs.RowLemmas.{totals-by}
use Rattle.journal_audit.proofs.balances.totals.totals_of.Goals as goal

-- the sums of the rows give the totals
pub returns-clause-value : goal.returns-clause-value
returns-clause-value c =
    let charge_fits : FitsSigned w64 c.charge.result = search rules in
    let left_fits : FitsSigned w64 c.left.result = search rules in
    rw (
      to_z-of_z w64 c.charge.result charge_fits,
      to_z-of_z w64 c.left.result left_fits,
      c.charge.ensures,
      c.left.ensures,
    )
    (sym (totals-by c.args.rows.now c.sums_in-sums.result c.sums_in-sums.ensures.value c.requires.rows))
