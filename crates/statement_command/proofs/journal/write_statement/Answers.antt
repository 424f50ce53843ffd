use Rattle.std.proofs.Common.{[], refl, inl, rules}
use Rattle.std.proofs.lemmas.Result.{err_from_is_err_and}
use Rattle.statement_command.proofs.journal.write_statement.Goals as goal

-- nothing was written of bytes that are refused
pub returns-in_err-text : goal.returns-in_err-text
returns-in_err-text g c =
    let p = err_from_is_err_and c.from_residual.result c.from_residual.ensures.1 in
    record {
      text = [];
      appended = search rules;
      says = rw (p.1, p.2) (inl (refl, c.in_err-text.ensures.fault));
    }
