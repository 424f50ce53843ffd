use Rattle.std.proofs.Common.{option_map}
use Rattle.std.proofs.lemmas.Result.{err_from_is_err_and}
use Rattle.reply_book.specs.Tables.{tables_in}
use Rattle.journal_audit.proofs.AuditLemmas.{refused-alone}
use Rattle.journal_audit.proofs.audit.report.report.Goals as goal

pub returns-in_err-found-clause-fault : goal.returns-in_err-found-clause-fault
returns-in_err-found-clause-fault c =
    let p = err_from_is_err_and c.from_residual.result c.from_residual.ensures.1 in
    rw (p.1, p.2) (refused-alone (option_map tables_in c.args.schedule) c.args.bytes.now c.first_digest.result
    c.in_err-found.field-0.0 c.first_digest.ensures c.in_err-found.ensures.fault c.in_err-found.ensures.discrepancy)
