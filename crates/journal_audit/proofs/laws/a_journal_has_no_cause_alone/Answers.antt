use Rattle.journal_audit.proofs.LawLemmas.{no-cause_alone}
use Rattle.journal_audit.proofs.laws.a_journal_has_no_cause_alone.Goals as goal

pub returns : goal.returns
returns c = no-cause_alone
