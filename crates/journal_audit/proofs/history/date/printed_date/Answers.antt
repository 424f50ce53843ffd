use Rattle.std.proofs.Common.{sym, ap, ◌∙◌}
use Rattle.journal_audit.specs.Calendar.{day_text}
use Rattle.journal_audit.proofs.CalendarLemmas.{day_text-date}
use Rattle.journal_audit.proofs.history.date.printed_date.Goals as goal

-- the date is what is printed of its day
pub returns : goal.returns
returns c = c.date_text.ensures ∙ sym (day_text-date c.args.date) ∙ ap day_text c.requires
