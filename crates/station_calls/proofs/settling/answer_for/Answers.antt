use Rattle.std.proofs.Common.{sym, subst}
use Rattle.gate_session.specs.Answers.{AnswerFits}
use Rattle.station_calls.proofs.settling.answer_for.Goals as goal

pub returns-clause-fits : goal.returns-clause-fits
returns-clause-fits g c = subst AnswerFits (sym c.fitting.ensures.same) c.fitting.ensures.fits
