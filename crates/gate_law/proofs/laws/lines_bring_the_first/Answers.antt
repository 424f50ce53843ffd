use Rattle.gate_session.specs.declared.request.Request.{Request}
use Rattle.gate_session.specs.declared.answer.Answer.{Answer}
use Rattle.gate_law.proofs.LineLemmas.{requests, answers, by_line}
use Rattle.gate_law.proofs.laws.lines_bring_the_first.Goals as goal

pub returns-clause-requests : goal.returns-clause-requests
returns-clause-requests c = requests

pub returns-clause-answers : goal.returns-clause-answers
returns-clause-answers c = answers

pub returns-clause-line_of_requests : goal.returns-clause-line_of_requests
returns-clause-line_of_requests c = by_line Request

pub returns-clause-line_of_answers : goal.returns-clause-line_of_answers
returns-clause-line_of_answers c = by_line Answer
