use Rattle.std.proofs.Common.{◌++◌, ◌+◌, ◌-◌, drop, arith}
use Rattle.gate_session.specs.declared.answer.Answer.TheVariants as answers
use Rattle.gate_session.specs.Answers.{answer_frame}
use Rattle.gate_client.proofs.FrameLemmas.{at_front}
use Rattle.gate_client.proofs.line.answer_at.Goals as goal

-- a frame begins with its length
pub returns-in_err-length-clause-reply : goal.returns-in_err-length-clause-reply
returns-in_err-length-clause-reply c gate number reply rest fits is =
    absurd (c.in_err-length.ensures.again 20 (drop 2 (answer_frame (answers.Reply gate number reply) ++ rest))
    (omega arith) is)

pub returns-in_err-length-clause-fault : goal.returns-in_err-length-clause-fault
returns-in_err-length-clause-fault c code gate number rest fits is =
    absurd (c.in_err-length.ensures.again 8 (drop 2 (answer_frame (answers.Fault code gate number) ++ rest))
    (omega arith) is)

-- what is read at the front stands there
pub returns-clause-some : goal.returns-clause-some
returns-clause-some c =
    at_front (2 + c.in_ok-length.length - 0) c.args.bytes.now c.in_ok-frame.frame.now c.answer_in.result
    c.in_ok-frame.ensures.lookup.0.2 c.answer_in.ensures.some
