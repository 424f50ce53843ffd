use Rattle.std.proofs.Common.{[], ◌++◌, ap, ◌∙◌, subst}
use Rattle.gate_session.specs.declared.answer.Answer.{Answer}
use Rattle.gate_session.specs.Answers.{AnswerFits, answer_frame}
use Rattle.gate_law.proofs.AtOnceLemmas.{written_whole, heard-ok}
use Rattle.gate_law.proofs.at_once.settle_at_once.Goals as goal

-- the whole frame was handed over, and the whole answer is there
pub returns-clause-heard : goal.returns-clause-heard
returns-clause-heard g c touch waits =
    let fits = c.frame_into-size.ensures.fits touch waits in
    let of_types = c.fitting-answer.ensures.fits in
    let same = c.fitting-answer.ensures.same in
    let text =
    written_whole c.write_into-size.new.out (answer_frame c.fitting-answer.result) _ c.write_into-size.result
    c.write_into-size.ensures.written c.write_into-size.ensures.length in
    record {
      answer = c.answer_to.result;
      given = c.answer_to.ensures touch fits (c.frame_into-size.ensures.written touch waits);
      reply = λ reply is.
          c.hear_in.ensures.heard touch reply [] waits fits (subst AnswerFits is of_types).2
          (text ∙ ap (λ (a : Answer). answer_frame a ++ []) (same ∙ is));
      fault = λ code is.
          c.hear_in.ensures.told touch code [] waits fits (subst AnswerFits is of_types).0
          (text ∙ ap (λ (a : Answer). answer_frame a ++ []) (same ∙ is));
    }

pub returns-clause-ok : goal.returns-clause-ok
returns-clause-ok g c touch waits does =
    heard-ok g.C.Clerk.gives touch c.args.clerk.now c.answer_to.new.clerk c.hear_in.result
    (returns-clause-heard g c touch waits) does
