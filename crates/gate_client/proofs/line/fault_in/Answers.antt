use Rattle.std.proofs.Common.{◌≡◌, ℕ, List, [], drop, get_or, Some, sym, ap, ◌∙◌, arith}
use Rattle.gate_session.specs.declared.answer.Answer.TheVariants as answers
use Rattle.gate_session.specs.Answers.{answer_frame}
use Rattle.gate_client.proofs.line.fault_in.Goals as goal

-- a frame begins with its length
pub returns-in_err-_length : goal.returns-in_err-_length
returns-in_err-_length c = record {
  again = λ code gate number fits is.
      absurd (c.in_err-_length.ensures.again 8 (drop 2 (answer_frame (answers.Fault code gate number)))
      (omega arith) is);
}

-- each field is read from where the frame has it
pub returns : goal.returns
returns c = record {
  again = λ code gate number fits is.
      let frame : List ℕ = answer_frame (answers.Fault code gate number) in
      let length = c.in_ok-_length.ensures.again 8 (drop 2 frame) (omega arith) is in
      let kind : c.in_ok-_kind.rest.now ≡ drop 3 frame =
      ap (drop 1) (sym c.in_ok-_kind.ensures.cases.0 ∙ length.1) in
      let rest = sym c.in_ok-code.ensures.cases.0 ∙ kind in
      let said : c.in_ok-code.code.now ≡ code = ap (λ (l : List ℕ). get_or l 0 0) rest in
      let own = c.in_ok-gate.ensures.again gate (drop 6 frame) fits.1 (ap (drop 1) rest) in
      let named = c.in_ok-number.ensures.again number [] fits.2 own.1 in
      ap (λ k. Some (answers.Fault k c.in_ok-gate.gate c.in_ok-number.number)) said
      ∙ ap (λ g. Some (answers.Fault code g c.in_ok-number.number)) own.0
      ∙ ap (λ n. Some (answers.Fault code gate n)) named.0;
}
