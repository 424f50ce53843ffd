use Rattle.std.proofs.Common.{◌≡◌, ℕ, ℤ, List, [], drop, get_or, Some, sym, ap, ◌∙◌, arith}
use Rattle.std.specs.Int.{w32, w64, cast_unsigned, cast_signed}
use Rattle.std.proofs.lemmas.Int.{to_z-of_z}
use Rattle.gate_session.specs.declared.answer.Answer.{Answer}
use Rattle.gate_session.specs.declared.answer.Answer.TheVariants as answers
use Rattle.gate_session.specs.Answers.{answer_frame}
use Rattle.gate_client.proofs.line.reply_in.Goals as goal

abbrev made : ℕ → ℕ → ℕ → ℤ → ℤ → Answer
made g n v d b = answers.Reply g n (record { verdict = v; change = d; balance = b })

-- a frame begins with its length
pub returns-in_err-_length : goal.returns-in_err-_length
returns-in_err-_length c = record {
  again = λ gate number reply fits is.
      absurd (c.in_err-_length.ensures.again 20 (drop 2 (answer_frame (answers.Reply gate number reply)))
      (omega arith) is);
}

-- each field is read from where the frame has it
pub returns : goal.returns
returns c = record {
  again = λ gate number reply fits is.
      let frame : List ℕ = answer_frame (answers.Reply gate number reply) in
      let length = c.in_ok-_length.ensures.again 20 (drop 2 frame) (omega arith) is in
      let kind : c.in_ok-_kind.rest.now ≡ drop 3 frame =
      ap (drop 1) (sym c.in_ok-_kind.ensures.cases.0 ∙ length.1) in
      let own = c.in_ok-gate.ensures.again gate (drop 5 frame) fits.0 kind in
      let named = c.in_ok-number.ensures.again number (drop 9 frame) fits.1 own.1 in
      let rest = sym c.in_ok-verdict.ensures.cases.0 ∙ named.1 in
      let verdict : c.in_ok-verdict.verdict.now ≡ reply.verdict = ap (λ (l : List ℕ). get_or l 0 0) rest in
      let change = c.in_ok-change.ensures.again reply.change (drop 14 frame) fits.2.change (ap (drop 1) rest) in
      let balance = c.in_ok-balance.ensures reply.balance [] fits.2.balance change.1 in
      let moved = ap (λ z. cast_signed w32 (cast_unsigned w32 z)) change.0
      ∙ to_z-of_z w32 reply.change fits.2.change in
      let left = ap (λ z. cast_signed w64 (cast_unsigned w64 z)) balance.0
      ∙ to_z-of_z w64 reply.balance fits.2.balance in
      ap (λ g. Some (made g c.in_ok-number.number c.in_ok-verdict.verdict.now
      (cast_signed w32 (cast_unsigned w32 c.in_ok-change.change))
      (cast_signed w64 (cast_unsigned w64 c.in_ok-balance.balance)))) own.0
      ∙ ap (λ n. Some (made gate n c.in_ok-verdict.verdict.now
      (cast_signed w32 (cast_unsigned w32 c.in_ok-change.change))
      (cast_signed w64 (cast_unsigned w64 c.in_ok-balance.balance)))) named.0
      ∙ ap (λ v. Some (made gate number v (cast_signed w32 (cast_unsigned w32 c.in_ok-change.change))
      (cast_signed w64 (cast_unsigned w64 c.in_ok-balance.balance)))) verdict
      ∙ ap (λ d. Some (made gate number reply.verdict d
      (cast_signed w64 (cast_unsigned w64 c.in_ok-balance.balance)))) moved
      ∙ ap (λ b. Some (made gate number reply.verdict reply.change b)) left;
}
