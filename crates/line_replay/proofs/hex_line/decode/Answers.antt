use Rattle.std.proofs.Common.{◌*◌, ◌≡◌, ◌<◌, ◌≤◌, ◌%◌, Ok, ℕ, inl, inr, ap, ◌∙◌, arith}
use Rattle.std.proofs.lemmas.Bool.{cases_lt}
use Rattle.std.proofs.lemmas.Bool.Decides.{nat_tests}
use Rattle.hex.proofs.Pairs.{decode_step, decode_done}
use Rattle.hex.proofs.HexLemmas.{decode_of-even}
use Rattle.line_replay.proofs.DigitLemmas.{decode_of-refused}
use Rattle.line_replay.proofs.hex_line.decode.Goals as goal

pub bytes-preserved : goal.bytes-preserved
bytes-preserved c =
    let value = c.value_of-value.result in
    record {
      digits = λ small.
          let below : value < 256 = omega (arith, small, c.bits_of_both-seen.ensures.other) in
          let before : c.bytes.seen < 256 = omega (arith, small, c.bits_of_both-seen.ensures.one) in
          let byte : value ≡ value % 256 = omega (arith, below) in
          decode_step _ _ c.bytes.place _ (omega arith) (omega arith)
          (c.value_of-value.ensures.some below (2 * c.bytes.place)
          ∙ ap (λ (n : ℕ). Ok n) byte) (c.bytes.invariant.digits before);
      none = λ big. elim (cases_lt c.bytes.seen 256) [
        | inl before ↦
            let above : 256 ≤ value = elim (cases_lt value 256) [
              | inl below ↦ absurd (omega (arith, big, c.bits_of_both-seen.ensures.digits before below))
              | inr high ↦ high
            ] in
            decode_of-refused c.args.line.now c.bytes.frame c.bytes.place (omega arith) (omega arith)
            (c.value_of-value.ensures.none above (2 * c.bytes.place)) (c.bytes.invariant.digits before)
        | inr was ↦ c.bytes.invariant.none was
      ];
    }

pub returns-clause-digits : goal.returns-clause-digits
returns-clause-digits c = λ is.
    let small : c.bytes.seen < 256 = grind (arith, nat_tests, is) in
    decode_of-even c.args.line.now (omega arith)
    ∙ decode_done _ c.bytes.frame c.bytes.place (omega arith) (omega arith) (c.bytes.invariant.digits small)

pub returns-clause-none : goal.returns-clause-none
returns-clause-none c = λ is.
    let big : 256 ≤ c.bytes.seen = grind (arith, nat_tests, is) in
    c.bytes.invariant.none big
