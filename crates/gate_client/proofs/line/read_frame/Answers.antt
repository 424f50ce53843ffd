use Rattle.std.proofs.Common.{◌≡◌, ℕ, List, ◌++◌, length, replicate, sym, ap, subst, arith}
use Rattle.std.specs.Io.KnownBytes.{Consumes}
use Rattle.std.proofs.KnownBytes.{Consumes-trans}
use Rattle.std.proofs.lemmas.List.{length-take-le}
use borrow.Rule.Slice.PartMut.{post_of}
use Rattle.gate_client.proofs.FrameLemmas.{framed}
use Rattle.gate_client.proofs.line.read_frame.Goals as goal

-- the two bytes of the length and those behind them were read, one after the other
pub returns-clause-read : goal.returns-clause-read
returns-clause-read g c =
    let n : ℕ = c.read_u16-size.result in
    let head : List ℕ = c.read_exact.new.buf in
    let text : List ℕ = c.read_exact-2.new.buf in
    let rest : List ℕ = post_of 0 2 c.args.frame.now in
    let zeros : List ℕ = replicate 20 0 in
    let long : n ≡ length text = omega (
      arith,
      c.read_exact-2.auto.buf,
      length-take-le n zeros
          (omega (arith, c.if-size-gt-BODY_SIZE.false)),
    ) in
    let whole = framed n 20 (c.copy_from_slice.new.self ++ rest) c.copy_from_slice-2.new.self head rest text
    (post_of 0 n zeros) (ap (λ (l : List ℕ). l ++ rest) c.copy_from_slice.ensures.after)
    (omega (arith, c.read_exact.auto.buf)) c.copy_from_slice-2.ensures.after long in
    subst (Consumes (g.R.Read.remaining c.args.reader.now) (g.R.Read.remaining c.read_exact-2.new.self)) (sym whole)
    (Consumes-trans _ _ _ head text c.in-Ok.ensures.bytes c.in-Ok-read_exact.ensures.bytes)
