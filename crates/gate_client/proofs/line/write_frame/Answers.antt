use Rattle.std.proofs.Common.{◌∙◌, ℕ, List, ◌++◌, take, drop, replicate, refl, ap}
use Rattle.std.specs.Int.{w16, to_be_bytes}
use Rattle.oyster_account.specs.Touch.{touch_bytes}
use borrow.Rule.Slice.PartMut.{post_of}
use Rattle.gate_client.proofs.FrameLemmas.{framed}
use Rattle.gate_client.proofs.line.write_frame.Goals as goal

-- the length stands in two bytes, and the touch's bytes behind it
pub returns-clause-written : goal.returns-clause-written
returns-clause-written c =
    let size : ℕ = c.write_into-size.result in
    let rest : List ℕ = post_of 0 2 c.args.frame.now in
    framed size 51 (c.write_u16.new.buf ++ rest) c.copy_from_slice.new.self (to_be_bytes w16 size)
    (drop 2 (take 2 c.args.frame.now) ++ rest) (touch_bytes c.args.touch.now) (drop size (replicate 51 0))
    (ap (λ (l : List ℕ). l ++ rest) c.write_u16.ensures) refl
    (c.copy_from_slice.ensures.after ∙ c.write_into-size.ensures.written) c.write_into-size.ensures.length
    ∙ ap (λ n. to_be_bytes w16 n ++ touch_bytes c.args.touch.now) c.write_into-size.ensures.length
