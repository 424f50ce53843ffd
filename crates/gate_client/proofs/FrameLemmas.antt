-- A frame that is put together of two parts, and one that stands at the front.
use Rattle.std.proofs.Common.{◌≡◌, ℕ, ◌+◌, List, ◌++◌, length, take, drop, Option, Some, None, IfSome, sym, ap, ◌∙◌}
use Rattle.std.proofs.Common.{arith, append_assoc, length-append, take-append-drop}
use Rattle.std.proofs.lemmas.List.{take_at}
use borrow.Rule.Slice.PartMut.{put_mid, post_of}
use Rattle.gate_session.specs.declared.answer.Answer.{Answer}
use Rattle.gate_session.specs.Answers.{answer_frame}
use Rattle.text_io.specs.Writing.{IsBeginning}

-- two bytes stand at the front of a list, and some of those written behind them are a text
pub framed : (size k : ℕ) (xs ys head tail text more : List ℕ) → xs ≡ head ++ tail → length head ≡ 2
    → ys ≡ text ++ more → size ≡ length text → take (2 + size) (put_mid 2 k xs ys) ≡ head ++ text
framed size k xs ys head tail text more front two is long =
    let rest = post_of 2 k xs in
    let begins : take 2 xs ≡ head = ap (take 2) front ∙ take_at head tail 2 two in
    let whole : put_mid 2 k xs ys ≡ (head ++ text) ++ (more ++ rest) =
    ap (λ (l : List ℕ). l ++ (ys ++ rest)) begins ∙ ap (λ (l : List ℕ). head ++ (l ++ rest)) is
    ∙ ap (λ (l : List ℕ). head ++ l) (append_assoc text more rest) ∙ sym (append_assoc head text (more ++ rest)) in
    ap (take (2 + size)) whole
    ∙ take_at (head ++ text) (more ++ rest) (2 + size) (omega (arith, length-append head text, two, long))

-- what is read at the front of some bytes stands there
pub at_front : (n : ℕ) (bytes frame : List ℕ) (found : Option Answer) → frame ≡ take n bytes
    → IfSome found (λ answer. frame ≡ answer_frame answer)
    → IfSome found (λ answer. IsBeginning (answer_frame answer) bytes)
at_front n bytes frame None front is = tt
at_front n bytes frame (Some answer) front is =
    (drop n bytes, sym (take-append-drop n bytes) ∙ ap (λ (l : List ℕ). l ++ drop n bytes) (sym front ∙ is))

-- what two equal options have is equal
pub one_some : {X : Type 0} {x y : X} → Some x ≡ Some y → x ≡ y
one_some is = cc
