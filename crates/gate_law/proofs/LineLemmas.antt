-- What is read of a line is the first of what was written on it.
use Rattle.std.proofs.Common.{◌≡◌, ◌⊎◌, inl, inr, ℕ, List, [], ◌∷◌, ◌++◌, length, flat_map, refl, sym, ap, ◌∙◌, subst}
use Rattle.std.proofs.Common.{append_assoc, arith}
use Rattle.std.specs.Prelude.{Contains}
use Rattle.std.specs.List.{All}
use Rattle.std.proofs.lemmas.List.{append-nil}
use Rattle.std.proofs.lemmas.List.Elements.{All-head, All-tail}
use Rattle.gate_session.specs.declared.request.Request.{Request}
use Rattle.gate_session.specs.declared.answer.Answer.{Answer}
use Rattle.gate_session.specs.Frames.{RequestFits, request_frame}
use Rattle.gate_session.specs.Answers.{AnswerFits, answer_frame}
use Rattle.text_io.specs.Writing.{IsCutShort}
use Rattle.gate_session.proofs.FrameLemmas.{one_frame}
use Rattle.gate_session.proofs.AnswerLemmas.{one_answer}
use Rattle.gate_law.specs.Lines.{AreFirstOf, DoesBringFirst, DoLinesBringRequests, DoLinesBringAnswers, AreByLine}
use Rattle.gate_law.proofs.ListLemmas.{contains-left}

-- two lists that are nothing together are nothing each
no_front : (a b : List ℕ) → a ++ b ≡ [] → a ≡ []
no_front [] b e = refl
no_front (x ∷ a) b e = absurd cc

no_back : (a b : List ℕ) → a ++ b ≡ [] → b ≡ []
no_back [] b e = e
no_back (x ∷ a) b e = absurd cc

module _ {X : Type 0} (Fits : X → Type 0) (frame : X → List ℕ)
    (one : (a b : X) (x y : List ℕ) → Fits a → Fits b → frame a ++ x ≡ frame b ++ y → (a ≡ b) × (x ≡ y))
    (some : (a : X) → frame a ≡ [] → ⊥) where
  -- frames and nothing, or a part of one, are as bytes the frames of the first of them, and more bytes
  firsts : (heard sent : List X) (part later : List ℕ) → All Fits heard → All Fits sent
      → (part ≡ []) ⊎ ((next : X) × Fits next × IsCutShort part (frame next))
      → flat_map frame sent ++ part ≡ flat_map frame heard ++ later → AreFirstOf heard sent
  firsts [] sent part later fits fit ends e = (sent, refl)
  firsts (h ∷ heard) [] part later fits fit (inl none) e =
      absurd (some h (no_front (frame h) (flat_map frame heard)
      (no_front (frame h ++ flat_map frame heard) later (sym e ∙ none))))
  firsts (h ∷ heard) [] part later fits fit (inr (next, is, cut)) e =
      let whole : frame h ++ ((flat_map frame heard ++ later) ++ cut.missing) ≡ frame next ++ [] =
      sym (append_assoc (frame h) (flat_map frame heard ++ later) cut.missing)
      ∙ ap (λ (l : List ℕ). l ++ cut.missing) (sym (append_assoc (frame h) (flat_map frame heard) later) ∙ sym e)
      ∙ sym cut.parts ∙ sym (append-nil (frame next)) in
      absurd (cut.some (no_back (flat_map frame heard ++ later) cut.missing
      (one h next _ [] (All-head Fits h heard fits) is whole).1))
  firsts (h ∷ heard) (s ∷ sent) part later fits fit ends e =
      let both = one s h (flat_map frame sent ++ part) (flat_map frame heard ++ later) (All-head Fits s sent fit)
      (All-head Fits h heard fits)
      (sym (append_assoc (frame s) (flat_map frame sent) part) ∙ e
      ∙ append_assoc (frame h) (flat_map frame heard) later) in
      let rest = firsts heard sent part later (All-tail Fits h heard fits) (All-tail Fits s sent fit) ends both.1 in
      (rest.0, ap (λ (a : X). a ∷ sent) both.0 ∙ ap (λ (l : List X). h ∷ l) rest.1)

  brings : DoesBringFirst Fits frame
  brings text bytes sent heard written begins read =
      firsts heard sent written.part (read.rest ++ begins.0) read.fits written.fits written.ends
      (sym written.parts ∙ begins.1 ∙ ap (λ (l : List ℕ). l ++ begins.0) read.parts
      ∙ append_assoc (flat_map frame heard) read.rest begins.0)

-- a frame has some bytes
request_some : (a : Request) → request_frame a ≡ [] → ⊥
request_some a e = let long : length (request_frame a) ≡ 0 = ap length e in omega (arith, long)

answer_some : (a : Answer) → answer_frame a ≡ [] → ⊥
answer_some a e = let long : length (answer_frame a) ≡ 0 = ap length e in omega (arith, long)

pub requests : DoLinesBringRequests
requests = brings RequestFits request_frame one_frame request_some

pub answers : DoLinesBringAnswers
answers = brings AnswerFits answer_frame one_answer answer_some

pub by_line : (X : Type 0) → AreByLine X
by_line X heard sent x first there =
    subst (λ (l : List X). Contains l x) (sym first.1) (contains-left heard first.0 x there)
