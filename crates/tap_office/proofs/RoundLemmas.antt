-- What a round finds begins with what was released before it.
use Rattle.std.proofs.Common.{◌≡◌, ℕ, zero, suc, ◌<◌, List, [], ◌∷◌, ◌++◌, Some, inl, inr, sym, ap, ◌∙◌, subst, arith}
use Rattle.std.proofs.Common.{append_assoc, append-nil}
use Rattle.std.specs.Prelude.{slice_get}
use Rattle.oyster_account.specs.declared.touch.Touch.{Touch}
use Rattle.oyster_account.specs.declared.reply.Judged.{Judged}
use Rattle.tap_journal.specs.Layout.{Header}
use Rattle.tap_journal.specs.Image.{Image}
use Rattle.tap_journal.proofs.OneLemmas.{one_journal}
use Rattle.reply_book.specs.Legal.{book}
use Rattle.reply_book.proofs.CallerLemmas.{books-grow}
use Rattle.tap_office.specs.Rounds.{Round, released, EndsAs, GoOnFrom, IsKeptIn}
use Rattle.tap_office.proofs.TablesLemmas.{same-book}

-- the second list begins with the first
abbrev pub Begins : List Touch → List Touch → Type 0
Begins first second = (more : List Touch) × (second ≡ first ++ more)

begins-further : (first second : List Touch) (more : List Touch) → Begins first second → Begins first (second ++ more)
begins-further first second more b = (b.0 ++ more, ap (λ (l : List Touch). l ++ more) b.1 ∙ append_assoc first b.0 more)

-- what the crash left is a journal of a list that begins with what began the round's own
ends : (h : Header) (first : List Touch) (round : Round) → Begins first (released round) → EndsAs h round
    → (touches : List Touch) × Image h touches round.outcome × Begins first touches
ends h first round b (inl image) = (released round, image, b)
ends h first round b (inr (t, is, image)) =
    (released round ++ t ∷ [], image, begins-further first (released round) (t ∷ []) b)

-- what begins a journal's list begins what each later round finds
later_begins : (h : Header) (first touches : List Touch) (content : List ℕ) (rounds : List Round) (j : ℕ)
    (later : Round) → Begins first touches → Image h touches content
    → GoOnFrom h content rounds → slice_get rounds j ≡ Some later → Begins first later.found
later_begins h first touches content [] j later b image goes at = absurd cc
later_begins h first touches content (round ∷ rounds) zero later b image goes at =
    let same : round ≡ later = cc in
    let one : touches ≡ round.found = (one_journal h h touches round.found content image goes.0).1 in
    subst (λ (r : Round). Begins first r.found) same (subst (Begins first) one b)
later_begins h first touches content (round ∷ rounds) (suc j) later b image goes at =
    let one : touches ≡ round.found = (one_journal h h touches round.found content image goes.0).1 in
    let end = ends h first round
    (begins-further first round.found round.committed (subst (Begins first) one b)) goes.1 in
    later_begins h first end.0 round.outcome rounds j later end.2 end.1 goes.2 at

pub earlier_begins : (h : Header) (content : List ℕ) (rounds : List Round) (i j : ℕ) (earlier later : Round)
    → GoOnFrom h content rounds → i < j
    → slice_get rounds i ≡ Some earlier → slice_get rounds j ≡ Some later → Begins (released earlier) later.found
earlier_begins h content [] i j earlier later goes less at_i at_j = absurd cc
earlier_begins h content (round ∷ rounds) i zero earlier later goes less at_i at_j = absurd (omega arith)
earlier_begins h content (round ∷ rounds) zero (suc j) earlier later goes less at_i at_j =
    let same : round ≡ earlier = cc in
    let end = ends h (released round) round ([], sym (append-nil (released round))) goes.1 in
    subst (λ (r : Round). Begins (released r) later.found) same
    (later_begins h (released round) end.0 round.outcome rounds j later end.2 end.1 goes.2 at_j)
earlier_begins h content (round ∷ rounds) (suc i) (suc j) earlier later goes less at_i at_j =
    earlier_begins h round.outcome rounds i j earlier later goes.2 (omega arith) at_i at_j

-- a list's own elements stay where more comes behind
slice_get-more : (xs ys : List Judged) (i : ℕ) (x : Judged) → slice_get xs i ≡ Some x → slice_get (xs ++ ys) i ≡ Some x
slice_get-more [] ys i x at = absurd cc
slice_get-more (y ∷ xs) ys zero x at = at
slice_get-more (y ∷ xs) ys (suc i) x at = slice_get-more xs ys i x at

pub kept_in : (h : Header) (earlier later : Round) → Begins (released earlier) later.found → IsKeptIn h earlier later
kept_in h earlier later b =
    let old = released earlier in
    let grows = books-grow later.tables h.cards old b.0 in
    record {
      more = b.0;
      touches = b.1;
      replies = λ same place judged at.
          ap (λ (ts : List Touch). slice_get (book later.tables h.cards ts) place) b.1
          ∙ ap (λ (js : List Judged). slice_get js place) grows.1
          ∙ slice_get-more (book later.tables h.cards old) grows.0 place judged
          (ap (λ (js : List Judged). slice_get js place) (same-book earlier.tables later.tables h.cards old same) ∙ at);
    }
