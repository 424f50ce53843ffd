-- The lines of a journal's revisions, touch by touch.
use Rattle.std.proofs.Common.{◌≡◌, ℕ, zero, suc, ◌+◌, ◌≤◌, ◌<◌, List, [], ◌∷◌, ◌++◌, length, drop, get_or, Option, ap}
use Rattle.std.proofs.Common.{◌∙◌, sym, refl, append_assoc, append-nil, arith}
use Rattle.std.proofs.Math.Seq.{drop-cons}
use Rattle.oyster_account.specs.declared.reply.Judged.{Judged}
use Rattle.oyster_account.specs.declared.touch.Touch.{Touch}
use Rattle.journal_audit.specs.Revisions.{told_of, judged_at, revisions_from}

-- what was told before a place, and what is told from there on
pub revisions-next : (known : Option (List Judged)) (touches : List Touch) (place : ℕ) (default : Touch)
    (text more : List ℕ) → place < length touches
    → more ≡ text ++ told_of place (judged_at known place) (get_or touches place default).act
    → more ++ revisions_from known (place + 1) (drop (place + 1) touches)
    ≡ text ++ revisions_from known place (drop place touches)
unfolding revisions_from
revisions-next known touches place default text more within grown =
    let next : suc place ≡ place + 1 = omega arith in
    let touch : Touch = get_or touches place default in
    let told = told_of place (judged_at known place) touch.act in
    let later = revisions_from known (place + 1) (drop (place + 1) touches) in
    let here : drop place touches ≡ touch ∷ drop (place + 1) touches =
    drop-cons touches place default within ∙ ap (λ (n : ℕ). touch ∷ drop n touches) next in
    ap (λ (l : List ℕ). l ++ later) grown ∙ append_assoc text told later
    ∙ sym (ap (λ (l : List Touch). text ++ revisions_from known place l) here)

-- nothing is told behind the last touch
pub revisions-end : (known : Option (List Judged)) (touches : List Touch) (place : ℕ) (text : List ℕ)
    → length touches ≤ place → text ++ revisions_from known place (drop place touches) ≡ text
unfolding revisions_from
revisions-end known touches place text past =
    ap (λ (l : List Touch). text ++ revisions_from known place l) (drop_past touches place past) ∙ append-nil text
  where
    drop_past : (xs : List Touch) (n : ℕ) → length xs ≤ n → drop n xs ≡ []
    drop_past [] zero past = refl
    drop_past [] (suc n) past = refl
    drop_past (x ∷ xs) zero past = absurd (omega (arith, past))
    drop_past (x ∷ xs) (suc n) past = drop_past xs n (omega (arith, past))
