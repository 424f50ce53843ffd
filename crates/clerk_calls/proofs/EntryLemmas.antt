-- Places in a list of entries, and beginnings of it.
use Rattle.std.proofs.Common.{◌≡◌, ℕ, zero, suc, ◌≤◌, ◌<◌, List, [], ◌∷◌, ◌++◌, length, take, refl, sym, ap, ◌∙◌, subst}
use Rattle.std.proofs.Common.{arith, Some}
use Rattle.std.specs.Prelude.{slice_get}
use mathlib.Core.List.{IsPrefix}
use Rattle.reply_book.specs.declared.entry.Entry.{Entry}
use Rattle.reply_book.proofs.PlaceLemmas.{take-front}
use Rattle.tap_desk.specs.Listed.{BeginsWith}
use Rattle.clerk_calls.specs.Logged.{HasLearnt}

-- the entries before a place and that one are the entries before the next
pub take-next : (entries : List Entry) (n : ℕ) (entry : Entry) → slice_get entries n ≡ Some entry
    → take (suc n) entries ≡ take n entries ++ entry ∷ []
take-next [] n entry at = absurd cc
take-next (x ∷ xs) zero entry at =
    let same : x ≡ entry = cc in ap (λ (y : Entry). y ∷ []) same
take-next (x ∷ xs) (suc n) entry at = ap (λ (l : List Entry). x ∷ l) (take-next xs n entry at)

-- something stands below the length
pub stands-below : (entries : List Entry) (n : ℕ) → n < length entries
    → (entry : Entry) × (slice_get entries n ≡ Some entry)
stands-below [] n below = absurd (omega arith)
stands-below (x ∷ xs) zero below = (x, refl)
stands-below (x ∷ xs) (suc n) below = stands-below xs n (omega arith)

-- what begins a list is its first part
pub front-of : (point entries : List Entry) → IsPrefix point entries
    → (take (length point) entries ≡ point) × (length point ≤ length entries)
front-of point entries begins = (
  ap (take (length point)) (sym begins.1) ∙ take-front point begins.0,
  subst (λ (l : List Entry). length point ≤ length l) begins.1 (longer point begins.0),
)
  where
    longer : (xs ys : List Entry) → length xs ≤ length (xs ++ ys)
    longer [] ys = omega arith
    longer (x ∷ xs) ys = let rest = longer xs ys in omega arith

-- what begins with more points begins with the earlier ones
pub begins-earlier : (newer earlier : List (List Entry)) (entries : List Entry) → BeginsWith (newer ++ earlier) entries
    → BeginsWith earlier entries
begins-earlier [] earlier entries begins = begins
begins-earlier (point ∷ newer) earlier entries begins = begins-earlier newer earlier entries begins.1

pub begins-before : (before after : List (List Entry)) (entries : List Entry) → HasLearnt before after
    → BeginsWith after entries → BeginsWith before entries
begins-before before after entries learnt begins =
    begins-earlier learnt.0 before entries
    (subst (λ (l : List (List Entry)). BeginsWith l entries) learnt.1 begins)
