-- No row of a list repeats another exactly when each two of them differ.
use Rattle.std.proofs.Common.{◌≡◌, ℕ, zero, suc, ◌+◌, ◌++◌, Bool, false, if◌then◌else◌, List, [], ◌∷◌}
use Rattle.std.proofs.Common.{None, refl, arith}
use Rattle.std.proofs.lemmas.List.Elements.{All-nil, All-cons, All-head, All-tail}
use Rattle.std.proofs.lemmas.List.Kept.{AllPairs-cons}
use Rattle.std.specs.List.{All, list_any}
use Rattle.toml_reading.specs.First.{first}
use Rattle.toml_reading.proofs.FirstLemmas.{first_none, last_none, both-none}
use Rattle.toml_reading.proofs.TestLemmas.{any-push, push-any}
use Rattle.fare_table.specs.Repeats.{repeats}
use Rattle.fare_table.specs.Valid.{AreDifferent}
use Rattle.fare_table.specs.declared.key.Key.{Key}
use Rattle.fare_table.specs.declared.fault.TableFault.TheVariants as fault
use Rattle.fare_table.proofs.NoneLemmas.{empty-unless}

module _ {X : Type 0} (same : X → X → Bool) (list : Key) where
  abbrev differs : X → X → Type 0
  differs earlier later = same later earlier ≡ false

  unseen : (seen : List X) (n : ℕ) (xs : List X) → first (repeats same list seen n xs) ≡ None
      → All (λ x. list_any (same x) seen ≡ false) xs × AreDifferent same xs
  unseen seen n [] e = (
    All-nil (λ x. list_any (same x) seen ≡ false),
    λ i j d lt within. absurd
        (omega (arith, within)),
  )
  unseen seen n (x ∷ xs) e =
      let new = empty-unless (list_any (same x) seen) (fault.Twice list n) (first_none _ _ e) in
      let rest = unseen (seen ++ x ∷ []) (n + 1) xs
      (last_none (if list_any (same x) seen then fault.Twice list n ∷ [] else []) _ e) in
      let old : All (λ y. list_any (same y) seen ≡ false) xs = λ k d within.
      (any-push (same _) seen x (rest.0 k d within)).0 in
      let apart : All (differs x) xs = λ k d within. (any-push (same _) seen x (rest.0 k d within)).1 in
      (All-cons (λ y. list_any (same y) seen ≡ false) x xs new old, AllPairs-cons differs x xs apart rest.1)

  seen-none : (seen : List X) (n : ℕ) (xs : List X) → All (λ x. list_any (same x) seen ≡ false) xs
      → AreDifferent same xs
      → first (repeats same list seen n xs) ≡ None
  seen-none seen n [] all pairs = refl
  seen-none seen n (x ∷ xs) all pairs =
      let new = All-head (λ y. list_any (same y) seen ≡ false) x xs all in
      let old = All-tail (λ y. list_any (same y) seen ≡ false) x xs all in
      let both : All (λ y. list_any (same y) (seen ++ x ∷ []) ≡ false) xs =
      λ k d within. push-any (same _) seen x (old k d within)
      (pairs zero (suc k) d (omega arith) (omega (arith, within))) in
      let later : AreDifferent same xs = λ i j d lt within. pairs (suc i) (suc j) d (omega (arith, lt))
      (omega (arith, within)) in
      both-none _ _ (rw new refl) (seen-none (seen ++ x ∷ []) (n + 1) xs both later)

  pub different : (xs : List X) → first (repeats same list [] 1 xs) ≡ None → AreDifferent same xs
  different xs e = (unseen [] 1 xs e).1

  pub different-none : (xs : List X) → AreDifferent same xs → first (repeats same list [] 1 xs) ≡ None
  different-none xs pairs = seen-none [] 1 xs (λ k d within. refl) pairs
