-- Receipts that stand at their places, as many as there are entries, are all of the entries.
use Rattle.std.proofs.Common.{◌≡◌, ℕ, zero, suc, ◌+◌, ◌<◌, ◌≤◌, List, [], ◌∷◌, ◌++◌, Bool, true, false, Some, length}
use Rattle.std.proofs.Common.{map, refl, sym, ap, ◌∙◌, arith, ◌&&◌, nat_le}
use Rattle.std.proofs.lemmas.Bool.Decides.{nat_tests}
use Rattle.std.proofs.lemmas.Bool.{eq-eqb}
use Rattle.std.specs.Prelude.{if◌then◌else◌, ◌==◌, slice_get}
use Rattle.std.specs.List.{AllByRecursion}
use Rattle.reply_book.specs.declared.entry.Entry.{Entry}
use Rattle.tap_office.specs.declared.receipt.Filed.{Filed}
use Rattle.tap_office.specs.Seat.{rises}
use Rattle.tap_office.specs.Close.{filed_at, filed_by, entry_of, IsAtPlace, times}

-- the receipts stand at their places, the entries beginning at p
abbrev pub Stand : List Entry → ℕ → ℕ → List Filed → Type 0
Stand es k p [] = Unit {0}
Stand es k p (r ∷ rs) = (d : ℕ) × (r.place ≡ p + d) × (slice_get es d ≡ Some (entry_of k r)) × Stand es k p rs

and_true : (a b : Bool) → (a && b) ≡ true → (a ≡ true) × (b ≡ true)
and_true true b e = (refl, e)
and_true false b e = absurd cc

both_true : (a b : Bool) → a ≡ true → b ≡ true → (a && b) ≡ true
both_true true b p q = q
both_true false b p q = absurd cc

le_true : (a b : ℕ) → nat_le a b ≡ true → a ≤ b
le_true a b h = grind (arith, nat_tests)

true_le : (a b : ℕ) → a ≤ b → nat_le a b ≡ true
true_le a b h = grind (arith, nat_tests)

-- past the first entry
past : (e : Entry) (es : List Entry) (k p low high : ℕ) (rs : List Filed) → p < low → rises low high rs ≡ true
    → Stand (e ∷ es) k p rs → Stand es k (p + 1) rs
past e es k p low high [] l h s = tt
past e es k p low high (r ∷ rs) l h (zero, at, is, rest) = let first =
    le_true low r.place (and_true _ _ h).0 in absurd (omega arith)
past e es k p low high (r ∷ rs) l h (suc d, at, is, rest) =
    let first = le_true low r.place (and_true _ _ h).0 in
    (d, omega arith, is, past e es k p (r.place + 1) high rs (omega arith) (and_true _ _ h).1 rest)

-- what a seat's receipts are, where it has these of the entries
abbrev pub Fit : List Filed → List Filed → Type 0
Fit rs all = (length rs ≤ length all) × (length rs ≡ length all → rs ≡ all)

none_is : {A : Type 0} (xs : List A) → 0 ≡ length xs → [] ≡ xs
none_is [] h = refl
none_is (x ∷ xs) h = absurd (omega arith)

taken : (b : Bool) (r f : Filed) (rs all : List Filed) → b ≡ true → r ≡ f → Fit rs all
    → Fit (r ∷ rs) (if b then f ∷ all else all)
taken true r f rs all is same h = (
  let m = h.0 in omega arith,
  λ n. ap (λ x. x ∷ rs) same
      ∙ ap (λ xs. f ∷ xs) (h.1 (omega arith)),
)
taken false r f rs all is same h = absurd cc

passed : (b : Bool) (f : Filed) (rs all : List Filed) → Fit rs all → Fit rs (if b then f ∷ all else all)
passed true f rs all h = (let m = h.0 in omega arith, λ n. let m = h.0 in absurd (omega arith))
passed false f rs all h = h

-- receipts that rise and stand are at most those of the number, and where they are as many, they are those
pub fits : (es : List Entry) (k p high : ℕ) (rs : List Filed) → rises p high rs ≡ true → Stand es k p rs
    → Fit rs (filed_by k p es)
fits [] k p high [] h s = (omega arith, λ n. refl)
fits [] k p high (r ∷ rs) h (d, at, is, rest) = absurd cc
fits (e ∷ es) k p high [] h s = (omega arith, λ n. none_is _ n)
fits (e ∷ es) k p high (r ∷ rs) h (zero, at, is, rest) =
    let here : r.place ≡ p = omega arith in
    let tail : rises (p + 1) high rs ≡ true = ap (λ n. rises (n + 1) high rs) (sym here) ∙ (and_true _ _ h).1 in
    let same : e ≡ entry_of k r = cc in
    let mine : (e.seat == k) ≡ true = eq-eqb e.seat k (ap (λ (x : Entry). x.seat) same) in
    taken (e.seat == k) r (filed_at p e) rs (filed_by k (p + 1) es) mine
    (λ i. record { place = here i; touch = (sym same i).touch; reply = (sym same i).reply })
    (fits es k (p + 1) high rs tail (past e es k p (p + 1) high rs (omega arith) tail rest))
fits (e ∷ es) k p high (r ∷ rs) h (suc d, at, is, rest) =
    let later : rises (p + 1) high (r ∷ rs) ≡ true =
    both_true _ _ (true_le (p + 1) r.place (omega arith)) (and_true _ _ h).1 in
    passed (e.seat == k) (filed_at p e) (r ∷ rs) (filed_by k (p + 1) es)
    (fits es k (p + 1) high (r ∷ rs) later
    (past e es k p (p + 1) high (r ∷ rs) (omega arith) later (suc d, at, is, rest)))

pub stand_from : (es : List Entry) (k : ℕ) (rs : List Filed) → AllByRecursion (IsAtPlace es k) rs → Stand es k 0 rs
stand_from es k [] h = tt
stand_from es k (r ∷ rs) h = (r.place, omega arith, h.0, stand_from es k rs h.1)

abbrev pub seats_of : List Entry → List ℕ
seats_of es = map (λ (e : Entry). e.seat) es

length_if : (b : Bool) (f : Filed) (all : List Filed)
    → length (if b then f ∷ all else all) ≡ (if b then 1 else 0) + length all
length_if true f all = omega arith
length_if false f all = omega arith

pub length_filed : (k p : ℕ) (es : List Entry) → length (filed_by k p es) ≡ times k (seats_of es)
length_filed k p [] = refl
length_filed k p (e ∷ es) = length_if (e.seat == k) (filed_at p e) (filed_by k (p + 1) es)
    ∙ ap (λ n. (if e.seat == k then 1 else 0) + n) (length_filed k (p + 1) es)

pub times-append : (k : ℕ) (xs ys : List ℕ) → times k (xs ++ ys) ≡ times k xs + times k ys
times-append k [] ys = omega arith
times-append k (x ∷ xs) ys = omega (arith, times-append k xs ys)

-- how often each of these stands in es, added up
abbrev pub all_times : List ℕ → List ℕ → ℕ
all_times [] es = 0
all_times (k ∷ ks) es = times k es + all_times ks es

all_times-none : (ks : List ℕ) → all_times ks [] ≡ 0
all_times-none [] = refl
all_times-none (k ∷ ks) = omega (arith, all_times-none ks)

all_times-cons : (e : ℕ) (ks es : List ℕ) → all_times ks (e ∷ es) ≡ times e ks + all_times ks es
all_times-cons e [] es = refl
all_times-cons e (k ∷ ks) es = grind (arith, nat_tests, all_times-cons e ks es)

-- where no number is among ks twice, they count each element once at most
pub counts_once : (ks es : List ℕ) → ((k : ℕ) → times k ks ≤ 1) → all_times ks es ≤ length es
counts_once ks [] h = omega (arith, all_times-none ks)
counts_once ks (e ∷ es) h = omega (arith, all_times-cons e ks es, counts_once ks es h, h e)

pub each_counted : (ks es : List ℕ) → ((k : ℕ) → times k ks ≤ 1) → length es ≤ all_times ks es
    → AllByRecursion (λ e. times e ks ≡ 1) es
each_counted ks [] h all = tt
each_counted ks (e ∷ es) h all =
    let c = all_times-cons e ks es in
    let m = counts_once ks es h in
    let o = h e in
    (omega arith, each_counted ks es h (omega arith))

-- one receipt more, at a place that is no lower than the bound so far
pub rises-push : (low high : ℕ) (rs : List Filed) (r : Filed) → rises low high rs ≡ true → high ≤ r.place
    → rises low (r.place + 1) (rs ++ r ∷ []) ≡ true
rises-push low high [] r h l = let m =
    le_true low high h in both_true _ _ (true_le low r.place (omega arith))
    (true_le (r.place + 1) (r.place + 1) (omega arith))
rises-push low high (x ∷ rs) r h l = let t =
    and_true _ _ h in both_true _ _ t.0 (rises-push (x.place + 1) high rs r t.1 l)

pub rises-raise : (low high more : ℕ) (rs : List Filed) → rises low high rs ≡ true → high ≤ more
    → rises low more rs ≡ true
rises-raise low high more [] h l = let m = le_true low high h in true_le low more (omega arith)
rises-raise low high more (x ∷ rs) h l = let t =
    and_true _ _ h in both_true _ _ t.0 (rises-raise (x.place + 1) high more rs t.1 l)
