-- A book whose receipts all stand, with as many new entries as receipts, is settled.
use Rattle.std.proofs.Common.{◌≡◌, ℕ, zero, suc, ◌+◌, ◌-◌, ◌^◌, ◌<◌, ◌≤◌, List, [], ◌∷◌, ◌++◌, length, take, drop, refl}
use Rattle.std.proofs.Common.{sym, ap, ◌∙◌, subst, arith, length-append, take-append-drop}
use Rattle.std.proofs.lemmas.Bool.Decides.{nat_tests}
use Rattle.std.proofs.lemmas.List.Elements.{recursion_from_All, All-from_recursion}
use Rattle.std.proofs.lemmas.List.Sums.{sum_by-cons}
use Rattle.std.specs.List.{All, AllByRecursion, sum_by}
use Rattle.reply_book.specs.declared.entry.Entry.{Entry}
use Rattle.tap_office.specs.Seat.{SeatState}
use Rattle.tap_office.specs.Close.{filed_by, times, numbers, Settles, IsReady}
use Rattle.tap_office.proofs.PowerLemmas.{powers, lowered, below, length_lowered, times_lowered, each_once}
use Rattle.tap_office.proofs.CountingLemmas.{stand_from, fits, seats_of, length_filed, times-append, all_times}
use Rattle.tap_office.proofs.CountingLemmas.{counts_once, each_counted}

abbrev weight : SeatState → ℕ
weight l = 2 ^ (l.number - 1)

no_zero : (ls : List SeatState) → AllByRecursion (λ l. 1 ≤ l.number) ls → times 0 (numbers ls) ≡ 0
no_zero [] h = refl
no_zero (l ∷ ls) h = let m = h.0 in grind (arith, nat_tests, no_zero ls h.1)

lowered_cons : (n : ℕ) (ks : List ℕ) → 1 ≤ n → lowered (n ∷ ks) ≡ (n - 1) ∷ lowered ks
lowered_cons zero ks h = absurd (omega arith)
lowered_cons (suc n) ks h = let e : n ≡ suc n - 1 = omega arith in ap (λ x. x ∷ lowered ks) e

powers_of : (ls : List SeatState) → AllByRecursion (λ l. 1 ≤ l.number) ls
    → powers (lowered (numbers ls)) ≡ sum_by weight ls
powers_of [] h = refl
powers_of (l ∷ ls) h = ap powers (lowered_cons l.number (numbers ls) h.0) ∙ ap (λ n. weight l + n) (powers_of ls h.1)
    ∙ sym (sum_by-cons weight l ls)

length_numbers : (ls : List SeatState) → length (numbers ls) ≡ length ls
length_numbers [] = refl
length_numbers (l ∷ ls) = omega (arith, length_numbers ls)

-- a number below n stands once, and one from n on never
below_is : (k n : ℕ) → k < n → below k n ≡ 1
below_is k zero h = absurd (omega arith)
below_is zero (suc n) h = refl
below_is (suc k) (suc n) h = below_is k n (omega arith)

below_le : (k n : ℕ) → below k n ≤ 1
below_le k zero = omega arith
below_le zero (suc n) = omega arith
below_le (suc k) (suc n) = below_le k n

below_from : (k n : ℕ) → below k n ≡ 1 → k < n
below_from k zero h = absurd (omega arith)
below_from zero (suc n) h = omega arith
below_from (suc k) (suc n) h = let m = below_from k n h in omega arith

number_at : (seats : ℕ) (ks : List ℕ) → 0 + times 0 ks ≡ below 0 seats
    → ((k : ℕ) → times (suc k) ks ≡ below (suc k) seats) → (k : ℕ) → times k ks ≡ below k seats
number_at seats ks first rest zero = omega arith
number_at seats ks first rest (suc k) = rest k

-- the numbers are those from 1 on
numbered : (seats : ℕ) (ls : List SeatState) → AllByRecursion (λ l. 1 ≤ l.number) ls → length ls ≡ seats
    → sum_by weight ls + 1 ≡ 2 ^ seats → (k : ℕ) → times (suc k) (numbers ls) ≡ below k seats
numbered seats ls some all sum =
    let ks = lowered (numbers ls) in
    let p : powers ks ≡ sum_by weight ls = powers_of ls some in
    let n : length ks ≡ seats = omega (arith, length_lowered (numbers ls), no_zero ls some, length_numbers ls) in
    let each = (each_once seats 0 ks (omega arith)).1 (omega arith) in
    λ k. times_lowered k (numbers ls) ∙ number_at seats ks each.0 each.1 k

at_most_once : (seats : ℕ) (ls : List SeatState) → times 0 (numbers ls) ≡ 0
    → ((k : ℕ) → times (suc k) (numbers ls) ≡ below k seats) → (k : ℕ) → times k (numbers ls) ≤ 1
at_most_once seats ls none each zero = omega arith
at_most_once seats ls none each (suc k) = omega (arith, each k, below_le k seats)

sums_le : (f g : SeatState → ℕ) (ls : List SeatState) → AllByRecursion (λ l. f l ≤ g l) ls → sum_by f ls ≤ sum_by g ls
sums_le f g [] h = omega arith
sums_le f g (l ∷ ls) h = let here = h.0 in omega (arith, sums_le f g ls h.1, sum_by-cons f l ls, sum_by-cons g l ls)

-- where each f is at most its g, and all f together are no less than all g, each f is its g
tight : (f g : SeatState → ℕ) (ls : List SeatState) → AllByRecursion (λ l. f l ≤ g l) ls → sum_by g ls ≤ sum_by f ls
    → AllByRecursion (λ l. f l ≡ g l) ls
tight f g [] h s = tt
tight f g (l ∷ ls) h s =
    let m = sums_le f g ls h.1 in
    let a = sum_by-cons f l ls in
    let b = sum_by-cons g l ls in
    let here = h.0 in
    (omega arith, tight f g ls h.1 (omega arith))

-- how often a seat's number stands in the entries past the recovered ones
abbrev new_of : List Entry → SeatState → ℕ
new_of added l = times l.number (seats_of added)

none_recovered : (k : ℕ) (es : List Entry) → 1 ≤ k → AllByRecursion (λ e. e.seat ≡ 0) es → times k (seats_of es) ≡ 0
none_recovered k [] one h = refl
none_recovered k (e ∷ es) one h = let z = h.0 in grind (arith, nat_tests, none_recovered k es one h.1)

seats_of-append : (xs ys : List Entry) → seats_of (xs ++ ys) ≡ seats_of xs ++ seats_of ys
seats_of-append [] ys = refl
seats_of-append (x ∷ xs) ys = ap (λ zs. x.seat ∷ zs) (seats_of-append xs ys)

length_of : (recovered added : List Entry) (k : ℕ) → 1 ≤ k → AllByRecursion (λ e. e.seat ≡ 0) recovered
    → length (filed_by k 0 (recovered ++ added)) ≡ times k (seats_of added)
length_of recovered added k one none =
    let a : times k (seats_of (recovered ++ added)) ≡ times k (seats_of recovered) + times k (seats_of added) =
    ap (times k) (seats_of-append recovered added) ∙ times-append k (seats_of recovered) (seats_of added) in
    omega (arith, length_filed k 0 (recovered ++ added), none_recovered k recovered one none)

all_new : (ls : List SeatState) (added : List Entry)
    → all_times (numbers ls) (seats_of added) ≡ sum_by (new_of added) ls
all_new [] added = refl
all_new (l ∷ ls) added = ap (λ n. new_of added l + n) (all_new ls added) ∙ sym (sum_by-cons (new_of added) l ls)

length_seats : (es : List Entry) → length (seats_of es) ≡ length es
length_seats [] = refl
length_seats (e ∷ es) = omega (arith, length_seats es)

-- a seat's receipts are at most the new entries with its number, and where they are as many, they are those
line_fits : (recovered added : List Entry) (l : SeatState) → AllByRecursion (λ e. e.seat ≡ 0) recovered
    → IsReady (recovered ++ added) l
    → (length l.receipts ≤ new_of added l) × (length l.receipts ≡ new_of added l
    → l.receipts ≡ filed_by l.number 0 (recovered ++ added))
line_fits recovered added l none h =
    let stand = stand_from (recovered ++ added) l.number l.receipts (recursion_from_All _ l.receipts h.stands) in
    let fit = fits (recovered ++ added) l.number 0 l.seen l.receipts h.rising stand in
    let m = fit.0 in
    let n : length (filed_by l.number 0 (recovered ++ added)) ≡ new_of added l =
    length_of recovered added l.number h.numbered none in
    (omega arith, λ e. fit.1 (omega arith))

lines_fit : (recovered added : List Entry) (ls : List SeatState) → AllByRecursion (λ e. e.seat ≡ 0) recovered
    → AllByRecursion (IsReady (recovered ++ added)) ls → AllByRecursion (λ l. length l.receipts ≤ new_of added l) ls
lines_fit recovered added [] none h = tt
lines_fit recovered added (l ∷ ls) none h =
    ((line_fits recovered added l none h.0).0, lines_fit recovered added ls none h.1)

lines_are : (recovered added : List Entry) (ls : List SeatState) → AllByRecursion (λ e. e.seat ≡ 0) recovered
    → AllByRecursion (IsReady (recovered ++ added)) ls → AllByRecursion (λ l. length l.receipts ≡ new_of added l) ls
    → AllByRecursion (λ l. l.receipts ≡ filed_by l.number 0 (recovered ++ added)) ls
lines_are recovered added [] none h same = tt
lines_are recovered added (l ∷ ls) none h same =
    ((line_fits recovered added l none h.0).1 same.0, lines_are recovered added ls none h.1 same.1)

some_numbers : (es : List Entry) (ls : List SeatState) → AllByRecursion (IsReady es) ls
    → AllByRecursion (λ l. 1 ≤ l.number) ls
some_numbers es [] h = tt
some_numbers es (l ∷ ls) h = (h.0.numbered, some_numbers es ls h.1)

-- a number that stands once among the seats' is one of them
is_seat : (n seats : ℕ) (ls : List SeatState) → times 0 (numbers ls) ≡ 0
    → ((k : ℕ) → times (suc k) (numbers ls) ≡ below k seats) → times n (numbers ls) ≡ 1 → (1 ≤ n) × (n ≤ seats)
is_seat zero seats ls none each once = absurd (omega arith)
is_seat (suc n) seats ls none each once = let m = below_from n seats (sym (each n) ∙ once) in (omega arith, omega arith)

are_seats : (seats : ℕ) (ls : List SeatState) (es : List Entry) → times 0 (numbers ls) ≡ 0
    → ((k : ℕ) → times (suc k) (numbers ls) ≡ below k seats)
    → AllByRecursion (λ n. times n (numbers ls) ≡ 1) (seats_of es)
    → AllByRecursion (λ e. (1 ≤ e.seat) × (e.seat ≤ seats)) es
are_seats seats ls [] none each h = tt
are_seats seats ls (e ∷ es) none each h = (is_seat e.seat seats ls none each h.0, are_seats seats ls es none each h.1)

once_each : (seats : ℕ) (ls : List SeatState) → ((k : ℕ) → times (suc k) (numbers ls) ≡ below k seats) → (k : ℕ)
    → 1 ≤ k → k ≤ seats → times k (numbers ls) ≡ 1
once_each seats ls each zero low high = absurd (omega arith)
once_each seats ls each (suc k) low high = each k ∙ below_is k seats (omega arith)

-- the theorem over the two parts of the book
settled_parts : (recovered added : List Entry) (seats : ℕ) (ls : List SeatState)
    → AllByRecursion (λ e. e.seat ≡ 0) recovered → length ls ≡ seats → AllByRecursion (IsReady (recovered ++ added)) ls
    → sum_by weight ls + 1 ≡ 2 ^ seats → length added ≡ sum_by (λ l. length l.receipts) ls
    → AllByRecursion (λ l. l.receipts ≡ filed_by l.number 0 (recovered ++ added)) ls
    × AllByRecursion (λ e. (1 ≤ e.seat) × (e.seat ≤ seats)) added
    × ((k : ℕ) → 1 ≤ k → k ≤ seats → times k (numbers ls) ≡ 1)
settled_parts recovered added seats ls none all ready marks grown =
    let some = some_numbers (recovered ++ added) ls ready in
    let zeros = no_zero ls some in
    let each = numbered seats ls some all marks in
    let once = at_most_once seats ls zeros each in
    let n : length (seats_of added) ≡ length added = length_seats added in
    let sums : all_times (numbers ls) (seats_of added) ≡ sum_by (new_of added) ls = all_new ls added in
    let most : all_times (numbers ls) (seats_of added) ≤ length (seats_of added) =
    counts_once (numbers ls) (seats_of added) once in
    let fit = lines_fit recovered added ls none ready in
    let least : sum_by (λ l. length l.receipts) ls ≤ sum_by (new_of added) ls = sums_le _ _ ls fit in
    let same = tight (λ l. length l.receipts) (new_of added) ls fit (omega arith) in (
      lines_are recovered added ls none ready same,
      are_seats seats ls added zeros each (each_counted (numbers ls) (seats_of added) once (omega arith)),
      once_each seats ls each,
    )

-- the theorem
pub settled : (recovered entries : List Entry) (seats : ℕ) (ls : List SeatState)
    → take (length recovered) entries ≡ recovered → All (λ e. e.seat ≡ 0) recovered → length ls ≡ seats
    → All (IsReady entries) ls
    → sum_by (λ l. 2 ^ (l.number - 1)) ls + 1 ≡ 2 ^ seats
    → length entries ≡ length recovered + sum_by (λ l. length l.receipts) ls
    → Settles recovered seats ls entries
settled recovered entries seats ls begins none all ready marks grown =
    let added = drop (length recovered) entries in
    let parts : recovered ++ added ≡ entries = ap (λ xs. xs ++ added) (sym begins)
    ∙ take-append-drop (length recovered) entries in
    let n : length entries ≡ length recovered + length added = ap length (sym parts) ∙ length-append recovered added in
    let ready' : AllByRecursion (IsReady (recovered ++ added)) ls =
    subst (λ es. AllByRecursion (IsReady es) ls) (sym parts) (recursion_from_All _ ls ready) in
    let t = settled_parts recovered added seats ls (recursion_from_All _ recovered none) all ready' marks
    (omega arith) in
    record {
      begins = begins;
      none_filed = none;
      numbered = record { all = all; once = t.2 };
      filed = All-from_recursion _ ls
          (subst (λ es. AllByRecursion (λ l. l.receipts ≡ filed_by l.number 0 es) ls) parts t.0);
      seated = All-from_recursion _ added t.1;
      grows = grown;
    }
