-- Revisions as they are kept, in the order of their days: the one in force is found by halving.
use Rattle.std.proofs.Common.{◌≡◌, ℕ, suc, zero, ℤ, ◌<◌, ◌≤◌, ◌<ℤ◌, Bool, true, false, cond, List, [], ◌∷◌, ◌++◌, ◌-◌}
use Rattle.std.proofs.Common.{length, get_or, Option, Some, None, refl, sym, ap, ◌∙◌, subst, arith, inl, inr}
use Rattle.std.specs.Prelude.{option_map, slice_get, int_le, unwrap_or}
use Rattle.std.specs.List.{last_or}
use Rattle.std.specs.List.Sorted.{IsPartitionedBy}
use Rattle.std.proofs.lemmas.Bool.{cases_lt, false_from_ne_true}
use Rattle.std.proofs.lemmas.Int.{ints}
use Rattle.std.proofs.lemmas.List.{get_or_append_left}
use Rattle.std.proofs.lemmas.List.Elements.{All-head, All-tail}
use Rattle.std.proofs.lemmas.List.Quantifiers.{all_pairs_push}
use Rattle.std.proofs.lemmas.Option.{slice_get-get_or}
use Rattle.fare_table.specs.declared.fares.Fares.{Fares}
use Rattle.fare_schedule.specs.InForce.{Revision}
use Rattle.fare_schedule.specs.Places.{table_at}
use Rattle.fare_schedule.specs.Dated.{place_by, AreAscending, ArePlaced, is_until, revision_of, revisions_by}
use Rattle.fare_schedule.specs.Dated.{counts_at, IsCountOn}
use Rattle.fare_schedule.specs.declared.dated.Dated.{Dated}

until-earlier : (a b day : ℤ) → a <ℤ b → int_le b day ≡ true → int_le a day ≡ true
until-earlier a b day below is = grind (arith, ints)

-- none that counts on a day stands behind one that doesn't
pub partitioned : (day : ℤ) (ds : List Dated) → AreAscending ds → IsPartitionedBy (is_until day) ds
partitioned day ds ascending i j d le below is =
    elim (cases_lt i j) [
      | inl before ↦ until-earlier (get_or ds i d).day (get_or ds j d).day day (ascending i j d before below) is
      | inr past ↦ subst (λ n. is_until day (get_or ds n d) ≡ true) (omega (arith, le, past)) is
    ]

-- where the one at a place doesn't count, none from there on does
none-from : (day : ℤ) (ds : List Dated) (n : ℕ) → AreAscending ds → counts_at day ds n ≡ false →
    (place : ℕ) (other : Dated) → n ≤ place → place < length ds → is_until day (get_or ds place other) ≡ false
none-from day ds n ascending none place other le below =
    let at : slice_get ds n ≡ Some (get_or ds n other) = slice_get-get_or ds n other (omega (arith, le, below)) in
    let here : is_until day (get_or ds n other) ≡ false =
    subst (λ o. unwrap_or (option_map (is_until day) o) false ≡ false) at none in
    false_from_ne_true (is_until day (get_or ds place other))
    (λ is. cc (here, partitioned day ds ascending n place other le below is))

-- and where it counts, so do all before it
all-until : (day : ℤ) (ds : List Dated) (n : ℕ) → AreAscending ds → counts_at day ds n ≡ true → n < length ds →
    (place : ℕ) (other : Dated) → place ≤ n → is_until day (get_or ds place other) ≡ true
all-until day ds n ascending counts within place other le =
    let at : slice_get ds n ≡ Some (get_or ds n other) = slice_get-get_or ds n other within in
    partitioned day ds ascending place n other le within
    (subst (λ o. unwrap_or (option_map (is_until day) o) false ≡ true) at counts)

-- it is there then
pub counts-within : (day : ℤ) (ds : List Dated) (n : ℕ) → counts_at day ds n ≡ true → n < length ds
counts-within day [] n counts = absurd (cc)
counts-within day (d ∷ ds) zero counts = omega arith
counts-within day (d ∷ ds) (suc n) counts =
    let below = counts-within day ds n counts in
    omega (arith, below)

-- where the first doesn't count, none does
pub count-none : (day : ℤ) (ds : List Dated) → AreAscending ds → counts_at day ds 0 ≡ false → IsCountOn day ds 0
count-none day ds ascending none = record {
  first = λ place other below. absurd (omega (arith, below));
  others = none-from day ds 0 ascending none;
}

-- where one counts and the one behind it doesn't, it is the last that does
pub count-some : (day : ℤ) (ds : List Dated) (n : ℕ) → AreAscending ds → counts_at day ds n ≡ true →
    counts_at day ds (suc n) ≡ false → IsCountOn day ds (suc n)
count-some day ds n ascending counts none = record {
  first = λ place other below. all-until day ds n ascending counts (counts-within day ds n counts) place other
      (omega (arith, below));
  others = none-from day ds (suc n) ascending none;
}

-- where none counts, the place stays
pub place-none : (place : ℕ) (ds : List Dated) (day : ℤ) →
    ((k : ℕ) (d : Dated) → k < length ds → is_until day (get_or ds k d) ≡ false) → place_by place ds day ≡ place
place-none place [] day none = refl
place-none place (r ∷ ds) day none =
    ap (λ b. place_by (cond b r.place place) ds day) (none 0 r (omega arith))
    ∙ place-none place ds day (λ k d below. none (suc k) d (omega (arith, below)))

-- and else it is that of the last that does
pub place-last : (place : ℕ) (ds : List Dated) (m : ℕ) (d : Dated) (day : ℤ) → m < length ds →
    ((k : ℕ) (d : Dated) → k < suc m → is_until day (get_or ds k d) ≡ true) →
    ((k : ℕ) (d : Dated) → suc m ≤ k → k < length ds → is_until day (get_or ds k d) ≡ false) →
    place_by place ds day ≡ (get_or ds m d).place
place-last place [] m d day within all none = absurd (omega (arith, within))
place-last place (r ∷ ds) zero d day within all none =
    ap (λ b. place_by (cond b r.place place) ds day) (all 0 r (omega arith))
    ∙ place-none r.place ds day (λ k d below. none (suc k) d (omega arith) (omega (arith, below)))
place-last place (r ∷ ds) (suc m) d day within all none =
    ap (λ b. place_by (cond b r.place place) ds day) (all 0 r (omega arith))
    ∙ place-last r.place ds m d day (omega (arith, within))
    (λ k d below. all (suc k) d (omega (arith, below)))
    (λ k d above below. none (suc k) d (omega (arith, above)) (omega (arith, below)))

later-placed : (b : Bool) (place other last : ℕ) → place ≤ last → other ≤ last → cond b other place ≤ last
later-placed true place other last one two = two
later-placed false place other last one two = one

-- the place in force is one of the tables
pub place_by-placed : (place last : ℕ) (ds : List Dated) (day : ℤ) → place ≤ last → ArePlaced last ds →
    place_by place ds day ≤ last
place_by-placed place last [] day below placed = below
place_by-placed place last (r ∷ ds) day below placed =
    place_by-placed (cond (is_until day r) r.place place) last ds day
    (later-placed (is_until day r) place r.place last below (All-head (λ (d : Dated). d.place ≤ last) r ds placed))
    (All-tail (λ (d : Dated). d.place ≤ last) r ds placed)

-- ---- the last one

-- the last of a list stands at its last place
last-at : (x : Dated) (xs : List Dated) → slice_get (x ∷ xs) (length xs) ≡ last_or (Some x) xs
last-at x [] = refl
last-at x (y ∷ ys) = last-at y ys

last_or-map : (first : Fares) (supplied : List Fares) (o : Option Dated) (ds : List Dated) →
    option_map (λ (r : Revision). r.day)
    (last_or (option_map (revision_of first supplied) o) (revisions_by first supplied ds))
    ≡ option_map (λ (d : Dated). d.day) (last_or o ds)
last_or-map first supplied None [] = refl
last_or-map first supplied (Some d) [] = refl
last_or-map first supplied o (d ∷ ds) = last_or-map first supplied (Some d) ds

-- the day of the last revision is that of the last that is kept
pub last-day : (first : Fares) (supplied : List Fares) (ds : List Dated) →
    option_map (λ (r : Revision). r.day) (last_or None (revisions_by first supplied ds))
    ≡ option_map (λ (d : Dated). d.day) (slice_get ds (length ds - 1))
last-day first supplied [] = refl
last-day first supplied (d ∷ ds) =
    let place : length (d ∷ ds) - 1 ≡ length ds = omega arith in
    last_or-map first supplied None (d ∷ ds)
    ∙ ap (option_map (λ (d : Dated). d.day)) (sym (ap (slice_get (d ∷ ds)) place ∙ last-at d ds))

-- one more of a later day
pub ascending-push : (first : Fares) (supplied : List Fares) (ds : List Dated) (r : Dated) → AreAscending ds →
    ((last : ℤ) → option_map (λ (r : Revision). r.day) (last_or None (revisions_by first supplied ds)) ≡ Some last →
    last <ℤ r.day) → AreAscending (ds ++ r ∷ [])
ascending-push first supplied ds r ascending later =
    all_pairs_push (λ (one other : Dated). one.day <ℤ other.day) ds r ascending
    (λ k d within.
    let at : ℕ = length ds - 1 in
    let newest : slice_get ds at ≡ Some (get_or ds at d) = slice_get-get_or ds at d (omega (arith, within)) in
    let last : (get_or ds at d).day <ℤ r.day =
    later (get_or ds at d).day (last-day first supplied ds ∙ ap (option_map (λ (d : Dated). d.day)) newest) in
    elim (cases_lt k at) [
      | inl before ↦
          let below : (get_or ds k d).day <ℤ (get_or ds at d).day = ascending k at d before (omega (arith, within)) in
          omega (arith, ints)
      | inr past ↦
          let same : at ≡ k = omega (arith, within, past) in
          subst (λ n. (get_or ds n d).day <ℤ r.day) same last
    ])

-- ---- one table more

-- it changes no revision that is kept
pub revisions-kept : (first table : Fares) (supplied : List Fares) (ds : List Dated) → ArePlaced (length supplied) ds →
    revisions_by first (supplied ++ table ∷ []) ds ≡ revisions_by first supplied ds
revisions-kept first table supplied [] placed = refl
revisions-kept first table supplied (d ∷ ds) placed =
    let within : d.place ≤ length supplied = All-head (λ (d : Dated). d.place ≤ length supplied) d ds placed in
    let same : table_at first (supplied ++ table ∷ []) d.place ≡ table_at first supplied d.place =
    get_or_append_left (first ∷ supplied) (table ∷ []) first d.place (omega (arith, within)) in
    let behind = All-tail (λ (d : Dated). d.place ≤ length supplied) d ds placed in
    rw (same, revisions-kept first table supplied ds behind) refl
