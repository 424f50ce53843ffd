-- Which table is in force: the one at the place that the code finds, also after one more revision or table.
use Rattle.std.proofs.Common.{◌≡◌, ℕ, ℤ, ◌+◌, ◌≤◌, ◌<ℤ◌, ◌≤ℤ◌, true, false, List, [], ◌∷◌, ◌++◌}
use Rattle.std.proofs.Common.{length, length-append, Option, Some, None, refl, sym, ap, ◌∙◌, arith, inl, inr}
use Rattle.std.specs.Prelude.{option_map, unwrap_or, int_le}
use Rattle.std.specs.List.{All, filter, last_or}
use Rattle.std.proofs.lemmas.Bool.{cases_Bool, cond-true, cond-false}
use Rattle.std.proofs.lemmas.Int.{ints}
use Rattle.std.proofs.lemmas.List.{get_or_append_left, append-nil}
use Rattle.std.proofs.lemmas.List.Elements.{All-head, All-tail, filter-append}
use Rattle.fare_table.specs.Fares.{digest_of}
use Rattle.fare_table.specs.declared.fares.Fares.{Fares}
use Rattle.fare_schedule.specs.InForce.{Revision, counts_on, last_on, table_of, table_by, in_force}
use Rattle.fare_schedule.specs.Places.{AreDistinct, table_at}
use Rattle.fare_schedule.specs.Dated.{ArePlaced, is_until, place_by, revision_of, revisions_by}
use Rattle.fare_schedule.specs.Laws.{IsLastInForce, IsFirstInForce, HasItsDigest}
use Rattle.fare_schedule.specs.Schedule.{tables_of, revisions_of, table_on}
use Rattle.fare_schedule.specs.declared.dated.Dated.{Dated}
use Rattle.fare_schedule.specs.declared.schedule.Schedule.{Schedule}
use Rattle.fare_schedule.proofs.PlaceLemmas.{found-at, digest-found, distinct-push}
use Rattle.fare_schedule.proofs.DatedLemmas.{place_by-placed}

-- ---- by the places

module _ (first : Fares) (supplied : List Fares) (distinct : AreDistinct (first ∷ supplied)) where
  -- the table of a revision that is kept stands at its place
  by-revision : (d : Dated) → d.place ≤ length supplied →
      table_by first supplied (Some (revision_of first supplied d)) ≡ table_at first supplied d.place
  by-revision d within =
      ap (λ o. unwrap_or o first) (found-at (first ∷ supplied) d.place first distinct (omega (arith, within)))

  -- the last revision that counts is that at the place found, so far and on
  by-places : (o : Option Revision) (place : ℕ) (ds : List Dated) (day : ℤ) → ArePlaced (length supplied) ds →
      table_by first supplied o ≡ table_at first supplied place →
      table_by first supplied (last_or o (filter (counts_on day) (revisions_by first supplied ds)))
      ≡ table_at first supplied (place_by place ds day)
  by-places o place [] day placed so_far = so_far
  by-places o place (d ∷ ds) day placed so_far =
      let behind = All-tail (λ (d : Dated). d.place ≤ length supplied) d ds placed in
      let more : List Revision = filter (counts_on day) (revisions_by first supplied ds) in
      elim (cases_Bool (is_until day d)) [
        | inl counts ↦
            ap (λ rs. table_by first supplied (last_or o rs))
            (cond-true (is_until day d) (revision_of first supplied d ∷ more) more counts)
            ∙ by-places (Some (revision_of first supplied d)) d.place ds day behind
            (by-revision d (All-head (λ (d : Dated). d.place ≤ length supplied) d ds placed))
            ∙ ap (λ p. table_at first supplied (place_by p ds day))
            (sym (cond-true (is_until day d) d.place place counts))
        | inr later ↦
            ap (λ rs. table_by first supplied (last_or o rs))
            (cond-false (is_until day d) (revision_of first supplied d ∷ more) more later)
            ∙ by-places o place ds day behind so_far
            ∙ ap (λ p. table_at first supplied (place_by p ds day))
            (sym (cond-false (is_until day d) d.place place later))
      ]

-- the table in force stands at the place that is found
pub on-place : (schedule : Schedule) (day : ℤ) →
    table_on schedule day
    ≡ table_at schedule.first schedule.supplied.items (place_by 0 schedule.dated.items day)
on-place schedule day =
    by-places schedule.first schedule.supplied.items schedule.distinct None 0 schedule.dated.items day
    schedule.placed refl

-- ---- one table more

-- it is in force on no day
pub on-supplied : (first table : Fares) (supplied : List Fares) (ds : List Dated) → AreDistinct (first ∷ supplied) →
    table_of (first ∷ supplied) (digest_of table) ≡ None → ArePlaced (length supplied) ds → (day : ℤ) →
    in_force first (supplied ++ table ∷ []) (revisions_by first (supplied ++ table ∷ []) ds) day
    ≡ in_force first supplied (revisions_by first supplied ds) day
on-supplied first table supplied ds distinct other placed day =
    let more : List Fares = supplied ++ table ∷ [] in
    let room : length more ≡ length supplied + 1 = length-append supplied (table ∷ []) in
    let below : place_by 0 ds day ≤ length supplied = place_by-placed 0 (length supplied) ds day (omega arith) placed in
    by-places first more (distinct-push (first ∷ supplied) table distinct other) None 0 ds day
    (λ k d within. omega (arith, room, placed k d within)) refl
    ∙ get_or_append_left (first ∷ supplied) (table ∷ []) first (place_by 0 ds day) (omega (arith, below))
    ∙ sym (by-places first supplied distinct None 0 ds day placed refl)

-- the same tables with these revisions
pub on-same : (old new : Schedule) (revisions : List Revision) (day : ℤ) → tables_of new ≡ tables_of old →
    revisions_of new ≡ revisions →
    table_on new day ≡ in_force old.first old.supplied.items revisions day
on-same old new revisions day tables same =
    let first : new.first ≡ old.first = cc tables in
    let supplied : new.supplied.items ≡ old.supplied.items = cc tables in
    ap (λ f. in_force f new.supplied.items (revisions_of new) day) first
    ∙ ap (λ ts. in_force old.first ts (revisions_of new) day) supplied
    ∙ ap (λ rs. in_force old.first old.supplied.items rs day) same

-- ---- one revision more

-- the last of a list with one more behind it
last_or-push : (o : Option Revision) (rs : List Revision) (r : Revision) → last_or o (rs ++ r ∷ []) ≡ Some r
last_or-push o [] r = refl
last_or-push o (s ∷ rs) r = last_or-push (Some s) rs r

pub last-push : (rs : List Revision) (r : Revision) →
    option_map (λ (r : Revision). r.day) (last_or None (rs ++ r ∷ [])) ≡ Some r.day
last-push rs r = ap (option_map (λ (r : Revision). r.day)) (last_or-push None rs r)

before-day : (a day : ℤ) → day <ℤ a → int_le a day ≡ false
before-day a day below = grind (arith, ints)

from-day : (a day : ℤ) → a ≤ℤ day → int_le a day ≡ true
from-day a day above = grind (arith, ints)

-- the revisions that count among these with others behind them
counting : (day : ℤ) (rs more : List Revision) →
    last_on (rs ++ more) day ≡ last_or None (filter (counts_on day) rs ++ filter (counts_on day) more)
counting day rs more = ap (last_or None) (filter-append (counts_on day) rs more)

-- revisions of later days don't count
none-counts : (day : ℤ) (rs : List Revision) → All (λ (r : Revision). day <ℤ r.day) rs → filter (counts_on day) rs ≡ []
none-counts day [] later = refl
none-counts day (r ∷ rs) later =
    cond-false (counts_on day r) (r ∷ filter (counts_on day) rs) (filter (counts_on day) rs)
    (before-day r.day day (All-head (λ (r : Revision). day <ℤ r.day) r rs later))
    ∙ none-counts day rs (All-tail (λ (r : Revision). day <ℤ r.day) r rs later)

-- before its day one more revision changes nothing
pub last-before : (day : ℤ) (rs : List Revision) (r : Revision) → day <ℤ r.day →
    last_on (rs ++ r ∷ []) day ≡ last_on rs day
last-before day rs r below =
    counting day rs (r ∷ [])
    ∙ ap (λ more. last_or None (filter (counts_on day) rs ++ more))
    (cond-false (counts_on day r) (r ∷ []) [] (before-day r.day day below))
    ∙ ap (last_or None) (append-nil (filter (counts_on day) rs))

-- from its day on, and before those of the ones behind it, it is the last that counts
pub last-from : (day : ℤ) (earlier later : List Revision) (r : Revision) → r.day ≤ℤ day →
    All (λ (r : Revision). day <ℤ r.day) later → last_on (earlier ++ r ∷ later) day ≡ Some r
last-from day earlier later r above below =
    counting day earlier (r ∷ later)
    ∙ ap (λ more. last_or None (filter (counts_on day) earlier ++ more))
    (cond-true (counts_on day r) (r ∷ filter (counts_on day) later) (filter (counts_on day) later)
    (from-day r.day day above)
    ∙ ap (λ more. r ∷ more) (none-counts day later below))
    ∙ last_or-push None (filter (counts_on day) earlier) r

-- ---- the laws

pub last-in-force : IsLastInForce
last-in-force first table supplied earlier later revision day above below found =
    ap (table_by first supplied) (last-from day earlier later revision above below) ∙ ap (λ o. unwrap_or o first) found

pub first-in-force : IsFirstInForce
first-in-force first supplied revisions day later =
    ap (λ rs. table_by first supplied (last_or None rs)) (none-counts day revisions later)

pub has-its-digest : HasItsDigest
has-its-digest = digest-found
