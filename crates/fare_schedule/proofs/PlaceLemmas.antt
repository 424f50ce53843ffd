-- Tables by their digests, and by the places at which they stand.
use Rattle.std.proofs.Common.{◌≡◌, ◌≢◌, ℕ, suc, zero, ◌+◌, ◌<◌, Bool, true, false, cond, List, [], ◌∷◌, ◌++◌}
use Rattle.std.proofs.Common.{get_or, Option, Some, None, is_some, refl, sym, ap, ◌∙◌, arith, inl, inr, length}
use Rattle.std.specs.Str.{bytes_eq}
use Rattle.std.proofs.lemmas.Bool.{cases_Bool, false_from_ne_true, cond-true, cond-false}
use Rattle.std.proofs.lemmas.List.Quantifiers.{all_pairs_push}
use Rattle.std.proofs.lemmas.Option.{same_Some, none-some}
use Rattle.std.proofs.lemmas.Slice.Eq.{bytes_eq-Decides}
use Rattle.fare_table.specs.Fares.{digest_of}
use Rattle.fare_table.specs.declared.fares.Fares.{Fares}
use Rattle.fare_schedule.specs.InForce.{table_of}
use Rattle.fare_schedule.specs.Places.{place_from, table_at, AreDistinct}

-- a digest has a place where it has a table
pub place-some : (n : ℕ) (tables : List Fares) (digest : List ℕ) →
    is_some (place_from n tables digest) ≡ is_some (table_of tables digest)
place-some n [] digest = refl
place-some n (t ∷ ts) digest =
    elim (cases_Bool (bytes_eq (digest_of t) digest)) [
      | inl same ↦ rw same refl
      | inr other ↦ rw (other, place-some (suc n) ts digest) refl
    ]

-- the table that is found for a digest has it
pub digest-found : (tables : List Fares) (digest : List ℕ) (table : Fares) → table_of tables digest ≡ Some table →
    digest_of table ≡ digest
digest-found [] digest table found = absurd (none-some table found)
digest-found (t ∷ ts) digest table found =
    elim (cases_Bool (bytes_eq (digest_of t) digest)) [
      | inl same ↦
          ap digest_of (same_Some table t (sym found
          ∙ cond-true (bytes_eq (digest_of t) digest) (Some t) (table_of ts digest) same))
          ∙ (bytes_eq-Decides (digest_of t) digest).0 same
      | inr other ↦ digest-found ts digest table
          (sym (cond-false (bytes_eq (digest_of t) digest) (Some t) (table_of ts digest) other) ∙ found)
    ]

-- the table at the place of a digest is the one that is found for it
pub record IsFoundAt (n : ℕ) (tables : List Fares) (digest : List ℕ) (place : ℕ) (other : Fares) : Type 0 where
  pub at : ℕ
  pub place_is : place ≡ at + n
  pub within : at < length tables
  pub found : table_of tables digest ≡ Some (get_or tables at other)

pub place-found : (n : ℕ) (tables : List Fares) (digest : List ℕ) (place : ℕ) (other : Fares) →
    place_from n tables digest ≡ Some place → IsFoundAt n tables digest place other
place-found n [] digest place other is = absurd (none-some place is)
place-found n (t ∷ ts) digest place other is =
    elim (cases_Bool (bytes_eq (digest_of t) digest)) [
      | inl same ↦
          let here : n ≡ place = same_Some n place
          (sym (cond-true (bytes_eq (digest_of t) digest) (Some n) (place_from (suc n) ts digest) same) ∙ is) in
          record {
            at = 0;
            place_is = omega (arith, here);
            within = omega arith;
            found = cond-true (bytes_eq (digest_of t) digest) (Some t) (table_of ts digest) same;
          }
      | inr differs ↦
          let later = place-found (suc n) ts digest place other
          (sym (cond-false (bytes_eq (digest_of t) digest) (Some n) (place_from (suc n) ts digest) differs) ∙ is) in
          record {
            at = suc later.at;
            place_is = omega (arith, later.place_is);
            within = omega (arith, later.within);
            found = cond-false (bytes_eq (digest_of t) digest) (Some t) (table_of ts digest) differs ∙ later.found;
          }
    ]

pub table-found : (first : Fares) (supplied : List Fares) (digest : List ℕ) (place : ℕ) →
    place_from 0 (first ∷ supplied) digest ≡ Some place →
    table_of (first ∷ supplied) digest ≡ Some (table_at first supplied place)
table-found first supplied digest place is =
    let found = place-found 0 (first ∷ supplied) digest place first is in
    let same : found.at ≡ place = omega (arith, found.place_is) in
    found.found ∙ ap (λ p. Some (table_at first supplied p)) same

-- of tables with different digests each is the one that is found for its own
pub found-at : (tables : List Fares) (place : ℕ) (other : Fares) → AreDistinct tables → place < length tables →
    table_of tables (digest_of (get_or tables place other)) ≡ Some (get_or tables place other)
found-at [] place other distinct within = absurd (omega (arith, within))
found-at (t ∷ ts) zero other distinct within =
    cond-true (bytes_eq (digest_of t) (digest_of t)) (Some t) (table_of ts (digest_of t))
    ((bytes_eq-Decides (digest_of t) (digest_of t)).1 refl)
found-at (t ∷ ts) (suc place) other distinct within =
    let digest : List ℕ = digest_of (get_or ts place other) in
    let differs : bytes_eq (digest_of t) digest ≡ false =
    false_from_ne_true (bytes_eq (digest_of t) digest)
    (λ same. distinct 0 (suc place) other (omega arith) within ((bytes_eq-Decides (digest_of t) digest).0 same)) in
    cond-false (bytes_eq (digest_of t) digest) (Some t) (table_of ts digest) differs
    ∙ found-at ts place other
    (λ i j d before below. distinct (suc i) (suc j) d (omega (arith, before)) (omega (arith, below)))
    (omega (arith, within))

none-behind : (b : Bool) (t : Fares) (o : Option Fares) → cond b (Some t) o ≡ None → o ≡ None
none-behind true t o none = absurd (none-some t (sym none))
none-behind false t o none = none

-- where no table is found for a digest, none has it
none-has : (tables : List Fares) (digest : List ℕ) → table_of tables digest ≡ None →
    (place : ℕ) (other : Fares) → place < length tables → digest_of (get_or tables place other) ≢ digest
none-has [] digest none place other within = absurd (omega (arith, within))
none-has (t ∷ ts) digest none zero other within = λ same.
    none-some t (sym none ∙ cond-true (bytes_eq (digest_of t) digest) (Some t) (table_of ts digest)
    ((bytes_eq-Decides (digest_of t) digest).1 same))
none-has (t ∷ ts) digest none (suc place) other within =
    none-has ts digest (none-behind (bytes_eq (digest_of t) digest) t (table_of ts digest) none) place other
    (omega (arith, within))

-- one table more of another digest
pub distinct-push : (tables : List Fares) (table : Fares) → AreDistinct tables →
    table_of tables (digest_of table) ≡ None → AreDistinct (tables ++ table ∷ [])
distinct-push tables table distinct none =
    all_pairs_push (λ (one other : Fares). digest_of one ≢ digest_of other) tables table distinct
    (λ place other within. none-has tables (digest_of table) none place other within)
