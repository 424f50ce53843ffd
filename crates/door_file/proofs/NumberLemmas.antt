-- A number at a key, as the checks and the reader see it, beside what the key says.
use Rattle.std.proofs.Common.{◌≡◌, ℕ, ◌≤◌, ℤ, pos, negsuc, Bool, true, false, not, ◌&&◌, if◌then◌else◌, is_some}
use Rattle.std.proofs.Common.{List, Option, Some, None, nat_le, refl, ap, sym, ◌∙◌, arith}
use Rattle.std.proofs.lemmas.Bool.{leb-true, le-leb}
use Rattle.toml.specs.Data.{Data, integer, as_integer}
use Rattle.toml_reading.specs.Range.{whole_of, whole_in}
use Rattle.toml_reading.proofs.TestLemmas.{and_left, and_right}
use Rattle.door_file.specs.Faults.{has_type, in_range, is_repeat, problem_of}
use Rattle.door_file.specs.Content.{number_of}
use Rattle.door_file.specs.Meaning.{SaysNumber}
use Rattle.door_file.specs.declared.fault.Problem.TheVariants.{WrongType, Range, Twice}
use Rattle.door_file.specs.declared.key.Shape.{Shape}
use Rattle.door_file.specs.declared.key.Shape.TheVariants.{Whole}

-- a value with no problem is of its type, in its range and no repeat
pub record IsRight (shape : Shape) (needed : Bool) (earlier : List Data) (d : Data) : Type 0 where
  pub type_is : has_type shape d ≡ true
  pub range_is : in_range shape needed d ≡ true
  pub new_is : is_repeat shape earlier d ≡ false

tests : (t r w : Bool) → (if not t then Some WrongType else
    (if not r then Some Range else (if w then Some Twice else None))) ≡ None
    → (t ≡ true) × (r ≡ true) × (w ≡ false)
tests false r w e = cc
tests true false w e = cc
tests true true true e = cc
tests true true false e = (refl, refl, refl)

pub right : (shape : Shape) (needed : Bool) (earlier : List Data) (d : Data)
    → problem_of shape needed earlier (Some d) ≡ None → IsRight shape needed earlier d
right shape needed earlier d none =
    let p = tests (has_type shape d) (in_range shape needed d) (is_repeat shape earlier d) none in
    record { type_is = p.0; range_is = p.1; new_is = p.2 }

pub right-none : (shape : Shape) (needed : Bool) (earlier : List Data) (d : Data) → IsRight shape needed earlier d
    → problem_of shape needed earlier (Some d) ≡ None
right-none shape needed earlier d r = rw (r.type_is, r.range_is, r.new_is) refl

-- a key that is absent isn't needed
pub absent : (shape : Shape) (needed : Bool) (earlier : List Data) → problem_of shape needed earlier None ≡ None
    → needed ≡ false
absent shape true earlier none = cc
absent shape false earlier none = refl

pub absent-none : (shape : Shape) (needed : Bool) (earlier : List Data) → needed ≡ false
    → problem_of shape needed earlier None ≡ None
absent-none shape true earlier e = cc
absent-none shape false earlier e = refl

-- ---- numbers

-- the number that is there, from the lowest to the highest
pub record IsFrom (low high : ℕ) (z : ℤ) (n : ℕ) : Type 0 where
  pub value : z ≡ pos n
  pub least : low ≤ n
  pub most : n ≤ high

pub if_some : {X : Type 0} (b : Bool) (x y : X) → (if b then Some x else None) ≡ Some y → (b ≡ true) × (x ≡ y)
if_some true x y e = (refl, cc)
if_some false x y e = cc

pub whole-from : (low high : ℕ) (z : ℤ) (n : ℕ) → whole_of low high (Some z) ≡ Some n → IsFrom low high z n
whole-from low high (pos m) n e =
    let p = if_some (nat_le low m && nat_le m high) m n e in
    record {
      value = ap pos p.1;
      least = omega (arith, leb-true low m (and_left _ _ p.0), p.1);
      most = omega (arith, leb-true m high (and_right (nat_le low m) _ p.0), p.1);
    }
whole-from low high (negsuc m) n e = cc

pub from-whole : (low high n : ℕ) → low ≤ n → n ≤ high → whole_of low high (Some (pos n)) ≡ Some n
from-whole low high n least most = rw (le-leb low n least, le-leb n high most) refl

pub is_some-value : {X : Type 0} (o : Option X) → is_some o ≡ true → (x : X) × (o ≡ Some x)
is_some-value None e = cc
is_some-value (Some x) e = (x, refl)

-- a key with no problem says the number that is read there
pub number-says : (low high : ℕ) (needed : Bool) (earlier : List Data) (v : Option Data)
    → problem_of (Whole low high) needed earlier v ≡ None → SaysNumber low high v (number_of (Whole low high) v)
number-says low high needed earlier None none = refl
number-says low high needed earlier (Some (integer z)) none =
    let r = right (Whole low high) needed earlier (integer z) none in
    let p = is_some-value (whole_of low high (Some z)) r.range_is in
    let f = whole-from low high z p.0 p.1 in
    (p.0, (ap integer f.value, f.least, f.most, p.1))
number-says low high needed earlier (Some d) none = cc

-- and a key that says a number has no problem, where it isn't needed or is there, and that number is
-- read there
pub says-number : (low high : ℕ) (v : Option Data) (said : Option ℕ) → SaysNumber low high v said
    → said ≡ number_of (Whole low high) v
says-number low high None said says = says
says-number low high (Some d) said (n, (value, least, most, is)) =
    is ∙ sym (ap (λ e. whole_in low high e) value ∙ from-whole low high n least most)

pub number-none : (low high : ℕ) (needed : Bool) (earlier : List Data) (v : Option Data) (said : Option ℕ)
    → SaysNumber low high v said → (v ≡ None → needed ≡ false) → problem_of (Whole low high) needed earlier v ≡ None
number-none low high needed earlier None said says need = absent-none (Whole low high) needed earlier (need refl)
number-none low high needed earlier (Some d) said (n, (value, least, most, is)) need =
    right-none (Whole low high) needed earlier d (record {
      type_is = ap (λ e. is_some (as_integer e)) value;
      range_is = ap (λ e. is_some (whole_in low high e)) value ∙ ap is_some (from-whole low high n least most);
      new_is = refl;
    })
