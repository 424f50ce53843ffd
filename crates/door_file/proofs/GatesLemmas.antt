-- The gates of a rule, as the checks and the reader see them, beside what the key says.
use Rattle.std.proofs.Common.{◌≡◌, ℕ, ◌≤◌, pos, Bool, true, false, is_some}
use Rattle.std.proofs.Common.{List, [], ◌∷◌, length, Option, Some, None, nat_le, unwrap_or}
use Rattle.std.proofs.Common.{refl, ap, sym, ◌∙◌, arith, inl, inr}
use Rattle.std.specs.List.{list_all, AllZip}
use Rattle.std.proofs.lemmas.Bool.{leb-true, le-leb, ltb-true, lt-ltb}
use Rattle.std.proofs.lemmas.List.{length-map}
use Rattle.toml.specs.Data.{Data, integer, array, no_items, item}
use Rattle.door_clerk.specs.declared.rule.GateRange.{GateRange}
use Rattle.toml_reading.specs.Tree.{elements_of, items_in}
use Rattle.toml_reading.specs.Range.{whole_of}
use Rattle.toml_reading.proofs.TestLemmas.{and_left, and_right, and_both}
use Rattle.door_file.specs.Tree.{gate_in, one_gate, two_gates, range_in}
use Rattle.door_file.specs.Faults.{has_enough, is_gate, problem_of}
use Rattle.door_file.specs.Content.{ranges_of, no_gate}
use Rattle.door_file.specs.Meaning.{SaysRange, SaysGates}
use Rattle.door_file.specs.declared.key.Shape.TheVariants.{Gates}
use Rattle.door_file.specs.declared.key.TheConstants.{HIGHEST_GATE}
use Rattle.door_file.proofs.NumberLemmas.{if_some, is_some-value, right, right-none}
use Rattle.door_file.proofs.NumberLemmas.{absent, whole-from, from-whole}

-- ---- one range

abbrev from_to : ℕ → ℕ → GateRange
from_to first last = record { first = first; last = last }

same_some : {X : Type 0} (x y : X) → Some x ≡ Some y → x ≡ y
same_some x y e = cc

-- a value is the number of a gate
record IsGate (d : Data) (n : ℕ) : Type 0 where
  pub value : d ≡ integer (pos n)
  pub least : 1 ≤ n
  pub most : n ≤ HIGHEST_GATE

gate-from : (d : Data) (n : ℕ) → gate_in d ≡ Some n → IsGate d n
gate-from (integer z) n e =
    let f = whole-from 1 HIGHEST_GATE z n e in
    record { value = ap integer f.value; least = f.least; most = f.most }
gate-from d n e = cc

gate-is : (n : ℕ) → 1 ≤ n → n ≤ HIGHEST_GATE → gate_in (integer (pos n)) ≡ Some n
gate-is n least most = from-whole 1 HIGHEST_GATE n least most

record IsOne (o : Option ℕ) (range : GateRange) : Type 0 where
  pub gate : ℕ
  pub found : o ≡ Some gate
  pub first_is : gate ≡ range.first
  pub last_is : gate ≡ range.last

one-from : (o : Option ℕ) (range : GateRange) → one_gate o ≡ Some range → IsOne o range
one-from None range e = cc
one-from (Some n) range e =
    let same : from_to n n ≡ range = same_some (from_to n n) range e in
    record {
      gate = n;
      found = refl;
      first_is = ap (λ (r : GateRange). r.first) same;
      last_is = ap (λ (r : GateRange). r.last) same;
    }

record AreTwo (o p : Option ℕ) (range : GateRange) : Type 0 where
  pub low : o ≡ Some range.first
  pub high : p ≡ Some range.last
  pub order : range.first ≤ range.last

two-from : (o p : Option ℕ) (range : GateRange) → two_gates o p ≡ Some range → AreTwo o p range
two-from None p range e = cc
two-from (Some m) None range e = cc
two-from (Some m) (Some n) range e =
    let whole = if_some (nat_le m n) (from_to m n) range e in
    let first_is : m ≡ range.first = ap (λ (r : GateRange). r.first) whole.1 in
    let last_is : n ≡ range.last = ap (λ (r : GateRange). r.last) whole.1 in
    record {
      low = ap Some first_is;
      high = ap Some last_is;
      order = omega (arith, leb-true m n whole.0, first_is, last_is);
    }

pub range-says : (d : Data) (range : GateRange) → range_in d ≡ Some range → SaysRange d range
range-says (array no_items) range e = cc
range-says (array (item a no_items)) range e = cc
range-says (array (item a (item b no_items))) range e =
    let two = two-from (gate_in a) (gate_in b) range e in
    let first_gate = gate-from a range.first two.low in
    let last_gate = gate-from b range.last two.high in
    record {
      written = inr (ap (λ x. array (item x (item b no_items))) first_gate.value
          ∙ ap (λ y. array (item (integer (pos range.first)) (item y no_items))) last_gate.value);
      least = first_gate.least;
      order = two.order;
      most = last_gate.most;
    }
range-says (array (item a (item b (item c ds)))) range e = cc
range-says (integer z) range e =
    let one = one-from (whole_of 1 HIGHEST_GATE (Some z)) range e in
    let f = whole-from 1 HIGHEST_GATE z one.gate one.found in
    record {
      written = inl (ap integer f.value ∙ ap (λ n. integer (pos n)) one.first_is, sym one.first_is ∙ one.last_is);
      least = omega (arith, f.least, one.first_is);
      order = omega (arith, one.first_is, one.last_is);
      most = omega (arith, f.most, one.last_is);
    }
range-says d range e = cc

pub says-range : (d : Data) (range : GateRange) → SaysRange d range → range_in d ≡ Some range
says-range d range says =
    let low : gate_in (integer (pos range.first)) ≡ Some range.first =
    gate-is range.first says.least (omega (arith, says.order, says.most)) in
    let high : gate_in (integer (pos range.last)) ≡ Some range.last =
    gate-is range.last (omega (arith, says.least, says.order)) says.most in
    let ordered : two_gates (Some range.first) (Some range.last) ≡ Some range =
    rw (le-leb range.first range.last says.order) refl in
    elim (says.written) [
      | inl alone ↦ ap range_in alone.0 ∙ ap one_gate low ∙ ap (λ n. Some (from_to range.first n)) alone.1
      | inr pair ↦ ap range_in pair ∙ ap (λ o. two_gates o (gate_in (integer (pos range.last)))) low
          ∙ ap (λ o. two_gates (Some range.first) o) high ∙ ordered
    ]

-- what says a range is of the type of gates
says-gate : (d : Data) (range : GateRange) → SaysRange d range → is_gate d ≡ true
says-gate d range says = elim (says.written) [ inl alone ↦ ap is_gate alone.0 | inr pair ↦ ap is_gate pair ]

-- ---- the list

gates-say : (ds : List Data) → list_all (λ d. is_some (range_in d)) ds ≡ true → AllZip SaysRange ds (ranges_of ds)
gates-say [] all = tt
gates-say (d ∷ ds) all =
    let p = is_some-value (range_in d) (and_left _ _ all) in (
      range-says d (unwrap_or (range_in d) no_gate) (p.1 ∙ ap (λ o. Some (unwrap_or o no_gate)) (sym p.1)),
      gates-say ds (and_right (is_some (range_in d)) _ all),
    )

record AreRanges (ds : List Data) (gates : List GateRange) : Type 0 where
  pub ranges : list_all (λ d. is_some (range_in d)) ds ≡ true
  pub types : list_all is_gate ds ≡ true
  pub same : gates ≡ ranges_of ds

say-gates : (ds : List Data) (gates : List GateRange) → AllZip SaysRange ds gates → AreRanges ds gates
say-gates [] [] says = record { ranges = refl; types = refl; same = refl }
say-gates [] (g ∷ gs) says = absurd says
say-gates (d ∷ ds) [] says = absurd says
say-gates (d ∷ ds) (g ∷ gs) (here, rest) =
    let e = says-range d g here in
    let more = say-gates ds gs rest in
    record {
      ranges = and_both _ _ (ap is_some e) more.ranges;
      types = and_both _ _ (says-gate d g here) more.types;
      same = ap (λ r. r ∷ gs) (sym (ap (λ o. unwrap_or o no_gate) e))
          ∙ ap (λ rs. unwrap_or (range_in d) no_gate ∷ rs) more.same;
    }

enough : (needed : Bool) (n : ℕ) → has_enough needed n ≡ true → needed ≡ true → 1 ≤ n
enough true n e is = omega (arith, ltb-true 0 n e)
enough false n e is = cc

has-enough : (needed : Bool) (n : ℕ) → (needed ≡ true → 1 ≤ n) → has_enough needed n ≡ true
has-enough true n h = lt-ltb 0 n (omega (arith, h refl))
has-enough false n h = refl

pub gates-right : (needed : Bool) (earlier : List Data) (v : Option Data) → problem_of Gates needed earlier v ≡ None
    → SaysGates v (ranges_of (items_in v))
gates-right needed earlier None none = refl
gates-right needed earlier (Some (array ds)) none =
    let r = right Gates needed earlier (array ds) none in
    gates-say (elements_of ds) (and_right (has_enough needed (length (elements_of ds))) _ r.range_is)
gates-right needed earlier (Some d) none = cc

pub gates-enough : (needed : Bool) (earlier : List Data) (v : Option Data) → problem_of Gates needed earlier v ≡ None
    → needed ≡ true → 1 ≤ length (ranges_of (items_in v))
gates-enough needed earlier None none is = let e = absent Gates needed earlier none in cc
gates-enough needed earlier (Some (array ds)) none is =
    let r = right Gates needed earlier (array ds) none in
    let n = enough needed (length (elements_of ds)) (and_left _ _ r.range_is) is in
    omega (arith, n, length-map (elements_of ds) (λ d. unwrap_or (range_in d) no_gate))
gates-enough needed earlier (Some d) none is = cc

pub right-gates : (needed : Bool) (earlier : List Data) (v : Option Data) (gates : List GateRange) → SaysGates v gates
    → (needed ≡ true → 1 ≤ length gates) → problem_of Gates needed earlier v ≡ None
right-gates true earlier None gates says some = absurd (omega (arith, some refl, ap length says))
right-gates false earlier None gates says some = refl
right-gates needed earlier (Some (array ds)) gates says some =
    let are = say-gates (elements_of ds) gates says in
    right-none Gates needed earlier (array ds) (record {
      type_is = are.types;
      range_is = and_both _ _ (has-enough needed (length (elements_of ds))
          (λ is. omega (
            arith,
            some is,
            ap length are.same,
            length-map (elements_of ds) (λ d. unwrap_or (range_in d) no_gate),
          ))) are.ranges;
      new_is = refl;
    })
right-gates needed earlier (Some d) gates says some = absurd says

pub gates-same : (v : Option Data) (gates : List GateRange) → SaysGates v gates → gates ≡ ranges_of (items_in v)
gates-same None gates says = says
gates-same (Some (array ds)) gates says = (say-gates (elements_of ds) gates says).same
gates-same (Some d) gates says = absurd says
