-- The kinds and the name of a rule, as the checks and the reader see them, beside what the keys say.
use Rattle.std.proofs.Common.{◌≡◌, ℕ, ◌≤◌, Bool, true, false, is_some, nat_lt, nat_le}
use Rattle.std.proofs.Common.{List, [], ◌∷◌, length, Option, Some, None, refl, ap, ◌∙◌, arith, inl, inr}
use Rattle.std.specs.Prelude.{count_by}
use Rattle.std.specs.List.{list_all, list_any, All}
use Rattle.std.specs.Str.{bytes_eq}
use Rattle.std.proofs.lemmas.Bool.{cases_Bool, leb-true, le-leb, ltb-false, ltb-true, lt-ltb, le-ltb}
use Rattle.std.proofs.lemmas.List.Elements.{All-nil, All-cons, All-head, All-tail}
use Rattle.std.proofs.lemmas.Slice.Eq.{bytes_eq-Decides}
use Rattle.toml.specs.Data.{Data, string, array, as_str}
use Rattle.station_limits.specs.declared.limits.TheConstants.{CERTIFICATE_NAME_LIMIT}
use Rattle.door_clerk.specs.declared.rule.Kinds.{Kinds as KindsValue}
use Rattle.toml_reading.specs.Tree.{elements_of, items_in, text_in}
use Rattle.toml_reading.proofs.TestLemmas.{and_left, and_right, and_both, either-false, neither}
use Rattle.door_file.specs.Keys.{word_of, all_kinds}
use Rattle.door_file.specs.Tree.{is_kind}
use Rattle.door_file.specs.Faults.{has_enough, is_known, has_twice, is_taken, problem_of}
use Rattle.door_file.specs.Content.{kinds_of}
use Rattle.door_file.specs.Meaning.{SaysKinds}
use Rattle.door_file.specs.declared.key.Shape.TheVariants.{Kinds, Name}
use Rattle.door_file.specs.declared.kind.Kind.{Kind}
use Rattle.door_file.specs.declared.kind.Kind.TheVariants as kind
use Rattle.door_file.proofs.NumberLemmas.{right, right-none}

-- ---- tests of each item

all-from : {X : Type 0} (p : X → Bool) (P : X → Type 0) → ((x : X) → p x ≡ true → P x) → (xs : List X)
    → list_all p xs ≡ true → All P xs
all-from p P f [] all = All-nil P
all-from p P f (x ∷ xs) all =
    All-cons P x xs (f x (and_left _ _ all)) (all-from p P f xs (and_right (p x) _ all))

from-all : {X : Type 0} (p : X → Bool) (P : X → Type 0) → ((x : X) → P x → p x ≡ true) → (xs : List X)
    → All P xs → list_all p xs ≡ true
from-all p P f [] all = refl
from-all p P f (x ∷ xs) all =
    and_both _ _ (f x (All-head P x xs all)) (from-all p P f xs (All-tail P x xs all))

-- ---- words

abbrev IsWord : Data → Type 0
IsWord d = (kind : Kind) × (d ≡ string (word_of kind))

word-found : (s : List ℕ) (kinds : List Kind) → list_any (λ k. is_kind k (string s)) kinds ≡ true → IsWord (string s)
word-found s [] e = cc
word-found s (k ∷ ks) e =
    elim (cases_Bool (bytes_eq s (word_of k))) [
      | inl same ↦ (k, ap string ((bytes_eq-Decides s (word_of k)).0 same))
      | inr other ↦ word-found s ks (rw other at e)
    ]

known-word : (d : Data) → is_known d ≡ true → IsWord d
known-word (string s) e = word-found s all_kinds e
known-word d e = cc

word-known : (d : Data) → IsWord d → is_known d ≡ true
word-known d (kind.Enter, e) = ap is_known e
word-known d (kind.Leave, e) = ap is_known e
word-known d (kind.TopUp, e) = ap is_known e
word-known d (kind.Issue, e) = ap is_known e
word-known d (kind.Revise, e) = ap is_known e
word-known d (kind.Enquire, e) = ap is_known e

word-text : (d : Data) → IsWord d → is_some (as_str d) ≡ true
word-text d (k, e) = ap (λ x. is_some (as_str x)) e

-- ---- none twice

abbrev count : List Data → Kind → ℕ
count ds k = count_by (is_kind k) ds

once : (ds : List Data) → has_twice ds ≡ false → (k : Kind) → count ds k ≤ 1
once ds e k =
    let a = either-false (nat_lt 1 (count ds kind.Enter)) _ e in
    let b = either-false (nat_lt 1 (count ds kind.Leave)) _ a.1 in
    let c = either-false (nat_lt 1 (count ds kind.TopUp)) _ b.1 in
    let d = either-false (nat_lt 1 (count ds kind.Issue)) _ c.1 in
    let f = either-false (nat_lt 1 (count ds kind.Revise)) _ d.1 in
    let g = either-false (nat_lt 1 (count ds kind.Enquire)) _ f.1 in
    elim k as (λ x. count ds x ≤ 1) [
      | kind.Enter ↦ ltb-false 1 _ a.0
      | kind.Leave ↦ ltb-false 1 _ b.0
      | kind.TopUp ↦ ltb-false 1 _ c.0
      | kind.Issue ↦ ltb-false 1 _ d.0
      | kind.Revise ↦ ltb-false 1 _ f.0
      | kind.Enquire ↦ ltb-false 1 _ g.0
    ]

never-twice : (ds : List Data) → ((k : Kind) → count ds k ≤ 1) → has_twice ds ≡ false
never-twice ds h =
    neither _ _ (le-ltb 1 _ (h kind.Enter)) (neither _ _ (le-ltb 1 _ (h kind.Leave))
    (neither _ _ (le-ltb 1 _ (h kind.TopUp)) (neither _ _ (le-ltb 1 _ (h kind.Issue))
    (neither _ _ (le-ltb 1 _ (h kind.Revise)) (neither _ _ (le-ltb 1 _ (h kind.Enquire)) refl)))))

-- ---- the list

pub kinds-right : (earlier : List Data) (v : Option Data) → problem_of Kinds true earlier v ≡ None
    → SaysKinds v (kinds_of (items_in v))
kinds-right earlier None none = cc
kinds-right earlier (Some (array ds)) none =
    let r = right Kinds true earlier (array ds) none in
    record {
      some = omega (arith, ltb-true 0 (length (elements_of ds)) (and_left _ _ r.range_is));
      words = all-from is_known IsWord known-word (elements_of ds)
          (and_right (has_enough true (length (elements_of ds))) _ r.range_is);
      once = once (elements_of ds) r.new_is;
      said = refl;
    }
kinds-right earlier (Some d) none = cc

pub right-kinds : (earlier : List Data) (v : Option Data) (kinds : KindsValue) → SaysKinds v kinds
    → problem_of Kinds true earlier v ≡ None
right-kinds earlier None kinds says = absurd says
right-kinds earlier (Some (array ds)) kinds says =
    right-none Kinds true earlier (array ds) (record {
      type_is = from-all (λ d. is_some (as_str d)) IsWord word-text (elements_of ds) says.words;
      range_is = and_both _ _ (lt-ltb 0 (length (elements_of ds)) (omega (arith, says.some)))
          (from-all is_known IsWord word-known (elements_of ds) says.words);
      new_is = never-twice (elements_of ds) says.once;
    })
right-kinds earlier (Some d) kinds says = absurd says

pub kinds-same : (v : Option Data) (kinds : KindsValue) → SaysKinds v kinds → kinds ≡ kinds_of (items_in v)
kinds-same None kinds says = absurd says
kinds-same (Some (array ds)) kinds says = says.said
kinds-same (Some d) kinds says = absurd says

-- ---- the name

pub record IsNamed (earlier : List Data) (v : Option Data) (name : List ℕ) : Type 0 where
  pub value : v ≡ Some (string name)
  pub least : 1 ≤ length name
  pub most : length name ≤ CERTIFICATE_NAME_LIMIT
  pub new : is_taken name earlier ≡ false

pub name-right : (earlier : List Data) (v : Option Data) → problem_of Name true earlier v ≡ None
    → IsNamed earlier v (text_in v)
name-right earlier None none = cc
name-right earlier (Some (string s)) none =
    let r = right Name true earlier (string s) none in
    record {
      value = refl;
      least = leb-true 1 (length s) (and_left _ _ r.range_is);
      most = leb-true (length s) CERTIFICATE_NAME_LIMIT (and_right (nat_le 1 (length s)) _ r.range_is);
      new = r.new_is;
    }
name-right earlier (Some d) none = cc

pub right-name : (earlier : List Data) (v : Option Data) (name : List ℕ) → IsNamed earlier v name
    → problem_of Name true earlier v ≡ None
right-name earlier v name named =
    ap (problem_of Name true earlier) named.value
    ∙ right-none Name true earlier (string name) (record {
      type_is = refl;
      range_is = and_both _ _ (le-leb 1 (length name) named.least)
          (le-leb (length name) CERTIFICATE_NAME_LIMIT named.most);
      new_is = named.new;
    })
