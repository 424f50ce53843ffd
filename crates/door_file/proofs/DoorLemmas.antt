-- A text has no fault exactly when it means a door, and that is the door that is read.
use Rattle.std.proofs.Common.{◌≡◌, ◌≢◌, ℕ, zero, suc, ◌+◌, ◌≤◌, ◌++◌, Bool, true, false, if◌then◌else◌}
use Rattle.std.proofs.Common.{List, [], ◌∷◌, length, map, get_or, Option, Some, None, nat_le, nat_lt}
use Rattle.std.proofs.Common.{refl, ap, sym, ◌∙◌, subst, arith, inl, inr}
use Rattle.std.specs.List.{All, AllZip, AllPairs}
use Rattle.std.specs.Str.{bytes_eq}
use Rattle.std.proofs.lemmas.Bool.{cases_Bool, leb-true, le-leb, ltb-false, le-ltb}
use Rattle.std.proofs.lemmas.List.{length-map}
use Rattle.std.proofs.lemmas.List.Elements.{All-nil, All-cons, All-head, All-tail}
use Rattle.std.proofs.lemmas.List.Kept.{AllPairs-cons}
use Rattle.std.proofs.lemmas.Slice.Eq.{bytes_eq-Decides}
use Rattle.toml.specs.Data.{Data, array, table, Members}
use Rattle.toml.specs.Parse.{parse_document}
use Rattle.toml_reading.specs.First.{first}
use Rattle.toml_reading.specs.Tree.{elements_of, items_in}
use Rattle.toml_reading.proofs.FirstLemmas.{first_none, last_none, both-none, cons-none, some-none}
use Rattle.toml_reading.proofs.TestLemmas.{and_left, and_right, and_both, any-push, push-any}
use Rattle.door_file.specs.Keys.{file_keys}
use Rattle.door_file.specs.Rule.{Entry}
use Rattle.door_file.specs.Tree.{value_at, name_in}
use Rattle.door_file.specs.Faults.{is_taken, problem_of, key_fault, keys_faults}
use Rattle.door_file.specs.Faults.{table_faults, rule_faults, rules_faults, faults, fault_of_tree, first_fault}
use Rattle.door_file.specs.Content.{entry_in, entries_in}
use Rattle.door_file.specs.Meaning.{SaysEntry, SaysRules, SaysDoor, MeansDoor}
use Rattle.door_file.specs.declared.door.TheConstants.{MOST_BYTES}
use Rattle.door_file.specs.declared.fault.DoorFault.TheVariants.{TooLong}
use Rattle.door_file.specs.declared.key.Key.TheVariants as key
use Rattle.door_file.specs.declared.key.Shape.TheVariants.{Rules}
use Rattle.door_file.specs.declared.key.TheConstants.{MOST_RULES}
use Rattle.door_file.proofs.NumberLemmas.{right, right-none}
use Rattle.door_file.proofs.RuleLemmas.{only-known, known-only, key-none, fault-none}
use Rattle.door_file.proofs.RuleLemmas.{rule-named, rule-says, rule-name, rule-none, rule-same}

-- ---- names

abbrev Differ : Entry → Entry → Type 0
Differ earlier later = later.name ≢ earlier.name

abbrev IsNew : List Data → Entry → Type 0
IsNew earlier entry = is_taken entry.name earlier ≡ false

unlike : (a b : List ℕ) → bytes_eq a b ≡ false → a ≢ b
unlike a b e same = let t = (bytes_eq-Decides a b).1 same in cc

differ : (a b : List ℕ) → a ≢ b → bytes_eq a b ≡ false
differ a b other = elim (cases_Bool (bytes_eq a b)) [
  | inl same ↦ absurd (other ((bytes_eq-Decides a b).0 same))
  | inr e ↦ e
]

-- ---- rules

record AreRules (earlier : List Data) (ds : List Data) : Type 0 where
  pub says : AllZip SaysEntry ds (map entry_in ds)
  pub new : All (IsNew earlier) (map entry_in ds)
  pub apart : AllPairs Differ (map entry_in ds)

entry-says : (number : ℕ) (earlier : List Data) (d : Data) → first (rule_faults number earlier d) ≡ None
    → SaysEntry d (entry_in d) × IsNew earlier (entry_in d)
entry-says number earlier (table ms) e =
    (rule-says number earlier ms e, (rule-named number earlier ms e).new)
entry-says number earlier d e = cc

rules-say : (number : ℕ) (earlier : List Data) (ds : List Data) → first (rules_faults number earlier ds) ≡ None
    → AreRules earlier ds
rules-say number earlier [] e = record {
  says = tt;
  new = All-nil (IsNew earlier);
  apart = λ i j d lt within. absurd (omega (arith, within));
}
rules-say number earlier (d ∷ ds) e =
    let here = entry-says number earlier d (first_none (rule_faults number earlier d) _ e) in
    let rest = rules-say (number + 1) (earlier ++ d ∷ []) ds (last_none (rule_faults number earlier d) _ e) in
    let old : All (IsNew earlier) (map entry_in ds) =
    λ k f within. (any-push (λ row. bytes_eq (get_or (map entry_in ds) k f).name (name_in row)) earlier d
    (rest.new k f within)).0 in
    let apart : All (Differ (entry_in d)) (map entry_in ds) =
    λ k f within. unlike (get_or (map entry_in ds) k f).name (name_in d)
    (any-push (λ row. bytes_eq (get_or (map entry_in ds) k f).name (name_in row)) earlier d
    (rest.new k f within)).1 in
    record {
      says = (here.0, rest.says);
      new = All-cons (IsNew earlier) (entry_in d) (map entry_in ds) here.1 old;
      apart = AllPairs-cons Differ (entry_in d) (map entry_in ds) apart rest.apart;
    }

entry-named : (d : Data) (entry : Entry) → SaysEntry d entry → entry.name ≡ name_in d
entry-named (table ms) entry says = rule-name 0 [] ms entry says
entry-named d entry says = absurd says

entry-none : (number : ℕ) (earlier : List Data) (d : Data) (entry : Entry) → SaysEntry d entry → IsNew earlier entry
    → first (rule_faults number earlier d) ≡ None
entry-none number earlier (table ms) entry says new = rule-none number earlier ms entry says new
entry-none number earlier d entry says new = absurd says

entry-same : (d : Data) (entry : Entry) → SaysEntry d entry → entry ≡ entry_in d
entry-same (table ms) entry says = rule-same 0 [] ms entry says
entry-same d entry says = absurd says

say-rules : (number : ℕ) (earlier : List Data) (ds : List Data) (es : List Entry) → AllZip SaysEntry ds es
    → All (IsNew earlier) es → AllPairs Differ es → first (rules_faults number earlier ds) ≡ None
say-rules number earlier [] es says new apart = refl
say-rules number earlier (d ∷ ds) [] says new apart = absurd says
say-rules number earlier (d ∷ ds) (entry ∷ es) (here, rest) new apart =
    let named = entry-named d entry here in
    let later : All (IsNew (earlier ++ d ∷ [])) es =
    λ k f within. push-any (λ row. bytes_eq (get_or es k f).name (name_in row)) earlier d
    (All-tail (IsNew earlier) entry es new k f within)
    (differ (get_or es k f).name (name_in d)
    (λ same. apart zero (suc k) f (omega arith) (omega (arith, within)) (same ∙ sym named))) in
    let pairs : AllPairs Differ es = λ i j f lt within. apart (suc i) (suc j) f (omega (arith, lt))
    (omega (arith, within)) in
    both-none (rule_faults number earlier d) (rules_faults (number + 1) (earlier ++ d ∷ []) ds)
    (entry-none number earlier d entry here (All-head (IsNew earlier) entry es new))
    (say-rules (number + 1) (earlier ++ d ∷ []) ds es rest later pairs)

same-rules : (ds : List Data) (es : List Entry) → AllZip SaysEntry ds es → es ≡ map entry_in ds
same-rules [] [] says = refl
same-rules [] (e ∷ es) says = absurd says
same-rules (d ∷ ds) [] says = absurd says
same-rules (d ∷ ds) (e ∷ es) (here, rest) =
    ap (λ x. x ∷ es) (entry-same d e here) ∙ ap (λ xs. entry_in d ∷ xs) (same-rules ds es rest)

-- ---- the list at the key

record IsList (v : Option Data) (entries : List Entry) : Type 0 where
  pub rules : SaysRules v entries
  pub least : 1 ≤ length entries
  pub most : length entries ≤ MOST_RULES
  pub names : AllPairs Differ entries

list-says : (v : Option Data) → problem_of Rules true [] v ≡ None → first (rules_faults 1 [] (items_in v)) ≡ None
    → IsList v (map entry_in (items_in v))
list-says None none e = cc
list-says (Some (array ds)) none e =
    let r = right Rules true [] (array ds) none in
    let are = rules-say 1 [] (elements_of ds) e in
    let count = length-map (elements_of ds) entry_in in
    record {
      rules = are.says;
      least = omega (arith, leb-true 1 (length (elements_of ds)) (and_left _ _ r.range_is), count);
      most = omega (
        arith,
        leb-true (length (elements_of ds)) MOST_RULES
            (and_right (nat_le 1 (length (elements_of ds))) _ r.range_is),
        count,
      );
      names = are.apart;
    }
list-says (Some d) none e = cc

list-none : (v : Option Data) (entries : List Entry) → IsList v entries
    → (problem_of Rules true [] v ≡ None) × (first (rules_faults 1 [] (items_in v)) ≡ None)
    × (entries ≡ map entry_in (items_in v))
list-none None entries is = absurd is.rules
list-none (Some (array ds)) entries is =
    let same = same-rules (elements_of ds) entries is.rules in
    let count = ap length same ∙ length-map (elements_of ds) entry_in in (
      right-none Rules true [] (array ds) (record {
        type_is = refl;
        range_is = and_both _ _ (le-leb 1 (length (elements_of ds)) (omega (arith, is.least, count)))
            (le-leb (length (elements_of ds)) MOST_RULES (omega (arith, is.most, count)));
        new_is = refl;
      }),
      say-rules 1 [] (elements_of ds) entries is.rules (λ k d within. refl) is.names,
      same,
    )
list-none (Some d) entries is = absurd is.rules

-- ---- a tree

pub tree-says : (ms : Members) → first (faults ms) ≡ None → SaysDoor ms (entries_in ms)
tree-says ms e =
    let top = first_none (table_faults 0 [] ms file_keys) _ e in
    let here = some-none (key_fault 0 [] ms key.Rule) [] (first_none (keys_faults 0 [] ms file_keys) _ top) in
    let is = list-says (value_at key.Rule ms) (key-none 0 [] ms key.Rule here.0)
    (last_none (table_faults 0 [] ms file_keys) _ e) in
    record {
      rules = is.rules;
      least = is.least;
      most = is.most;
      names = is.names;
      only = only-known 0 ms file_keys (last_none (keys_faults 0 [] ms file_keys) _ top);
    }

abbrev list_of : (ms : Members) (entries : List Entry) → SaysDoor ms entries → IsList (value_at key.Rule ms) entries
list_of ms entries says = record {
  rules = says.rules;
  least = says.least;
  most = says.most;
  names = says.names;
}

pub says-none : (ms : Members) (entries : List Entry) → SaysDoor ms entries → first (faults ms) ≡ None
says-none ms entries says =
    let are = list-none (value_at key.Rule ms) entries (list_of ms entries says) in
    both-none (table_faults 0 [] ms file_keys) _
    (both-none (keys_faults 0 [] ms file_keys) _
    (cons-none (key_fault 0 [] ms key.Rule) [] (fault-none 0 [] ms key.Rule are.0) refl)
    (known-only 0 ms file_keys says.only))
    are.1

pub says-same : (ms : Members) (entries : List Entry) → SaysDoor ms entries → entries ≡ entries_in ms
says-same ms entries says = (list-none (value_at key.Rule ms) entries (list_of ms entries says)).2

-- ---- a text

size-within : {X : Type 0} (b : Bool) (x : X) (o : Option X) → (if b then Some x else o) ≡ None
    → (b ≡ false) × (o ≡ None)
size-within true x o e = cc
size-within false x o e = (refl, e)

-- a text of a tree without a fault, and not too long, means the door of its tree
pub door-means : (text : List ℕ) (ms : Members) (entries : List Entry) → length text ≤ MOST_BYTES
    → parse_document text ≡ Some ms → first (faults ms) ≡ None → entries ≡ entries_in ms → MeansDoor text entries
door-means text ms entries size parsed none same = record {
  size = size;
  tree = ms;
  parsed = parsed;
  says = subst (SaysDoor ms) (sym same) (tree-says ms none);
}

text-means : (text : List ℕ) (ms : Members) → parse_document text ≡ Some ms → first_fault text ≡ None
    → MeansDoor text (entries_in ms)
text-means text ms parsed e =
    let p = size-within (nat_lt MOST_BYTES (length text)) TooLong (fault_of_tree (parse_document text)) e in
    record {
      size = ltb-false MOST_BYTES (length text) p.0;
      tree = ms;
      parsed = parsed;
      says = tree-says ms (sym (ap fault_of_tree parsed) ∙ p.1);
    }

-- a text that means a door has no fault
pub means-none : (text : List ℕ) (entries : List Entry) → MeansDoor text entries → first_fault text ≡ None
means-none text entries means =
    rw (le-ltb MOST_BYTES (length text) means.size)
    (ap fault_of_tree means.parsed ∙ says-none means.tree entries means.says)

some-tree : (text : List ℕ) (tree : Option Members) → parse_document text ≡ tree → fault_of_tree tree ≡ None
    → (ms : Members) × (parse_document text ≡ Some ms)
some-tree text None parsed e = cc
some-tree text (Some ms) parsed e = (ms, parsed)

-- a text without a fault means a door
pub none-means : (text : List ℕ) → first_fault text ≡ None → (entries : List Entry) × MeansDoor text entries
none-means text e =
    let p = size-within (nat_lt MOST_BYTES (length text)) TooLong (fault_of_tree (parse_document text)) e in
    let tree = some-tree text (parse_document text) refl p.1 in
    (entries_in tree.0, text-means text tree.0 tree.1 e)

same_some : {X : Type 0} (x y : X) → Some x ≡ Some y → x ≡ y
same_some x y e = cc

-- a text means one door at most
pub means-same : (text : List ℕ) (es fs : List Entry) → MeansDoor text es → MeansDoor text fs → es ≡ fs
means-same text es fs one other =
    says-same one.tree es one.says
    ∙ ap entries_in (same_some one.tree other.tree (sym one.parsed ∙ other.parsed))
    ∙ sym (says-same other.tree fs other.says)
