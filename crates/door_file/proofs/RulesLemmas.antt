-- The first fault of the rules of a list, rule by rule. The rule at i counts as the n-th.
use Rattle.std.proofs.Common.{◌≡◌, ℕ, ◌+◌, ◌<◌, ◌++◌, List, [], ◌∷◌, take, drop, length, get_or, map}
use Rattle.std.proofs.Common.{Some, ap, sym, ◌∙◌}
use Rattle.std.proofs.lemmas.List.{drop_more, take_more, map-append}
use Rattle.toml.specs.View.{view}
use Rattle.toml.specs.declared.value.Value.{Value}
use Rattle.toml_reading.specs.First.{first}
use Rattle.toml_reading.proofs.FirstLemmas.{append-some}
use Rattle.door_file.specs.Faults.{rule_faults, rules_faults}
use Rattle.door_file.specs.declared.fault.DoorFault.{DoorFault}

-- the tree's rules before the next one
before_next : (rules : List Value) (i : ℕ) (v : Value) → i < length rules → v ≡ get_or rules i v
    → map view (take i rules) ++ view v ∷ [] ≡ map view (take (i + 1) rules)
before_next rules i v within here = sym
    (ap (map view) (take_more rules i v within) ∙ map-append view (take i rules) (get_or rules i v ∷ [])
    ∙ ap (λ w. map view (take i rules) ++ view w ∷ []) (sym here))

module _ (n : ℕ) (rules : List Value) (i : ℕ) (v : Value) (within : i < length rules)
    (here : v ≡ get_or rules i v) where
  -- the rules that are left, as the rule at i and those after it
  left : first (rules_faults n (map view (take i rules)) (map view (drop i rules)))
      ≡ first (rule_faults n (map view (take i rules)) (view v)
      ++ rules_faults (n + 1) (map view (take (i + 1) rules)) (map view (drop (i + 1) rules)))
  left =
      ap (λ vs. first (rules_faults n (map view (take i rules)) (map view vs))) (drop_more rules i v within)
      ∙ ap (λ w. first (rule_faults n (map view (take i rules)) (view w)
      ++ rules_faults (n + 1) (map view (take i rules) ++ view w ∷ []) (map view (drop (i + 1) rules)))) (sym here)
      ∙ ap (λ seen. first (rule_faults n (map view (take i rules)) (view v)
      ++ rules_faults (n + 1) seen (map view (drop (i + 1) rules)))) (before_next rules i v within here)

  -- the first is that of the rule at i
  pub rules-found : (fault : DoorFault) → first (rule_faults n (map view (take i rules)) (view v)) ≡ Some fault
      → first (rules_faults n (map view (take i rules)) (map view (drop i rules))) ≡ Some fault
  rules-found fault some = left ∙ append-some _ _ fault some

  -- the same after rules that are those before i
  pub rules-found-after : (fault : DoorFault) (seen : List Value) → seen ≡ take i rules
      → first (rule_faults n (map view seen) (view v)) ≡ Some fault
      → first (rules_faults n (map view (take i rules)) (map view (drop i rules))) ≡ Some fault
  rules-found-after fault seen same some =
      rules-found fault (ap (λ vs. first (rule_faults n (map view vs) (view v))) (sym same) ∙ some)
