-- The items of a list of a tree, by what a key of a door's file may hold.
use Rattle.std.proofs.Common.{◌≡◌, ◌≢◌, ℕ, None, Bool, List, [], ◌∷◌, map, length, refl, ap, ◌∙◌}
use Rattle.std.proofs.Common.{Vec, Global, is_some, nat_lt, cond, sym, ◌+◌, ◌&&◌}
use Rattle.std.specs.Prelude.{count_by}
use Rattle.std.proofs.lemmas.List.{length-map}
use Rattle.std.proofs.lemmas.List.Sums.{sum_by-cons}
use Rattle.std.specs.List.{list_all, list_any}
use Rattle.toml.specs.Data.{Data, as_integer, as_str}
use Rattle.toml.specs.View.{view}
use Rattle.toml.specs.declared.value.Value.{Value, Array}
use Rattle.toml_reading.specs.Range.{are_whole, is_count}
use Rattle.toml_reading.proofs.TestLemmas.{list_all-map, list_any-map}
use Rattle.toml_reading.proofs.TreeLemmas.{elements_of-items_view, length-elements_of, array_of}
use Rattle.door_file.specs.Keys.{all_kinds}
use Rattle.door_file.specs.Tree.{ends_in, range_in, is_kind}
use Rattle.door_file.specs.Faults.{has_type, in_range, is_repeat, is_gate, has_enough}
use Rattle.door_file.specs.Faults.{is_known, has_twice}
use Rattle.door_file.specs.declared.key.Shape.TheVariants.{Rules, Gates, Kinds}
use Rattle.door_file.specs.declared.key.TheConstants.{MOST_RULES}

-- a list that hasn't two items is no range
pub ends_in-other : (ds : List Data) → length ds ≢ 2 → ends_in ds ≡ None
ends_in-other [] two = refl
ends_in-other (a ∷ []) two = refl
ends_in-other (a ∷ b ∷ []) two = absurd (two refl)
ends_in-other (a ∷ b ∷ c ∷ ds) two = refl

pub ruleset tree_facts = (length-elements_of, elements_of-items_view, list_all-map, list_any-map, ends_in-other)

-- the type of a list by its items
pub gates-array : (v : Value) (rows : Vec Value Global) → v ≡ Array rows
    → has_type Gates (view v) ≡ list_all (λ item. is_gate (view item)) rows.items
gates-array v rows is =
    ap (has_type Gates) (array_of v rows is) ∙ ap (list_all is_gate) (elements_of-items_view rows.items)
    ∙ list_all-map is_gate view rows.items

pub kinds-array : (v : Value) (rows : Vec Value Global) → v ≡ Array rows
    → has_type Kinds (view v) ≡ list_all (λ item. is_some (as_str (view item))) rows.items
kinds-array v rows is =
    ap (has_type Kinds) (array_of v rows is)
    ∙ ap (list_all (λ d. is_some (as_str d))) (elements_of-items_view rows.items)
    ∙ list_all-map (λ d. is_some (as_str d)) view rows.items

pub gate-array : (v : Value) (rows : Vec Value Global) → v ≡ Array rows
    → is_gate (view v) ≡ list_all (λ item. is_some (as_integer (view item))) rows.items
gate-array v rows is =
    ap is_gate (array_of v rows is) ∙ ap are_whole (elements_of-items_view rows.items)
    ∙ list_all-map (λ d. is_some (as_integer d)) view rows.items

-- the range of a list by its items
pub rules_range-array : (v : Value) (rows : Vec Value Global) (needed : Bool) (count : ℕ) → v ≡ Array rows
    → count ≡ length rows.items → in_range Rules needed (view v) ≡ is_count 1 MOST_RULES count
rules_range-array v rows needed count is counted =
    ap (in_range Rules needed) (array_of v rows is)
    ∙ ap (is_count 1 MOST_RULES) (length-elements_of rows.items ∙ sym counted)

pub gates_range-array : (v : Value) (rows : Vec Value Global) (needed : Bool) → v ≡ Array rows
    → in_range Gates needed (view v) ≡ (has_enough needed (length rows.items)
    && list_all (λ item. is_some (range_in (view item))) rows.items)
gates_range-array v rows needed is =
    ap (in_range Gates needed) (array_of v rows is)
    ∙ ap (λ ds. has_enough needed (length ds) && list_all (λ d. is_some (range_in d)) ds)
    (elements_of-items_view rows.items)
    ∙ ap (λ n. has_enough needed n && list_all (λ d. is_some (range_in d)) (map view rows.items))
    (length-map rows.items view)
    ∙ ap (λ b. has_enough needed (length rows.items) && b) (list_all-map (λ d. is_some (range_in d)) view rows.items)

pub kinds_range-array : (v : Value) (rows : Vec Value Global) (needed : Bool) → v ≡ Array rows
    → in_range Kinds needed (view v) ≡ (has_enough needed (length rows.items)
    && list_all (λ item. is_known (view item)) rows.items)
kinds_range-array v rows needed is =
    ap (in_range Kinds needed) (array_of v rows is)
    ∙ ap (λ ds. has_enough needed (length ds) && list_all is_known ds) (elements_of-items_view rows.items)
    ∙ ap (λ n. has_enough needed n && list_all is_known (map view rows.items)) (length-map rows.items view)
    ∙ ap (λ b. has_enough needed (length rows.items) && b) (list_all-map is_known view rows.items)

-- kinds that are given twice, and a name that is taken
pub repeat-array : (v : Value) (rows : Vec Value Global) (earlier : List Data) → v ≡ Array rows
    → is_repeat Kinds earlier (view v) ≡ has_twice (map view rows.items)
repeat-array v rows earlier is =
    ap (is_repeat Kinds earlier) (array_of v rows is) ∙ ap has_twice (elements_of-items_view rows.items)

count-map : {X Y : Type 0} (p : Y → Bool) (f : X → Y) (xs : List X) → count_by p (map f xs) ≡ count_by (λ x. p (f x)) xs
count-map p f [] = refl
count-map p f (x ∷ xs) =
    sum_by-cons (λ y. cond (p y) 1 0) (f x) (map f xs) ∙ ap (λ n. cond (p (f x)) 1 0 + n) (count-map p f xs)
    ∙ sym (sum_by-cons (λ z. cond (p (f z)) 1 0) x xs)

any-agree : {X : Type 0} (p q : X → Bool) → ((x : X) → p x ≡ q x) → (xs : List X) → list_any p xs ≡ list_any q xs
any-agree p q same [] = refl
any-agree p q same (x ∷ xs) = rw (same x, any-agree p q same xs) refl

pub has_twice-view : (vs : List Value) → has_twice (map view vs)
    ≡ list_any (λ k. nat_lt 1 (count_by (λ v. is_kind k (view v)) vs)) all_kinds
has_twice-view vs = any-agree (λ k. nat_lt 1 (count_by (is_kind k) (map view vs)))
    (λ k. nat_lt 1 (count_by (λ v. is_kind k (view v)) vs))
    (λ k. ap (nat_lt 1) (count-map (is_kind k) view vs)) all_kinds
