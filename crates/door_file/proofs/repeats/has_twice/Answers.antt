use Rattle.std.proofs.Common.{◌≡◌, nat_lt, rules, tests, sym, ◌∙◌}
use Rattle.std.specs.Prelude.{count_by}
use Rattle.std.specs.List.{list_any}
use Rattle.std.proofs.lemmas.Iterator.{YieldsList-from_slice}
use Rattle.std.proofs.lemmas.Iterator.Search.{any_from_yields_List}
use Rattle.toml.specs.View.{view}
use Rattle.door_file.specs.Keys.{all_kinds}
use Rattle.door_file.specs.Tree.{is_kind}
use Rattle.door_file.proofs.TreeLemmas.{has_twice-view}
use Rattle.door_file.proofs.repeats.has_twice.Goals as goal

pub returns : goal.returns
returns c =
    let e : c.any.result
    ≡ list_any (λ kind. nat_lt 1 (count_by (λ item. is_kind kind (view item)) c.args.items.now)) (all_kinds) =
    any_from_yields_List (λ kind. nat_lt 1 (count_by (λ item. is_kind kind (view item)) c.args.items.now)) _ _
    c.any.result c.any.ensures.ran
    (YieldsList-from_slice (all_kinds) cc) (λ x b q k. search (rules, tests)) in
    e ∙ sym (has_twice-view c.args.items.now)
