use Rattle.std.proofs.Common.{◌≡◌, rules, tests, sym, ◌∙◌}
use Rattle.std.specs.List.{list_any}
use Rattle.std.proofs.lemmas.Iterator.{YieldsList-from_slice}
use Rattle.std.proofs.lemmas.Iterator.Search.{any_from_yields_List}
use Rattle.toml.specs.View.{view}
use Rattle.toml_reading.proofs.TestLemmas.{list_any-map}
use Rattle.door_file.specs.Tree.{is_kind}
use Rattle.door_file.proofs.reading.has_kind.Goals as goal

pub returns : goal.returns
returns c =
    let e : c.any.result ≡ list_any (λ item. is_kind c.args.kind (view item)) (c.args.items.now) =
    any_from_yields_List (λ item. is_kind c.args.kind (view item)) _ _ c.any.result c.any.ensures.ran
    (YieldsList-from_slice (c.args.items.now) cc) (λ x b q k. search (rules, tests)) in
    e ∙ sym (list_any-map (is_kind c.args.kind) view c.args.items.now)
