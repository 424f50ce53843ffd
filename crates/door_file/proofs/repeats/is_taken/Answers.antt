use Rattle.std.proofs.Common.{◌≡◌, rules, tests, sym, ◌∙◌}
use Rattle.std.specs.List.{list_any}
use Rattle.std.specs.Str.{bytes_eq}
use Rattle.std.proofs.lemmas.Iterator.{YieldsList-from_slice}
use Rattle.std.proofs.lemmas.Iterator.Search.{any_from_yields_List}
use Rattle.toml.specs.View.{view}
use Rattle.toml_reading.proofs.TestLemmas.{list_any-map}
use Rattle.door_file.specs.Tree.{name_in}
use Rattle.door_file.proofs.repeats.is_taken.Goals as goal

pub returns : goal.returns
returns c =
    let e : c.any.result ≡ list_any (λ rule. bytes_eq c.args.name.now (name_in (view rule))) (c.args.rules.now) =
    any_from_yields_List (λ rule. bytes_eq c.args.name.now (name_in (view rule))) _ _ c.any.result c.any.ensures.ran
    (YieldsList-from_slice (c.args.rules.now) cc) (λ x b q k. search (rules, tests)) in
    e ∙ sym (list_any-map (λ row. bytes_eq c.args.name.now (name_in row)) view c.args.rules.now)
