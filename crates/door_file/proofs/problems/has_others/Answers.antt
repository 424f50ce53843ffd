use Rattle.std.proofs.Common.{◌≡◌, not, rules, tests, sym, ◌∙◌}
use Rattle.std.specs.List.{list_any}
use Rattle.std.proofs.lemmas.Iterator.{YieldsList-from_slice}
use Rattle.std.proofs.lemmas.Iterator.Search.{any_from_yields_List}
use Rattle.toml.specs.View.{view}
use Rattle.toml_reading.proofs.TestLemmas.{list_any-map}
use Rattle.door_file.specs.Tree.{is_kind}
use Rattle.door_file.specs.declared.kind.Kind.TheVariants.{Enquire}
use Rattle.door_file.proofs.problems.has_others.Goals as goal

pub returns : goal.returns
returns c =
    let e : c.any.result ≡ list_any (λ kind. not (is_kind Enquire (view kind))) (c.args.kinds.now) =
    any_from_yields_List (λ kind. not (is_kind Enquire (view kind))) _ _ c.any.result c.any.ensures.ran
    (YieldsList-from_slice (c.args.kinds.now) cc) (λ x b q k. search (rules, tests)) in
    e ∙ sym (list_any-map (λ d. not (is_kind Enquire d)) view c.args.kinds.now)
