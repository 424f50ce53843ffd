use Rattle.std.proofs.Common.{ap, sym, ◌∙◌, option_map, string_bytes, Some}
use Rattle.door_file.specs.declared.fault.DoorFault.TheVariants.{UnknownKey}
use Rattle.door_file.proofs.UnknownLemmas.{first-unknown}
use Rattle.door_file.proofs.problems.refuse_unknown.Goals as goal

pub returns-in_ok-name-in-Some-clause-fault : goal.returns-in_ok-name-in-Some-clause-fault
returns-in_ok-name-in-Some-clause-fault c = λ _.
    first-unknown c.args.rule c.args.keys.now c.args.table.now.entries
    ∙ ap (λ o. option_map (λ name. UnknownKey name c.args.rule) (option_map string_bytes o))
    (sym c.first_unknown.ensures)
    ∙ ap (λ o. option_map (λ name. UnknownKey name c.args.rule) (option_map string_bytes (option_map (λ x. x.now) o)))
    c.in-Some.is
    ∙ ap (λ name. Some (UnknownKey name c.args.rule)) (sym (c.in_ok-name-in-Some.ensures ∙ c.as_str.ensures.value))

pub returns-in-None-clause-no_fault : goal.returns-in-None-clause-no_fault
returns-in-None-clause-no_fault c =
    first-unknown c.args.rule c.args.keys.now c.args.table.now.entries
    ∙ ap (λ o. option_map (λ name. UnknownKey name c.args.rule) (option_map string_bytes o))
    (sym c.first_unknown.ensures)
    ∙ ap (λ o. option_map (λ name. UnknownKey name c.args.rule) (option_map string_bytes (option_map (λ x. x.now) o)))
    c.in-None.is
