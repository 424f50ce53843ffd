use Rattle.std.proofs.Common.{Some, option_map, rules}
use Rattle.door_file.specs.Door.{rules_of}
use Rattle.door_file.proofs.PlaceLemmas.{is-place-for}
use Rattle.door_file.proofs.door.Door.place_for.Goals as goal

pub returns-in-Some-place_of_name-clause-rule : goal.returns-in-Some-place_of_name-clause-rule
returns-in-Some-place_of_name-clause-rule c =
    is-place-for (option_map (λ name. name.now) c.args.name) (rules_of c.args.self.now)
    (Some c.in-Some-place_of_name.place) (search rules)

pub returns-in-None-place_of_name-clause-rule : goal.returns-in-None-place_of_name-clause-rule
returns-in-None-place_of_name-clause-rule c =
    is-place-for (option_map (λ name. name.now) c.args.name) (rules_of c.args.self.now) _ (search rules)

pub returns-in-None-clause-rule : goal.returns-in-None-clause-rule
returns-in-None-clause-rule c =
    is-place-for (option_map (λ name. name.now) c.args.name) (rules_of c.args.self.now) _ (search rules)
