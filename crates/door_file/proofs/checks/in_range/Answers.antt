use Rattle.door_file.proofs.checks.in_range.Goals as goal

pub returns-in-Rules : goal.returns-in-Rules
returns-in-Rules c = rw c.in-Rules.is (c.has_rules.ensures c.args.needed)

pub returns-in-Name : goal.returns-in-Name
returns-in-Name c = rw c.in-Name.is (c.is_name.ensures c.args.needed)
