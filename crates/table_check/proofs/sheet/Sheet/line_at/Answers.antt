use Rattle.std.proofs.Common.{◌-◌, ap, ◌∙◌}
use Rattle.table_check.specs.Place.{line_behind}
use Rattle.table_check.proofs.sheet.Sheet.line_at.Goals as goal

-- the bytes before the place
pub returns-in-Some : goal.returns-in-Some
returns-in-Some c = (c.args.at - 0, c.line_behind.ensures ∙ ap line_behind c.in-Some.ensures.lookup.0.2)
