use Rattle.std.proofs.lemmas.Nat.{le_or_l, le_or_r, or_of_8}
use Rattle.line_replay.proofs.hex_line.bits_of_both.Goals as goal

pub returns-clause-one : goal.returns-clause-one
returns-clause-one c = le_or_l c.args.one c.args.other

pub returns-clause-other : goal.returns-clause-other
returns-clause-other c = le_or_r c.args.one c.args.other

pub returns-clause-digits : goal.returns-clause-digits
returns-clause-digits c = or_of_8 c.args.one c.args.other
