use Rattle.std.proofs.Common.{map}
use Rattle.toml.specs.View.{view}
use Rattle.door_file.proofs.repeats.is_repeat.Goals as goal

pub returns-in-Kinds : goal.returns-in-Kinds
returns-in-Kinds c = rw c.in-Kinds.is (c.repeats_kind.ensures (map view c.args.earlier.now))
