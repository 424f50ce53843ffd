-- Which command lines are allowed (COMMANDS.md, "gate_send"; this project's choice).
use Rattle.std.specs.Prelude.{IfSome}
use Rattle.program_options.specs.Numbers.{IsWithin}
use Rattle.gate_command.specs.declared.arguments.Arguments.{Arguments}

-- a new file has room for 1 to 1,000,000 touches, a touch is given up, if at all, after 1 to
-- 1,000,000 tries, an answer is waited for from 1 ms to an hour, and the first pause is from 1 ms
-- to 30 s
pub record IsAllowed (asked : Arguments) : Type 0 where
  pub capacity : IsWithin 1_000_000 asked.capacity
  pub tries : IfSome asked.tries (IsWithin 1_000_000)
  pub timeout : IsWithin 3_600_000 asked.timeout
  pub pause : IsWithin 30_000 asked.pause
