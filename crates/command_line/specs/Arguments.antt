-- Which command lines are allowed (COMMANDS.md; this project's choice). proofs/Examples.antt
-- computes the limits.
use Rattle.std.specs.Prelude.{◌≡◌, ◌≤◌, ◌≤ℤ◌, ℤ, IfSome, length, Option, Some, None}
use Rattle.station_limits.specs.declared.digest.TheConstants.{DIGEST_SIZE}
use Rattle.station_limits.specs.declared.limits.TheConstants.{CARDS_LIMIT, HISTORY_LIMIT}
use Rattle.station_limits.specs.declared.limits.TheConstants.{LINES_LIMIT}
use Rattle.program_options.specs.Numbers.{IsWithin}
use Rattle.command_line.specs.declared.arguments.Arguments.{Arguments}
use Rattle.command_line.specs.declared.arguments.Arguments.TheVariants as asked
use Rattle.command_line.specs.declared.arguments.TheConstants.{CONNECTIONS_LIMIT, IDLE_LIMIT}
use Rattle.command_line.specs.declared.arguments.TheConstants.{REPORT_LIMIT}
use Rattle.command_line.specs.declared.arguments.Verify.{Verify}
use Rattle.command_line.specs.declared.balances.Balances.{Balances}
use Rattle.command_line.specs.declared.check.Check.{Check}
use Rattle.command_line.specs.declared.check.Check.TheVariants as checks
use Rattle.command_line.specs.declared.check.Journey.{Journey}
use Rattle.command_line.specs.declared.history.History.{History}
use Rattle.command_line.specs.declared.seal.Seal.{Seal}
use Rattle.command_line.specs.declared.seal.Sealed.{Sealed}
use Rattle.command_line.specs.declared.serve.Serve.{Serve}
use Rattle.command_line.specs.declared.statement.Statement.{Statement}

-- a station has 1 to 100,000 cards and a journal of 1 to 1,000,000 touches, and a server 1 to 64
-- lines; a line is done, if at all, after 1 to 1,000,000 connections, a silent gate is given up, if
-- at all, after 1 to 1,000,000 seconds, and how it stands is told, if at all, each 1 to 1,000,000
-- seconds
pub record IsServeAllowed (serve : Serve) : Type 0 where
  pub cards : IsWithin CARDS_LIMIT serve.cards
  pub capacity : IsWithin HISTORY_LIMIT serve.capacity
  pub lines : IsWithin LINES_LIMIT serve.lines
  pub connections : IfSome serve.connections (IsWithin CONNECTIONS_LIMIT)
  pub idle : IfSome serve.idle (IsWithin IDLE_LIMIT)
  pub report : IfSome serve.report (IsWithin REPORT_LIMIT)

-- a seal is of at most 1,000,000 touches, and its digest has 32 bytes
abbrev pub IsSealedAllowed : Sealed → Type 0
IsSealedAllowed sealed = (sealed.touches ≤ HISTORY_LIMIT) × (length sealed.digest ≡ DIGEST_SIZE)

-- a journal is held against such a seal, if against any
abbrev pub IsSealAllowed : Seal → Type 0
IsSealAllowed seal = IfSome seal.kept IsSealedAllowed

-- a journal is verified with such a seal, and with numbers that a station's journal may have
pub record IsVerifyAllowed (verify : Verify) : Type 0 where
  pub seal : IsSealAllowed verify.seal
  pub cards : IfSome verify.expect_cards (IsWithin CARDS_LIMIT)
  pub capacity : IfSome verify.expect_capacity (IsWithin HISTORY_LIMIT)

-- a card has one of 100,000 numbers
abbrev pub IsHistoryAllowed : History → Type 0
IsHistoryAllowed history = IfSome history.card (IsWithin CARDS_LIMIT)

-- the first day, if there is one, is not after the last, if there is one
abbrev pub IsUpTo : Option ℤ → Option ℤ → Type 0
IsUpTo (Some from) (Some to) = from ≤ℤ to
IsUpTo (Some from) None = Unit {0}
IsUpTo None to = Unit {0}

-- a statement is that of a card with one of 100,000 numbers, for days from the first to the last
pub record IsStatementAllowed (statement : Statement) : Type 0 where
  pub card : IsWithin CARDS_LIMIT statement.card
  pub days : IsUpTo statement.from statement.to

-- balances are told after at most 1,000,000 touches
abbrev pub IsBalancesAllowed : Balances → Type 0
IsBalancesAllowed balances = IfSome balances.at (λ touches. touches ≤ HISTORY_LIMIT)

-- stations have numbers from 1
pub record IsJourneyAllowed (journey : Journey) : Type 0 where
  pub from : 1 ≤ journey.from
  pub to : 1 ≤ journey.to

-- a check is of such a journey, if of any
abbrev pub IsCheckAllowed : Check → Type 0
IsCheckAllowed (checks.Report table strict) = Unit {0}
IsCheckAllowed (checks.Fare table journey) = IsJourneyAllowed journey
IsCheckAllowed (checks.Changes before after) = Unit {0}
IsCheckAllowed (checks.Door door) = Unit {0}

-- so it is of each command
abbrev pub IsAllowed : Arguments → Type 0
IsAllowed (asked.Replay table cards revisions) = IsWithin CARDS_LIMIT cards
IsAllowed (asked.Check check) = IsCheckAllowed check
IsAllowed (asked.Serve serve) = IsServeAllowed serve
IsAllowed (asked.Migrate migrate) = IsWithin CARDS_LIMIT migrate.cards
IsAllowed (asked.Verify verify) = IsVerifyAllowed verify
IsAllowed (asked.History history) = IsHistoryAllowed history
IsAllowed (asked.Balances balances) = IsBalancesAllowed balances
IsAllowed (asked.Statement statement) = IsStatementAllowed statement
