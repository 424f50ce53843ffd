-- What a running server prints (FAULTS.md, "What a running server prints"; this project's
-- choice).
use Rattle.std.specs.Prelude.{ℕ, ◌*◌, ◌≤◌, Option, Some, None}
use Rattle.tap_office.specs.declared.fault.SubmitFault.{SubmitFault}
use Rattle.tap_office.specs.declared.fault.SubmitFault.TheVariants as faults
use Rattle.office_lines.specs.declared.notice.Notice.{Notice}
use Rattle.office_lines.specs.declared.notice.Notice.TheVariants as notices

-- so many entries are nine tenths of a journal's capacity, or more
abbrev pub IsNearlyFull : ℕ → ℕ → Type 0
IsNearlyFull capacity entries = 9 * capacity ≤ 10 * entries

-- what a touch's fault says of a server with this capacity and so many entries: that its disk has
-- failed, or that its journal is full, or nothing
abbrev pub notice_of : SubmitFault → ℕ → ℕ → Option Notice
notice_of faults.Conflict capacity entries = None
notice_of faults.Halted capacity entries = Some (notices.Halted entries)
notice_of faults.Memory capacity entries = None
notice_of faults.Full capacity entries = Some (notices.Full capacity)
notice_of faults.UnknownTable capacity entries = None
