-- What an audit finds of a sound journal (AUDIT.md, "What the lines say"; this project's
-- choice).
use Rattle.std.specs.Prelude.{ℕ, nat_le, if◌then◌else◌, List, codes}
use Rattle.tap_journal.specs.declared.alone.TheConstants.{BEHIND_LIMIT}
use Rattle.journal_audit.specs.declared.audit.finding.Finding.{Finding}
use Rattle.journal_audit.specs.declared.audit.finding.Finding.TheVariants.{Sound, LookBehind}

-- more open slots behind the end than crashes leave are a reason to look
abbrev pub finding_of : ℕ → Finding
finding_of behind = if nat_le behind BEHIND_LIMIT then Sound else LookBehind

-- the last line of a sound journal's
abbrev pub last_line : Finding → List ℕ
last_line Sound = codes "sound\n"
last_line LookBehind = codes "sound, but look behind\n"
