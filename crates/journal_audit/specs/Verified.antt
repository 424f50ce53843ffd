-- What `verify` has written where it ends, by the words of its command line (COMMANDS.md,
-- "verify"; FAULTS.md; this project's choice).
use Rattle.std.specs.Prelude.{◌≡◌, ◌⊎◌, ℕ, List, map, Option, Some, None, option_map}
use Rattle.command_line.specs.declared.arguments.Verify.{Verify}
use Rattle.text_io.specs.Writing.{Wrote}
use Rattle.journal_audit.specs.Audit.{IsSound, HasEnded}
use Rattle.journal_audit.specs.declared.audit.finding.Finding.{Finding}
use Rattle.journal_audit.specs.declared.audit.finding.Finding.TheVariants.{Sound, LookBehind}
use Rattle.journal_audit.specs.declared.audit.header.Asked.{Asked}
use Rattle.journal_audit.specs.GateFile.{IsSoundFile, HasEndedFile}
use Rattle.journal_audit.specs.declared.fault.AuditFault.{AuditFault}
use Rattle.reply_book.specs.Tables.{Tables}
use Rattle.console.specs.Files.{ForFile, IsFileFault}
use Rattle.table_check.specs.Tables.{AreTablesOf, AreRefused}
use Rattle.console.specs.declared.fault.TrialFault.{TrialFault}
use Rattle.journal_audit.specs.Command.{audit_fault, asked_by}
use Rattle.journal_audit.specs.declared.commands.fault.CommandFault.{CommandFault}
use Rattle.journal_audit.specs.declared.commands.fault.CommandFault.TheVariants.{Trial}

-- where a first table is named, the tables are those of the words, and else there are none
abbrev pub AreTablesOfWords : (List ℕ → List ℕ → Type 0) → Option (List ℕ) → List (List ℕ)
    → Option Tables → Type 0
AreTablesOfWords gave None further None = Unit {0}
AreTablesOfWords gave (Some first) further (Some tables) =
    AreTablesOf gave (Some first) further tables
AreTablesOfWords gave _ further _ = ⊥

-- so it is of the words of this command line
abbrev pub AreTablesAsked : (List ℕ → List ℕ → Type 0) → Verify → Option Tables → Type 0
AreTablesAsked gave verify tables =
    AreTablesOfWords gave (option_map (λ word. word.now) verify.table)
    (map (λ word. word.now) verify.revisions.items) tables

-- a first table is named, and the words give no tables, for this fault
abbrev pub AreWordsRefused : (List ℕ → List ℕ → Type 0) → Option (List ℕ) → List (List ℕ)
    → TrialFault → Type 0
AreWordsRefused gave None further fault = ⊥
AreWordsRefused gave (Some first) further fault = AreRefused gave (Some first) further fault

-- so it is of the words of this command line
abbrev pub AreTablesRefused : (List ℕ → List ℕ → Type 0) → Verify → TrialFault → Type 0
AreTablesRefused gave verify fault =
    AreWordsRefused gave (option_map (λ word. word.now) verify.table)
    (map (λ word. word.now) verify.revisions.items) fault

-- why the journal wasn't looked at: there are no tables, or its file isn't had
abbrev pub IsUnread : (List ℕ → List ℕ → Type 0) → Verify → CommandFault → Type 0
IsUnread gave verify (Trial fault) = AreTablesRefused gave verify fault ⊎ IsFileFault fault
IsUnread gave verify _ = ⊥

-- of the tables of the words, the bytes of the journal's file and the text that was written this is
-- said
pub record HasVerified (gave : List ℕ → List ℕ → Type 0) (verify : Verify)
    (before after : Option (List ℕ)) (Says : Option Tables → List ℕ → List ℕ → Type 0)
    : Type 0 where
  pub tables : Option Tables
  pub asked : AreTablesAsked gave verify tables
  pub written : ForFile gave verify.journal.now
      (λ bytes. Wrote before after (λ text. Says tables bytes text))

-- the status of what is found: 0, or 3 where more is to be looked at
abbrev pub status_of : Finding → ℕ
status_of Sound = 0
status_of LookBehind = 3

-- the bytes are a sound journal, of which the text is the lines, and the status is that of what is
-- found
abbrev pub IsVerified : Option Tables → Asked → ℕ → List ℕ → List ℕ → Type 0
IsVerified tables asked status bytes text =
    (found : Finding) × IsSound tables asked bytes text found × (status ≡ status_of found)

-- the audit ended early, for this fault, behind what was written
abbrev pub HasEndedEarly : (List ℕ → List ℕ → Type 0) → Verify → Option (List ℕ) → Option (List ℕ)
    → CommandFault → Type 0
HasEndedEarly gave verify before after fault =
    (audit : AuditFault) × (fault ≡ audit_fault audit) × HasVerified gave verify before after
    (λ tables bytes text. HasEnded tables (asked_by verify) bytes text audit)

-- the file of the journal is the sound file of this gate, of which the text is the lines, and the
-- status is that of what is found
abbrev pub HasVerifiedFile : (List ℕ → List ℕ → Type 0) → Verify → ℕ → Option (List ℕ)
    → Option (List ℕ) → ℕ → Type 0
HasVerifiedFile gave verify gate before after status = ForFile gave verify.journal.now
    (λ bytes. Wrote before after (λ text. (found : Finding)
    × IsSoundFile gate (asked_by verify) bytes text found × (status ≡ status_of found)))

-- the audit of the gate's file ended early, for this fault, behind what was written
abbrev pub HasEndedFileEarly : (List ℕ → List ℕ → Type 0) → Verify → ℕ → Option (List ℕ)
    → Option (List ℕ) → CommandFault → Type 0
HasEndedFileEarly gave verify gate before after fault =
    (audit : AuditFault) × (fault ≡ audit_fault audit) × ForFile gave verify.journal.now
    (λ bytes. Wrote before after (λ text. HasEndedFile gate (asked_by verify) bytes text audit))

-- the file isn't had, for this fault
abbrev pub IsFileUnread : CommandFault → Type 0
IsFileUnread (Trial fault) = IsFileFault fault
IsFileUnread _ = ⊥

-- where no gate is named the file is verified as a station's journal, and else as that gate's file
abbrev pub HasVerifiedAs : (List ℕ → List ℕ → Type 0) → Verify → Option ℕ → Option (List ℕ)
    → Option (List ℕ) → ℕ → Type 0
HasVerifiedAs gave verify None before after status =
    HasVerified gave verify before after (λ tables bytes text.
    IsVerified tables (asked_by verify) status bytes text)
HasVerifiedAs gave verify (Some gate) before after status =
    HasVerifiedFile gave verify gate before after status

-- so it is of why that isn't done: the tables or the file aren't had, and nothing was written, or
-- the audit ended early
abbrev pub IsUnverifiedAs : (List ℕ → List ℕ → Type 0) → Verify → Option ℕ → Option (List ℕ)
    → Option (List ℕ) → Type 0 → CommandFault → Type 0
IsUnverifiedAs gave verify None before after same fault =
    (IsUnread gave verify fault × same) ⊎ HasEndedEarly gave verify before after fault
IsUnverifiedAs gave verify (Some gate) before after same fault =
    (IsFileUnread fault × same) ⊎ HasEndedFileEarly gave verify gate before after fault
