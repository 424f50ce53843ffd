-- What `replay` has read and written where it ends (PROTOCOL.md, "Replay"; this project's
-- choice).
use Rattle.std.specs.Prelude.{◌≡◌, ℕ, List, Option, None}
use Rattle.text_io.specs.Writing.{Ran}
use Rattle.line_replay.specs.Replay.{Output, output_of}
use Rattle.line_replay.specs.Run.{HasStopped}
use Rattle.line_replay.specs.declared.fault.LineReplayFault.{LineReplayFault}
use Rattle.table_check.specs.Tables.{ForTables}
use Rattle.console.specs.declared.fault.TrialFault.{TrialFault}
use Rattle.line_replay.specs.Fault.{replay_fault}

-- all of the output was written, and no line is bad
abbrev pub IsWhole : Output → List ℕ → Type 0
IsWhole output text = output ≡ record { text = text; bad = None }

-- a reader and a writer weren't asked for anything
abbrev pub IsUnasked : {R W : Type 0} → R → R → W → W → Type 0
IsUnasked reader reader_after writer writer_after =
    (reader_after ≡ reader) × (writer_after ≡ writer)

-- by the tables of these words and with so many cards the output of what was read was written, of
-- which this is said
abbrev pub HasReplayed : (List ℕ → List ℕ → Type 0) → Option (List ℕ) → List (List ℕ) → ℕ
    → Option (List ℕ) → Option (List ℕ) → Option (List ℕ) → Option (List ℕ)
    → (Output → List ℕ → Type 0) → Type 0
HasReplayed gave first further cards unread left before after Says =
    ForTables gave first further (λ tables.
    Ran unread left before after (λ bytes text. Says (output_of tables cards bytes) text))

-- the run ended early, for this fault, behind what was written
abbrev pub HasEndedEarly : (List ℕ → List ℕ → Type 0) → Option (List ℕ) → List (List ℕ) → ℕ
    → Option (List ℕ) → Option (List ℕ) → Option (List ℕ) → Option (List ℕ) → TrialFault → Type 0
HasEndedEarly gave first further cards unread left before after fault =
    (early : LineReplayFault) × (fault ≡ replay_fault early)
    × HasReplayed gave first further cards unread left before after
    (λ output text. HasStopped output text early)
