-- The lines that are told of a sound journal (COMMANDS.md, "verify"; this project's choice).
use Rattle.std.specs.Prelude.{ℕ, ◌-◌, zero, suc, List, [], ◌++◌, length, codes, Option, Some, None}
use Rattle.std.specs.Fmt.{decimal}
use Rattle.hex.specs.Hex.{encode_lower}
use Rattle.oyster_account.specs.declared.touch.Touch.{Touch}
use Rattle.reply_book.specs.Tables.{Tables}
use Rattle.tap_journal.specs.declared.alone.Contents.{Contents}
use Rattle.tap_journal.specs.declared.layout.Format.{Format}
use Rattle.tap_journal.specs.declared.layout.Format.TheVariants.{First, Second}
use Rattle.tap_journal.specs.Layout.{Header, slot_at}
use Rattle.tap_journal.specs.Alone.{header_found, open_behind}
use Rattle.command_line.specs.declared.seal.Seal.{Seal}
use Rattle.command_line.specs.declared.seal.Sealed.{Sealed}
use Rattle.journal_audit.specs.declared.audit.seal.Seals.{Seals}
use Rattle.journal_audit.specs.Finding.{finding_of, last_line}
use Rattle.journal_audit.specs.Revisions.{history_by, revisions_text}
use Rattle.journal_audit.specs.Seal.{told_seals}

-- the number of a format's version
abbrev pub version_number : Format → ℕ
version_number First = 1
version_number Second = 2

-- a line of a name and what is said of it, before the lines after it
abbrev pub line_before : List ℕ → List ℕ → List ℕ → List ℕ
line_before name said lines = name ++ (said ++ (codes "\n" ++ lines))

-- the lines of a journal's format and header
abbrev pub header_lines : Format → Header → List ℕ
header_lines f h =
    line_before (codes "version ") (decimal (version_number f))
    (line_before (codes "capacity ") (decimal h.capacity)
    (line_before (codes "cards ") (decimal h.cards)
    (line_before (codes "digest ") (encode_lower h.digest) [])))

-- the lines of a gate's file's format, capacity and gate
abbrev pub gate_header_lines : Format → ℕ → ℕ → List ℕ
gate_header_lines f capacity gate =
    line_before (codes "version ") (decimal (version_number f))
    (line_before (codes "capacity ") (decimal capacity)
    (line_before (codes "gate ") (decimal gate) []))

-- the lines of how many touches a journal of this capacity has and can still take, and how many
-- bytes stand behind them
abbrev pub count_lines : ℕ → ℕ → ℕ → List ℕ
count_lines capacity touches trailing =
    line_before (codes "touches ") (decimal touches)
    (line_before (codes "room ") (decimal (capacity - touches))
    (line_before (codes "trailing ") (decimal trailing) []))

-- how many open slots stand behind the end, where there are some
abbrev pub behind_text : ℕ → List ℕ
behind_text zero = []
behind_text (suc n) = line_before (codes "behind ") (decimal (suc n)) []

-- the line of a seal, where there is one: how many touches it is of, and its digest
abbrev pub seal_text : Option Sealed → List ℕ
seal_text None = []
seal_text (Some sealed) =
    codes "sealed " ++ (decimal sealed.touches
    ++ (line_before (codes " ") (encode_lower sealed.digest) []))

-- the lines of the seals: the one that a journal was held against, and the one that was made
abbrev pub seals_text : Seals → List ℕ
seals_text told = seal_text told.kept ++ seal_text told.made

-- all lines: of the header, of the counts, of what stands behind them, of the revisions and of the
-- seals, and a last one of what is found
abbrev pub sound_text : List ℕ → List ℕ → ℕ → List ℕ → Seals → List ℕ
sound_text header counts behind revisions told =
    header ++ (counts ++ (behind_text behind
    ++ (revisions ++ (seals_text told ++ last_line (finding_of behind)))))

-- the lines of the header that was found in some bytes
abbrev pub header_told : Contents → List ℕ
header_told found = header_lines found.format (header_found found)

-- the lines of the header of a gate's file that was found
abbrev pub gate_header_told : ℕ → Contents → List ℕ
gate_header_told gate found = gate_header_lines found.format found.capacity gate

-- the lines of the counts that were found
abbrev pub counts_told : Contents → List ℕ
counts_told found = count_lines found.capacity (length found.touches.items) found.trailing

-- all that is told of what was found, with the lines of the header, the revisions and the seals
abbrev pub text_of_contents : List ℕ → Contents → List ℕ → Seals → List ℕ
text_of_contents header found revisions told =
    sound_text header (counts_told found) found.behind revisions told

-- how many bytes stand behind the slots of so many touches
abbrev pub trailing_in : Format → ℕ → List ℕ → ℕ
trailing_in f touches bytes = length bytes - slot_at f touches

-- all that is told of a sound journal, of which these are the bytes, by the tables where some are
-- named
abbrev pub text_of_journal : Option Tables → Seal → Format → Header → List Touch → List ℕ → List ℕ
text_of_journal tables asked f h touches bytes =
    sound_text (header_lines f h)
    (count_lines h.capacity (length touches) (trailing_in f (length touches) bytes))
    (open_behind f h.capacity (length touches) bytes)
    (revisions_text (history_by tables h.cards touches) touches)
    (told_seals asked f (length touches) bytes)

-- all that is told of a gate's file, of which these are the bytes
abbrev pub text_of_gate_file : ℕ → Seal → Format → ℕ → List Touch → List ℕ → List ℕ
text_of_gate_file gate asked f capacity touches bytes =
    sound_text (gate_header_lines f capacity gate)
    (count_lines capacity (length touches) (trailing_in f (length touches) bytes))
    (open_behind f capacity (length touches) bytes) []
    (told_seals asked f (length touches) bytes)
