-- What `check` writes for the bytes of a table (COMMANDS.md, "check"; this project's choice).
use Rattle.std.specs.Prelude.{◌≡◌, ℕ, Bool, true, false, List, [], ◌∷◌, ◌++◌, length, codes}
use Rattle.std.specs.Prelude.{string_bytes, Option, Some, None, Result, Ok, Err, if◌then◌else◌}
use Rattle.std.specs.Str.{is_utf8}
use Rattle.std.specs.Fmt.{decimal}
use Rattle.hex.specs.Hex.{encode_lower}
use Rattle.sha2.specs.Sha256.{sha256}
use Rattle.toml.specs.Data.{Members}
use Rattle.toml.specs.Parse.{parse_document}
use Rattle.toml_reading.specs.First.{first}
use Rattle.fare_table.specs.Tree.{rows_at}
use Rattle.fare_table.specs.Content.{stations_of, singles_of, caps_of}
use Rattle.fare_table.specs.Faults.{faults}
use Rattle.fare_table.specs.Fares.{content_of, digest_of}
use Rattle.fare_table.specs.Texts.{printed_fault}
use Rattle.fare_table.specs.declared.key.Key.TheVariants as key
use Rattle.fare_table.specs.declared.fares.Fares.{Fares}
use Rattle.fare_table.specs.declared.fault.TableFault.{TableFault}
use Rattle.fare_table.specs.declared.fault.TableFault.TheVariants.{NotToml}
use Rattle.table_check.specs.declared.check.TableReport.{TableReport as Written}
use Rattle.text_io.specs.declared.fault.RunFault.{RunFault}
use Rattle.text_io.specs.declared.fault.RunFault.TheVariants.{Memory, Read, Write}
use Rattle.text_io.specs.Writing.{IsBeginning}

-- the byte that ends a line
abbrev pub line_feed : ℕ
line_feed = 10

-- what is written for a table, and whether the table is valid
pub record TableReport : Type 0 where
  pub text : List ℕ
  pub valid : Bool

-- a line of a name and what is said of it, before the lines after it
abbrev pub line_before : List ℕ → List ℕ → List ℕ → List ℕ
line_before name said lines = name ++ (said ++ (line_feed ∷ lines))

-- four lines: how many stations, singles and caps there are, and a digest in lower-case digits
abbrev pub count_lines : ℕ → ℕ → ℕ → List ℕ → List ℕ
count_lines stations singles caps digest =
    line_before (codes "stations ") (decimal stations)
    (line_before (codes "singles ") (decimal singles)
    (line_before (codes "caps ") (decimal caps)
    (line_before (codes "digest ") (encode_lower digest) [])))

-- the lines of a valid table: the numbers of its rows, and the digest of its text
abbrev pub table_lines : List ℕ → Members → List ℕ
table_lines text tree =
    count_lines (length (stations_of (rows_at key.Station tree)))
    (length (singles_of (rows_at key.Single tree)))
    (length (caps_of (rows_at key.Cap tree))) (sha256 text)

-- the lines of a table that was read
abbrev pub lines_of_table : Fares → List ℕ
lines_of_table fares =
    count_lines (length (content_of fares).stations) (length (content_of fares).singles)
    (length (content_of fares).caps) (digest_of fares)

-- a table is refused for a fault
abbrev pub refused_table : TableFault → TableReport
refused_table fault = record { text = printed_fault fault ++ line_feed ∷ []; valid = false }

-- a tree is refused for its first fault, and is a valid table where it has none
abbrev pub tree_report : List ℕ → Members → Option TableFault → TableReport
tree_report text tree (Some fault) = refused_table fault
tree_report text tree None = record { text = table_lines text tree; valid = true }

-- a text is refused where it is no tree
abbrev pub text_report : List ℕ → Option Members → TableReport
text_report text None = refused_table NotToml
text_report text (Some tree) = tree_report text tree (first (faults tree))

-- bytes are refused where they are no text
abbrev pub report_of : List ℕ → TableReport
report_of bytes =
    if is_utf8 bytes then text_report bytes (parse_document bytes) else refused_table NotToml

-- there is no fault
abbrev pub has_none : Option TableFault → Bool
has_none None = true
has_none (Some fault) = false

-- what the program's report says: its text, and that the table is valid where it has no fault
abbrev pub report_in : Written → TableReport
report_in written = record { text = string_bytes written.text; valid = has_none written.fault }

-- what a fault leaves written: nothing where memory or a read failed, and else a beginning of the
-- report
abbrev pub HasBegun : TableReport → List ℕ → RunFault → Type 0
HasBegun report text Memory = text ≡ []
HasBegun report text Read = text ≡ []
HasBegun report text Write = IsBeginning text report.text

-- where there was no fault, all of the report was written, and the answer says whether the table is
-- valid
abbrev pub HasChecked : TableReport → List ℕ → Result Bool RunFault → Type 0
HasChecked report text (Ok valid) = report ≡ record { text = text; valid = valid }
HasChecked report text (Err fault) = HasBegun report text fault
