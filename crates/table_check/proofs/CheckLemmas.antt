-- What is reported on the bytes of a table.
use Rattle.std.proofs.Common.{◌≡◌, ℕ, Bool, true, false, List, Option, Some, None, if◌then◌else◌, refl, sym, ap, ◌∙◌}
use Rattle.std.specs.Str.{is_utf8}
use Rattle.toml.specs.Data.{Members}
use Rattle.toml.specs.Parse.{parse_document}
use Rattle.toml_reading.specs.First.{first}
use Rattle.fare_table.specs.Table.{IsTableOf}
use Rattle.fare_table.specs.Faults.{faults, first_fault, first_fault_of, fault_in}
use Rattle.fare_table.specs.declared.fares.Fares.{Fares}
use Rattle.fare_table.specs.declared.fault.TableFault.{TableFault}
use Rattle.fare_table.specs.declared.fault.TableFault.TheVariants.{NotToml}
use Rattle.table_check.specs.Check.{report_of, text_report, tree_report, refused_table, table_lines, lines_of_table}

-- a table that was read has the lines of its text's tree
lines-same : (bytes : List ℕ) (fares : Fares) (table : IsTableOf bytes fares)
    → table_lines bytes table.tree ≡ lines_of_table fares
lines-same bytes fares table =
    rw (sym table.content.stations, sym table.content.singles, sym table.content.caps, sym table.digest) refl

valid-by : (is : Bool) (bytes : List ℕ) (fares : Fares) → IsTableOf bytes fares
    → (if is then first_fault bytes else Some NotToml) ≡ None
    → (if is then text_report bytes (parse_document bytes) else refused_table NotToml)
    ≡ record { text = lines_of_table fares; valid = true }
valid-by false bytes fares table none = cc
valid-by true bytes fares table none =
    let no_fault : first (faults table.tree) ≡ None = ap first_fault_of (sym table.parsed) ∙ none in
    ap (text_report bytes) table.parsed
    ∙ ap (tree_report bytes table.tree) no_fault
    ∙ ap (λ (text : List ℕ). record { text = text; valid = true }) (lines-same bytes fares table)

-- a table without a fault is reported by its lines
pub report_of-valid : (bytes : List ℕ) (fares : Fares) → IsTableOf bytes fares → fault_in bytes ≡ None
    → report_of bytes ≡ record { text = lines_of_table fares; valid = true }
report_of-valid bytes fares table none = valid-by (is_utf8 bytes) bytes fares table none

refused-by : (is : Bool) (bytes : List ℕ) (tree : Option Members) (fault : TableFault)
    → (if is then first_fault_of tree else Some NotToml) ≡ Some fault
    → (if is then text_report bytes tree else refused_table NotToml) ≡ refused_table fault
refused-by false bytes tree fault some = let same : NotToml ≡ fault = cc in ap refused_table same
refused-by true bytes None fault some = let same : NotToml ≡ fault = cc in ap refused_table same
refused-by true bytes (Some tree) fault some = ap (tree_report bytes tree) some

-- and one with a fault by the fault's line
pub report_of-refused : (bytes : List ℕ) (fault : TableFault) → fault_in bytes ≡ Some fault
    → report_of bytes ≡ refused_table fault
report_of-refused bytes fault some = refused-by (is_utf8 bytes) bytes (parse_document bytes) fault some
