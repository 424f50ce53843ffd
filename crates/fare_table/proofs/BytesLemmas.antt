-- The first fault of a table's bytes is that of their text, where they are one.
use Rattle.std.proofs.Common.{◌≡◌, ℕ, List, Some, refl}
use Rattle.std.specs.Str.{IsUtf8}
use Rattle.std.proofs.lemmas.Str.{is_utf8-from_IsUtf8}
use Rattle.toml_reading.proofs.TextLemmas.{no-text}
use Rattle.fare_table.specs.Faults.{first_fault, fault_in}
use Rattle.fare_table.specs.declared.fault.TableFault.TheVariants.{NotToml}

-- the fault in a text is the text's own
pub fault_in-text : (bytes : List ℕ) → IsUtf8 bytes → fault_in bytes ≡ first_fault bytes
fault_in-text bytes is = rw (is_utf8-from_IsUtf8 bytes is) refl

-- bytes that are no text are no TOML
pub fault_in-other : (bytes : List ℕ) → (IsUtf8 bytes → ⊥) → fault_in bytes ≡ Some NotToml
fault_in-other bytes other = rw (no-text bytes other) refl
