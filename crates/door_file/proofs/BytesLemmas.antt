-- The first fault of a file's bytes is that of their text, where they are one and are not too many; and
-- the fault of a text without a tree.
use Rattle.std.proofs.Common.{◌≡◌, ◌≢◌, ◌≤◌, ℕ, List, length, Some, None, refl, ap}
use Rattle.std.specs.Str.{IsUtf8}
use Rattle.std.proofs.lemmas.Bool.{le-ltb}
use Rattle.std.proofs.lemmas.Str.{is_utf8-from_IsUtf8}
use Rattle.toml.specs.Parse.{parse_document}
use Rattle.toml_reading.specs.declared.document.TreeFault.{TreeFault}
use Rattle.toml_reading.specs.declared.document.TreeFault.TheVariants as trees
use Rattle.toml_reading.proofs.TextLemmas.{no-text}
use Rattle.door_file.specs.Faults.{fault_of_tree, fault_in}
use Rattle.door_file.specs.TreeFault.{tree_fault}
use Rattle.door_file.specs.declared.door.TheConstants.{MOST_BYTES}
use Rattle.door_file.specs.declared.fault.DoorFault.TheVariants.{Memory, NotToml}

-- a text without a tree
pub in_text : (text : List ℕ) (fault : TreeFault) → (fault ≡ trees.NotToml → parse_document text ≡ None)
    → tree_fault fault ≢ Memory → fault_of_tree (parse_document text) ≡ Some (tree_fault fault)
in_text text trees.Memory none other = absurd (other refl)
in_text text trees.NotToml none other = ap fault_of_tree (none refl)

-- the fault in a text is the text's own
pub fault_in-text : (bytes : List ℕ) → length bytes ≤ MOST_BYTES → IsUtf8 bytes
    → fault_in bytes ≡ fault_of_tree (parse_document bytes)
fault_in-text bytes size is = rw (le-ltb MOST_BYTES (length bytes) size, is_utf8-from_IsUtf8 bytes is) refl

-- bytes that are no text are no TOML
pub fault_in-other : (bytes : List ℕ) → length bytes ≤ MOST_BYTES → (IsUtf8 bytes → ⊥)
    → fault_in bytes ≡ Some NotToml
fault_in-other bytes size other = rw (le-ltb MOST_BYTES (length bytes) size, no-text bytes other) refl
