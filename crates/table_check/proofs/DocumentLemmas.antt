-- The document that bytes are, where they are UTF-8 and where they aren't.
use Rattle.std.proofs.Common.{◌≡◌, ℕ, List, None, refl}
use Rattle.std.specs.Str.{IsUtf8}
use Rattle.std.proofs.lemmas.Str.{is_utf8-from_IsUtf8}
use Rattle.toml.specs.Parse.{parse_document}
use Rattle.toml_reading.proofs.TextLemmas.{no-text}
use Rattle.table_check.specs.Survey.{document_in}

-- a text is the document that it is parsed as
pub document_in-text : (bytes : List ℕ) → IsUtf8 bytes → document_in bytes ≡ parse_document bytes
document_in-text bytes is = rw (is_utf8-from_IsUtf8 bytes is) refl

-- bytes that are no text are no document
pub document_in-other : (bytes : List ℕ) → (IsUtf8 bytes → ⊥) → document_in bytes ≡ None
document_in-other bytes other = rw (no-text bytes other) refl

pub ruleset document_facts = (document_in-text, document_in-other)
