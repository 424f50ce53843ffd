-- What a survey counts, and of which bytes there is one (COMMANDS.md, "check"; this project's
-- choice).
use Rattle.std.specs.Prelude.{◌≡◌, ℕ, List, length, codes, Option, Some, None}
use Rattle.std.specs.Prelude.{if◌then◌else◌}
use Rattle.std.specs.Str.{is_utf8}
use Rattle.toml.specs.Data.{Members}
use Rattle.toml.specs.Parse.{parse_document}
use Rattle.toml_reading.specs.Tree.{items_at}
use Rattle.table_check.specs.declared.survey.Survey.{Survey}
use Rattle.table_check.specs.declared.document.SurveyFault.{SurveyFault}
use Rattle.table_check.specs.declared.document.SurveyFault.TheVariants.{Memory, Misread}

-- the document that bytes are: none where they are no UTF-8, or no TOML
abbrev pub document_in : List ℕ → Option Members
document_in bytes = if is_utf8 bytes then parse_document bytes else None

-- the survey counts the rows of a tree's lists that may be left out
pub record CountsRows (tree : Members) (survey : Survey) : Type 0 where
  pub pairs : survey.pairs ≡ length (items_at (codes "pair") tree)
  pub interchanges : survey.interchanges ≡ length (items_at (codes "interchange") tree)
  pub holidays : survey.holidays ≡ length (items_at (codes "holidays") tree)

-- the bytes are a document, and the survey counts its rows
abbrev pub IsSurveyOf : List ℕ → Survey → Type 0
IsSurveyOf bytes survey = (tree : Members) × (document_in bytes ≡ Some tree)
    × CountsRows tree survey

-- why there is no survey of these bytes: they are no document, or there was no memory
abbrev pub HasNoSurvey : List ℕ → SurveyFault → Type 0
HasNoSurvey bytes Memory = Unit {0}
HasNoSurvey bytes (Misread misread) = document_in bytes ≡ None
