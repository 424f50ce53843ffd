-- What an enquiry is answered.
use Rattle.std.proofs.Common.{◌≡◌, ℕ, List, length, Option, Some, None, subst}
use Rattle.std.specs.Prelude.{IfSome}
use mathlib.Core.List.{IsPrefix}
use Rattle.reply_book.specs.declared.entry.Entry.{Entry}
use Rattle.reply_book.specs.Tables.{Tables}
use Rattle.tap_desk.specs.declared.desk.Enquiry.{Enquiry}
use Rattle.tap_desk.specs.Listed.{IsLegalBy, view_by}
use Rattle.tap_desk.proofs.Prefixes.{prefix_trans}
use Rattle.tap_office.specs.Name.{Opened}
use Rattle.tap_office.specs.Enquiry.{IsTableFor, IsAnswerFrom}

-- an answer that is legal by the name's tables, for its list, is so by the opening's
pub answered : (opened : Opened) (table : Option (Tables × ℕ)) (before list : List Entry) (card : ℕ)
    (answer : Option Enquiry) → IsTableFor opened table → IsPrefix opened.recovered before
    → IfSome answer (λ _. IsPrefix before list) → IfSome answer (λ _. IsLegalBy table list)
    → IfSome answer (λ (a : Enquiry). a.front ≡ length list)
    → IfSome answer (λ (a : Enquiry). a.view ≡ view_by table list card)
    → IfSome answer (IsAnswerFrom opened list card)
answered opened table before list card None by begins on legal front view = tt
answered opened table before list card (Some answer) by begins on legal front view = record {
  tables = by.tables;
  given = by.given;
  legal = legal by.tables opened.header.cards by.is;
  begins = prefix_trans opened.recovered before list begins on;
  view = subst (λ (t : Option (Tables × ℕ)). answer.view ≡ view_by t list card) by.is view;
  front = front;
}
