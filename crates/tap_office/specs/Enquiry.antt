-- What an enquiry is answered (OFFICE.md, "Enquiries"; this project's choice).
use Rattle.std.specs.Prelude.{◌≡◌, ℕ, List, length, Option, Some}
use mathlib.Core.List.{IsPrefix}
use Rattle.reply_book.specs.declared.entry.Entry.{Entry}
use Rattle.reply_book.specs.Tables.{Tables}
use Rattle.reply_book.specs.Legal.{history_of, IsLegal}
use Rattle.reply_book.specs.View.{view_after}
use Rattle.tap_desk.specs.declared.desk.Enquiry.{Enquiry}
use Rattle.tap_office.specs.Name.{Opened}
use Rattle.tap_office.specs.Given.{IsGiven}

-- the tables are those that the opening's touches are judged by, for its number of cards
pub record IsTableFor (opened : Opened) (table : Option (Tables × ℕ)) : Type 0 where
  pub tables : Tables
  pub is : table ≡ Some (tables, opened.header.cards)
  pub given : IsGiven opened tables

-- the answer is the view of the card after this history by the opening's tables, and its length;
-- the history is legal and begins with what was found at the opening
pub record IsAnswerFrom (opened : Opened) (history : List Entry) (card : ℕ) (enquiry : Enquiry)
    : Type 0 where
  pub tables : Tables
  pub given : IsGiven opened tables
  pub legal : IsLegal tables opened.header.cards (history_of history)
  pub begins : IsPrefix opened.recovered history
  pub view : enquiry.view ≡ view_after tables opened.header.cards (history_of history) card
  pub front : enquiry.front ≡ length history
