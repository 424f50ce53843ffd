-- The fare tables that an opening was given, and what goes by them (OFFICE.md, "An opening";
-- this project's choice).
use Rattle.std.specs.Prelude.{◌≡◌, ℕ, Bool, false, List, Option, Some, None}
use Rattle.oyster_account.specs.declared.touch.Touch.{Touch}
use Rattle.oyster_account.specs.declared.reply.Judged.{Judged}
use Rattle.oyster_account.specs.declared.reply.Reply.{Reply}
use Rattle.oyster_account.specs.declared.reply.CardView.{CardView}
use Rattle.reply_book.specs.Tables.{Tables, is_known, AreKnown}
use Rattle.reply_book.specs.Legal.{IsLegal, touches_in, judge_after}
use Rattle.reply_book.specs.View.{view_after}
use Rattle.tap_office.specs.Name.{Opened}

-- the opening was given these fare tables, for its number of cards
abbrev pub IsGiven : Opened → Tables → Type 0
IsGiven opened tables = opened.table ≡ Some (tables, opened.header.cards)

-- the touch is no revision to a table that isn't there
abbrev pub is_known_by : Option (Tables × ℕ) → Touch → Bool
is_known_by None touch = false
is_known_by (Some table) touch = is_known table.0 touch

-- nor to one that the opening wasn't given
abbrev pub is_known_to : Opened → Touch → Bool
is_known_to opened touch = is_known_by opened.table touch

-- the history is legal by the opening's tables, for its number of cards, and names no other table
pub record IsLegalFor (opened : Opened) (history : List Judged) : Type 0 where
  pub tables : Tables
  pub given : IsGiven opened tables
  pub legal : IsLegal tables opened.header.cards history
  pub known : AreKnown tables (touches_in history)

-- the reply is the judgement of the touch after the history, by the opening's tables
pub record IsReplyFor (opened : Opened) (history : List Judged) (touch : Touch) (reply : Reply)
    : Type 0 where
  pub tables : Tables
  pub given : IsGiven opened tables
  pub is : reply ≡ judge_after tables opened.header.cards history touch

-- the view is what is seen of the card after the history, by the opening's tables
pub record IsViewFor (opened : Opened) (history : List Judged) (card : ℕ) (view : CardView)
    : Type 0 where
  pub tables : Tables
  pub given : IsGiven opened tables
  pub is : view ≡ view_after tables opened.header.cards history card
