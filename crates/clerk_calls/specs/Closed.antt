-- The sessions of an office that was closed, by its history (OFFICE.md, "Closing"; PROOFS.md, "A
-- gate and its station").
use Rattle.std.specs.Prelude.{◌≡◌, ℕ, List, length, take}
use Rattle.std.specs.List.{All}
use Rattle.gate_session.specs.declared.request.Request.{Request}
use Rattle.gate_session.specs.declared.answer.Answer.{Answer}
use Rattle.reply_book.specs.declared.book.Book.{Book}
use Rattle.reply_book.specs.Book.{entries_of, tables_of}
use Rattle.reply_book.specs.Legal.{IsLegal, history_of}
use Rattle.tap_desk.specs.Desks.{DeskState}
use Rattle.tap_office.specs.Name.{Opened}
use Rattle.office_lines.specs.Clerk.{DeskGoesOn}
use Rattle.clerk_calls.specs.Logged.{Log, IsServedFromLog, IsRunOf}
use Rattle.clerk_calls.specs.Listed.{log_by}
use Rattle.clerk_calls.specs.Turns.{Turn, said_in, AreTurns}
use Rattle.clerk_calls.specs.Merged.{AreMerged}
use Rattle.clerk_calls.specs.Answered.{Saying, said_of, HaveAnswered, DoesGrow}

-- each session that was served at this desk is a run by this log: one that ended when the desk had
-- learnt what it has here, or less
abbrev pub IsLogOfSessions : Opened → Log → DeskState → Type 0
IsLogOfSessions opened log desk =
    (requests : ℕ) (then : DeskState) (seen : ℕ) (handed : List Request) (sent : List Answer)
    (bytes text : List ℕ)
    → IsServedFromLog (length opened.recovered) seen then.points handed sent bytes text
    → DeskGoesOn requests then desk
    → IsRunOf (length opened.recovered) seen handed sent bytes text log

-- the sessions of all these desks are runs by the one history of the book
abbrev pub AreOfOneLog : Opened → Book → List DeskState → Type 0
AreOfOneLog opened book desks =
    All (IsLogOfSessions opened (log_by opened (tables_of book) (entries_of book))) desks

-- said in this order, it is what a station says at its turns, each right when it comes, by the
-- book's history, from what the opening found on to its end
pub record IsInTurn (opened : Opened) (book : Book) (order : List Saying) : Type 0 where
  pub turns : List Turn
  pub right : AreTurns (log_by opened (tables_of book) (entries_of book)) opened.header.capacity
      (length opened.recovered) turns
  pub said : said_in turns ≡ said_of order

-- these lists of what was said have an order: the book's history is legal and begins with what the
-- opening found. The lists can be put together so that the history never has fewer entries than
-- before; and whenever they are, it is what a station says at its turns
pub record HaveOneOrder (opened : Opened) (book : Book) (lists : List (List Saying))
    : Type 0 where
  pub legal : IsLegal (tables_of book) opened.header.cards (history_of (entries_of book))
  pub begins : take (length opened.recovered) (entries_of book) ≡ opened.recovered
  pub order : List Saying
  pub merged : AreMerged lists order
  pub grows : DoesGrow (length opened.recovered) order
  pub every : (other : List Saying) → AreMerged lists other
      → DoesGrow (length opened.recovered) other → IsInTurn opened book other

-- whatever these desks said has such an order
abbrev pub AreInOneOrder : Opened → Book → List DeskState → Type 0
AreInOneOrder opened book desks = (lists : List (List Saying)) → HaveAnswered opened lists desks
    → HaveOneOrder opened book lists
