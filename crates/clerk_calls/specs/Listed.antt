-- A session by the list of the desk at which it was served (ENQUIRIES.md; PROOFS.md, "A
-- gate and its station").
use Rattle.std.specs.Prelude.{ℕ, List, length}
use Rattle.reply_book.specs.declared.entry.Entry.{Entry}
use Rattle.reply_book.specs.Tables.{Tables}
use Rattle.gate_session.specs.declared.request.Request.{Request}
use Rattle.gate_session.specs.declared.answer.Answer.{Answer}
use Rattle.tap_office.specs.Name.{Opened}
use Rattle.tap_office.specs.Given.{IsGiven}
use Rattle.clerk_calls.specs.Logged.{Log, IsRunOf}

-- the log with these entries, by the opening's number of cards
abbrev pub log_by : Opened → Tables → List Entry → Log
log_by opened tables entries = record {
  tables = tables;
  cards = opened.header.cards;
  entries = entries;
}

-- what was handed over and answered is a run by the log with these entries, by the tables that the
-- opening was given
abbrev pub IsServedFromList :
    Opened → ℕ → List Entry → List Request → List Answer → List ℕ → List ℕ → Type 0
IsServedFromList opened seen entries handed sent bytes text =
    (tables : Tables) → IsGiven opened tables
    → IsRunOf (length opened.recovered) seen handed sent bytes text (log_by opened tables entries)
