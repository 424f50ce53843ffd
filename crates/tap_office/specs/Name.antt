-- What a name of an opening stands for (OFFICE.md, "The name"; this project's choice).
use Rattle.std.specs.Prelude.{◌≡◌, ℕ, List, [], Option, None}
use Rattle.logbook.specs.Pages.{Book as Logbook}
use Rattle.tap_journal.specs.Layout.{Header, header_of}
use Rattle.reply_book.specs.declared.entry.Entry.{Entry}
use Rattle.reply_book.specs.Tables.{Tables}

-- one opening
pub record Opened : Type 0 where
  -- the journal's capacity, the number of cards and the digest of the first fare table
  pub header : Header
  -- the history that was found, each of its entries with seat 0
  pub recovered : List Entry
  -- how many seats were made
  pub seats : ℕ
  -- which ledger counts the receipts, and which the seats' numbers
  pub receipts : ℕ
  pub numbers : ℕ
  -- which logbook is the commit log of the history
  pub commit_log : Logbook
  -- the fare tables that touches are judged by, for how many cards; none where none was opened
  pub table : Option (Tables × ℕ)

-- what no opening stands for, where none was picked
abbrev pub nothing_opened : Opened
nothing_opened = record {
  header = header_of 0 0 [];
  recovered = [];
  seats = 0;
  receipts = 0;
  numbers = 0;
  commit_log = record { number = 0; log_name = 0; cells_name = 0 };
  table = None;
}

-- the name stands for this opening, its own ledger is the one that counts the receipts, and its
-- own commit log and table are those of the opening
pub record IsNameOf (opened : Opened) (ledger parts : ℕ) (commit_log : Logbook)
    (table : Option (Tables × ℕ)) (opening : Opened) : Type 0 where
  pub is : opened ≡ opening
  pub counts : ledger ≡ opening.receipts
  pub shares : parts ≡ opening.seats
  pub log_is : commit_log ≡ opening.commit_log
  pub by : table ≡ opening.table
