-- What contracts see of an opening, and of the seats that it makes (OFFICE.md, "An opening";
-- this project's choice).
use Rattle.std.specs.Prelude.{◌≡◌, ◌⊎◌, ℕ, ℤ, ◌+◌, ◌≤◌, ◌<◌, List, [], length, Bool, false, Some}
use Rattle.std.specs.Prelude.{Result, Ok, Err, Option, None, slice_index_or}
use Rattle.std.specs.List.{All}
use Rattle.logbook.specs.Pages.{Book as Logbook}
use Rattle.station_limits.specs.declared.limits.TheConstants.{CARDS_LIMIT, HISTORY_LIMIT}
use Rattle.station_limits.specs.declared.limits.TheConstants.{LINES_LIMIT}
use Rattle.fare_table.specs.Fares.{digest_of}
use Rattle.oyster_account.specs.declared.touch.Touch.{Touch}
use Rattle.tap_disk.specs.declared.disk.Disk.{Ghosts}
use Rattle.tap_journal.specs.declared.journal.Journal.{Journal}
use Rattle.tap_journal.specs.declared.fault.JournalFault.{JournalFault}
use Rattle.tap_journal.specs.declared.fault.JournalFault.TheVariants.{Memory, Device, Damaged}
use Rattle.tap_journal.specs.declared.fault.JournalFault.TheVariants.{NoDesk, MissingTable}
use Rattle.tap_journal.specs.declared.fault.OpenFault.{OpenFault}
use Rattle.tap_journal.specs.declared.fault.Refused.{Refused}
use Rattle.tap_journal.specs.declared.fault.Discrepancy.{Discrepancy}
use Rattle.tap_journal.specs.declared.fault.Discrepancy.TheVariants.{Revision}
use Rattle.tap_journal.specs.Layout.{Header, header_of}
use Rattle.tap_journal.specs.Image.{Image}
use Rattle.tap_journal.specs.Opening.{HasCause}
use Rattle.tap_journal.specs.Found.{found_in}
use Rattle.tap_journal.specs.Crash.{Stands, capacity_of, is_stopped}
use Rattle.reply_book.specs.declared.entry.Entry.{Entry}
use Rattle.reply_book.specs.declared.book.Book.{Book}
use Rattle.reply_book.specs.Tables.{Tables, AreKnown}
use Rattle.reply_book.specs.declared.fault.ReplayFault.{ReplayFault}
use Rattle.reply_book.specs.declared.fault.ReplayFault.TheVariants as faults
use Rattle.reply_book.specs.Replay.{IsRepeatedAt, IsMissingAt, IsRevisionAt}
use Rattle.reply_book.specs.Book.{entries_of, cards_of, tables_of, Stands as BookStands}
use Rattle.reply_book.specs.Legal.{touches_of, history_of, IsLegal}
use Rattle.tap_desk.specs.declared.commit_log.CommitLog.{CommitLog}
use Rattle.tap_desk.specs.CommitLog.{logged, table_of}
use Rattle.tap_desk.specs.Desks.{DeskState}
use Rattle.tap_office.specs.Name.{Opened}
use Rattle.tap_office.specs.Seat.{SeatState, fresh_seat}

-- the header of a journal of this capacity, for so many cards, by these tables: it names the first
abbrev pub header_by : ℕ → ℕ → Tables → Header
header_by capacity cards tables = header_of capacity cards (digest_of tables.first)

-- an opening: the fare tables, the journal's header, the history that was found, how many open
-- slots stood behind the journal's end where they were counted, how many seats are to be made, the
-- two ledgers, the logbook of the history, and the disk
pub record OpeningState (D : Type 0) : Type 0 where
  pub tables : Tables
  pub header : Header
  pub recovered : List Entry
  pub behind : Option ℕ
  pub seats : ℕ
  pub receipts : ℕ
  pub numbers : ℕ
  pub commit_log : Logbook
  pub disk : D

-- what a name of the opening stands for
abbrev pub opened_of : {D : Type 0} → OpeningState D → Opened
opened_of opening = record {
  header = opening.header;
  recovered = opening.recovered;
  seats = opening.seats;
  receipts = opening.receipts;
  numbers = opening.numbers;
  commit_log = opening.commit_log;
  table = Some (opening.tables, opening.header.cards);
}

-- the disk of what was read, or the one that was handed back
abbrev pub disk_read : {D : Type 0} → Result (OpeningState D) (OpenFault D) → D
disk_read (Ok opening) = opening.disk
disk_read (Err fault) = fault.disk

-- the numbers of cards and of seats are in their limits
pub record AreInLimits (cards seats : ℕ) : Type 0 where
  pub some_cards : 1 ≤ cards
  pub card_limit : cards ≤ CARDS_LIMIT
  pub some_seats : 1 ≤ seats
  pub seat_limit : seats ≤ LINES_LIMIT

-- the opening is by these tables, of which the journal's header names the first, with so many cards
-- and seats, and its history is the legal one of the touches that were found, which name no other
-- table, with seat 0
pub record IsOpeningOf {D : Type 0} (given : Tables) (cards seats : ℕ) (opening : OpeningState D)
    : Type 0 where
  pub tables_is : opening.tables ≡ given
  pub cards_is : opening.header.cards ≡ cards
  pub digest_is : opening.header.digest ≡ digest_of given.first
  pub seats_is : opening.seats ≡ seats
  pub legal : IsLegal given cards (history_of opening.recovered)
  pub known : AreKnown given (touches_of opening.recovered)
  pub none_filed : All (λ entry. entry.seat ≡ 0) opening.recovered

-- the touch at this place repeats the gate and number of another, and is the first that a book of
-- these tables doesn't enter
pub record IsTwice (tables : Tables) (touches : List Touch) (fault : JournalFault) : Type 0 where
  pub place : ℕ
  pub is : fault ≡ Damaged place
  pub repeats : IsRepeatedAt tables touches place

-- the touch at this place is a revision to a table that isn't there, and is the first that a book
-- of these tables doesn't enter
pub record IsOfNoTable (tables : Tables) (touches : List Touch) (fault : JournalFault) : Type 0
  where
    pub place : ℕ
    pub is : fault ≡ MissingTable place
    pub missing : IsMissingAt tables touches place

-- this is a cause for which no book of these tables enters the touches: that of the first that it
-- doesn't enter
abbrev pub HasTouchCause : Tables → List Touch → JournalFault → Type 0
HasTouchCause tables touches fault = IsTwice tables touches fault ⊎ IsOfNoTable tables touches fault

-- the content is a journal of touches that no book of these tables enters, for this cause
pub record IsNoBook (tables : Tables) (cards : ℕ) (content : List ℕ) (fault : JournalFault) : Type 0
  where
    pub capacity : ℕ
    pub touches : List Touch
    pub image : Image (header_by capacity cards tables) touches content
    pub cause : HasTouchCause tables touches fault

-- this is a cause for which the content can't be opened with these tables and so many cards
abbrev pub HasOpenCause : Tables → ℕ → List ℕ → JournalFault → Type 0
HasOpenCause tables cards content fault =
    HasCause cards (digest_of tables.first) content fault ⊎ IsNoBook tables cards content fault

-- what a fault of the book is to whoever opens its journal
abbrev pub refused_touch : ReplayFault → Refused
refused_touch faults.Memory = record { cause = Memory; found = None }
refused_touch (faults.Repeated place) = record { cause = Damaged place; found = None }
refused_touch (faults.MissingTable place day accepted digest) =
    record { cause = MissingTable place; found = Some (Revision day accepted digest) }

-- what was found is the revision at this place of the touches, and how it is judged after the book
-- of those before it
pub record IsRevisionFound (tables : Tables) (cards : ℕ) (touches : List Touch) (place : ℕ)
    (found : Option Discrepancy) : Type 0 where
  pub day : ℤ
  pub accepted : Bool
  pub digest : List ℕ
  pub is : found ≡ Some (Revision day accepted digest)
  pub revision : IsRevisionAt tables cards touches place day accepted digest

-- this was found beside a cause for which no book enters the touches: of a table that isn't there
-- the revision to it, and of any other nothing
abbrev pub IsTouchFound : Tables → ℕ → List Touch → JournalFault → Option Discrepancy → Type 0
IsTouchFound tables cards touches (MissingTable place) found =
    IsRevisionFound tables cards touches place found
IsTouchFound tables cards touches _ found = found ≡ None

-- this was found beside a cause for which the content can't be opened: of a table that isn't there
-- the revision to it, and of any other what the header has and what was given
abbrev pub IsFound : Tables → ℕ → List ℕ → JournalFault → Option Discrepancy → Type 0
IsFound tables cards content (MissingTable place) found =
    (capacity : ℕ) × (touches : List Touch)
    × Image (header_by capacity cards tables) touches content
    × IsRevisionFound tables cards touches place found
IsFound tables cards content cause found =
    found ≡ found_in cards (digest_of tables.first) content cause

-- memory was refused or the disk failed
abbrev pub IsWant : JournalFault → Type 0
IsWant fault = (fault ≡ Memory) ⊎ (fault ≡ Device)

-- memory was refused, or there was no place for a desk
abbrev pub IsShort : JournalFault → Type 0
IsShort fault = (fault ≡ Memory) ⊎ (fault ≡ NoDesk)

-- there are so many desks, whose list is the history that was found, without log points
pub record AreNewDesks (count : ℕ) (recovered : List Entry) (desks : List DeskState) : Type 0 where
  pub all : length desks ≡ count
  pub each : All (λ desk. desk ≡ record { list = recovered; points = [] }) desks

-- the commit log has just begun, with the entries of the book and the tables by which they are
-- judged
pub record IsLogOf (book : Book) (commit_log : CommitLog) : Type 0 where
  pub logs : logged commit_log.seen.log ≡ entries_of book
  pub by : table_of commit_log.seen.log ≡ Some (tables_of book, cards_of book)
  pub fresh : commit_log.steps ≡ 0

-- there are so many seats, without receipts and numbered from 1 on
pub record AreFresh (count : ℕ) (seats : List SeatState) : Type 0 where
  pub all : length seats ≡ count
  pub each :
      (place : ℕ) (other : SeatState) → place < length seats
      → slice_index_or seats place other ≡ fresh_seat (place + 1)

module _ {D : Type 0} {g : Ghosts D} where
  -- the book and the journal are of the same touches, found under the book's tables, and the two
  -- ledgers have a part for each seat
  pub record IsRead (book : Book) (journal : Journal D g) (seats : ℕ)
      (receipt_parts number_parts : ℕ) : Type 0 where
    pub legal : BookStands book
    pub none_filed : All (λ entry. entry.seat ≡ 0) (entries_of book)
    pub limit : capacity_of journal ≤ HISTORY_LIMIT
    pub going : is_stopped journal ≡ false
    pub stands : Stands (header_by (capacity_of journal) (cards_of book) (tables_of book))
        (touches_of (entries_of book)) journal
    pub some_seats : 1 ≤ seats
    pub seat_limit : seats ≤ LINES_LIMIT
    pub receipts : receipt_parts ≡ seats
    pub numbers : number_parts ≡ seats
