-- What closing accounts for: which entries of the history belong to which seat (OFFICE.md,
-- "Closing"; this project's choice).
use Rattle.std.specs.Prelude.{◌≡◌, ℕ, ◌+◌, ◌≤◌, ◌==◌, List, [], ◌∷◌, Bool, true, Some}
use Rattle.std.specs.Prelude.{if◌then◌else◌, slice_get, length, map, take, drop}
use Rattle.std.specs.List.{All, sum_by}
use Rattle.reply_book.specs.declared.entry.Entry.{Entry}
use Rattle.tap_office.specs.declared.receipt.Filed.{Filed}
use Rattle.reply_book.specs.declared.book.Book.{Book}
use Rattle.reply_book.specs.Book.{Stands, entries_of, cards_of, tables_of}
use Rattle.tap_office.specs.Name.{Opened}
use Rattle.tap_office.specs.Given.{IsGiven}
use Rattle.tap_office.specs.Keeper.{IsLeft}
use Rattle.tap_office.specs.Seat.{SeatState, rises}

-- the receipt for an entry at this place
abbrev pub filed_at : ℕ → Entry → Filed
filed_at place entry = record { place = place; touch = entry.touch; reply = entry.reply }

-- the receipts for the entries with this seat's number, where the first entry stands at this place
abbrev pub filed_by : ℕ → ℕ → List Entry → List Filed
filed_by number place [] = []
filed_by number place (entry ∷ later) =
    if entry.seat == number
    then filed_at place entry ∷ filed_by number (place + 1) later
    else filed_by number (place + 1) later

-- the entry that a receipt of this seat is for
abbrev pub entry_of : ℕ → Filed → Entry
entry_of number filed = record { touch = filed.touch; reply = filed.reply; seat = number }

-- the receipt's touch stands at its place, with its reply and this seat's number
abbrev pub IsAtPlace : List Entry → ℕ → Filed → Type 0
IsAtPlace entries number filed = slice_get entries filed.place ≡ Some (entry_of number filed)

-- each receipt of the seat does
abbrev pub AreAtPlaces : List Entry → SeatState → Type 0
AreAtPlaces entries seat = All (IsAtPlace entries seat.number) seat.receipts

-- a seat whose receipts were looked up
pub record IsReady (entries : List Entry) (seat : SeatState) : Type 0 where
  pub numbered : 1 ≤ seat.number
  pub rising : rises 0 seat.seen seat.receipts ≡ true
  pub stands : AreAtPlaces entries seat

-- how often a number stands in the list
abbrev pub times : ℕ → List ℕ → ℕ
times number [] = 0
times number (n ∷ others) = (if n == number then 1 else 0) + times number others

-- the numbers of these seats
abbrev pub numbers : List SeatState → List ℕ
numbers seats = map (λ (seat : SeatState). seat.number) seats

-- there are so many seats, with the numbers from 1 on, each once
pub record AreNumbered (count : ℕ) (seats : List SeatState) : Type 0 where
  pub all : length seats ≡ count
  pub once : (number : ℕ) → 1 ≤ number → number ≤ count → times number (numbers seats) ≡ 1

-- the history is what was found, with seat 0, and then what the seats filed and nothing else: the
-- entries with a seat's number are that seat's receipts, in its order, each once at its place
pub record Settles (recovered : List Entry) (count : ℕ) (seats : List SeatState)
    (entries : List Entry) : Type 0 where
  pub begins : take (length recovered) entries ≡ recovered
  pub none_filed : All (λ entry. entry.seat ≡ 0) recovered
  pub numbered : AreNumbered count seats
  pub filed : All (λ seat. seat.receipts ≡ filed_by seat.number 0 entries) seats
  pub seated :
      All (λ entry. (1 ≤ entry.seat) × (entry.seat ≤ count)) (drop (length recovered) entries)
  pub grows : length entries ≡ length recovered + sum_by (λ seat. length seat.receipts) seats

-- what is left of an office: its book is by the opening's tables and cards, its history is legal,
-- begins with what was found, and is what its disk has
pub record IsEnd {D : Type 0} (honest : D → Type 0) (content : D → List ℕ)
    (outcome : D → List ℕ → Type 0) (opened : Opened) (book : Book) (halted : Bool) (disk : D)
    : Type 0 where
  pub tables : IsGiven opened (tables_of book)
  pub legal : Stands book
  pub cards : cards_of book ≡ opened.header.cards
  pub begins : take (length opened.recovered) (entries_of book) ≡ opened.recovered
  pub left : IsLeft honest content outcome opened.header (entries_of book) halted disk
