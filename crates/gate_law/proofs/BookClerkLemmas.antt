-- What comes of a touch in a book is what the book's station does of it.
use Rattle.std.proofs.Common.{◌≡◌, ℕ, List, refl, ap, ◌∙◌, inl, inr, Result, Ok, Err}
use Rattle.oyster_account.specs.declared.touch.Touch.{Touch}
use Rattle.reply_book.specs.declared.entry.Entry.{Entry}
use Rattle.reply_book.specs.declared.book.Book.{Book}
use Rattle.reply_book.specs.declared.answering.Answered.{Answered}
use Rattle.reply_book.specs.declared.answering.Answered.TheVariants.{Entered, Repeated}
use Rattle.reply_book.specs.declared.answering.AnswerFault.{AnswerFault}
use Rattle.reply_book.specs.declared.answering.AnswerFault.TheVariants as refusals
use Rattle.reply_book.specs.Tables.{Tables}
use Rattle.reply_book.specs.Book.{entries_of, cards_of, tables_of}
use Rattle.reply_book.specs.Answering.{IsAnswered}
use Rattle.gate_session.specs.declared.request.Request.TheVariants as requests
use Rattle.gate_session.specs.declared.answer.FaultCode.TheVariants.{Conflict, UnknownTable, Full, Memory}
use Rattle.gate_law.specs.Station.{StationState, DoesAnswer, station_of}
use Rattle.gate_law.specs.BookClerk.{answer_for, HasCause}

-- a station of the same tables and cards, with these entries
station-with : (old new : Book) (entries : List Entry) → tables_of new ≡ tables_of old → cards_of new ≡ cards_of old
    → entries_of new ≡ entries
    → station_of new ≡ record { tables = tables_of old; cards = cards_of old; history = entries }
station-with old new entries tables cards history =
    let by_tables : Tables → StationState =
    λ t. record { tables = t; cards = cards_of new; history = entries_of new } in
    let by_cards : ℕ → StationState =
    λ n. record { tables = tables_of old; cards = n; history = entries_of new } in
    let by_history : List Entry → StationState =
    λ h. record { tables = tables_of old; cards = cards_of old; history = h } in
    ap by_tables tables ∙ ap by_cards cards ∙ ap by_history history

module _ (old new : Book) (touch : Touch) (seat : ℕ) where
  -- a new touch is entered, a repeat gets the reply that stands, and at a fault nothing changes
  pub touch-done : (given : Result Answered AnswerFault) → IsAnswered old touch seat given new
      → DoesAnswer (station_of old) (requests.Touch touch) (answer_for touch given) (station_of new)
  touch-done (Ok (Entered place reply)) is = inl (record {
    reply = reply;
    seat = seat;
    fresh = is.outcome.judged.fresh;
    lock = is.outcome.judgement;
    grown = station-with old new _ is.tables is.cards is.entries;
    is = refl;
  })
  touch-done (Ok (Repeated place reply)) is = inr (inl (record {
    place = place;
    reply = reply;
    first = is.outcome;
    kept = station-with old new _ is.tables is.cards is.entries;
    is = refl;
  }))
  touch-done (Err fault) is = inr (inr (record {
    none = refl;
    kept = station-with old new _ is.tables is.cards is.entries;
  }))

  -- a fault tells its cause
  pub touch-caused : (given : Result Answered AnswerFault) → IsAnswered old touch seat given new
      → HasCause old touch (answer_for touch given)
  touch-caused (Ok (Entered place reply)) is = tt
  touch-caused (Ok (Repeated place reply)) is = tt
  touch-caused (Err refusals.Conflict) is = (Conflict, refl, is.outcome)
  touch-caused (Err refusals.UnknownTable) is = (UnknownTable, refl, is.outcome)
  touch-caused (Err refusals.Full) is = (Full, refl, (is.outcome.0.fresh, is.outcome.1))
  touch-caused (Err refusals.Memory) is = (Memory, refl, (is.outcome.0.fresh, is.outcome.2))
