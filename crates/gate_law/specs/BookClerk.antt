-- What a clerk answers from a station's book (PROTOCOL.md, "Requests and their answers").
use Rattle.std.specs.Prelude.{◌≡◌, false, length, Result, Ok, Err}
use Rattle.station_limits.specs.declared.limits.TheConstants.{HISTORY_LIMIT}
use Rattle.oyster_account.specs.declared.touch.Touch.{Touch}
use Rattle.reply_book.specs.declared.entry.Found.TheVariants.{New, Conflict as Other}
use Rattle.reply_book.specs.declared.answering.Answered.{Answered}
use Rattle.reply_book.specs.declared.answering.Answered.TheVariants.{Entered, Repeated}
use Rattle.reply_book.specs.declared.answering.AnswerFault.{AnswerFault}
use Rattle.reply_book.specs.declared.answering.AnswerFault.TheVariants as refusals
use Rattle.reply_book.specs.declared.book.Book.{Book}
use Rattle.reply_book.specs.Book.{entries_of, cards_of, tables_of, HasRoom}
use Rattle.reply_book.specs.Tables.{is_known}
use Rattle.reply_book.specs.Lookup.{found}
use Rattle.reply_book.specs.Legal.{history_of}
use Rattle.reply_book.specs.View.{view_after}
use Rattle.gate_session.specs.declared.request.Request.{Request}
use Rattle.gate_session.specs.declared.request.Request.TheVariants as requests
use Rattle.gate_session.specs.declared.answer.Answer.{Answer}
use Rattle.gate_session.specs.declared.answer.Answer.TheVariants as answers
use Rattle.gate_session.specs.declared.answer.FaultCode.{FaultCode}
use Rattle.gate_session.specs.declared.answer.FaultCode.TheVariants.{BadFrame, Conflict, Halted}
use Rattle.gate_session.specs.declared.answer.FaultCode.TheVariants.{Memory, Full, UnknownTable}
use Rattle.gate_session.specs.declared.answer.FaultCode.TheVariants.{NotAllowed}
use Rattle.gate_session.specs.Answers.{AnswerFits, fault_code}
use Rattle.gate_law.specs.Station.{DoesAnswer, station_of}

-- the fault that tells why a touch has no reply
abbrev pub code_of : AnswerFault → FaultCode
code_of refusals.Conflict = Conflict
code_of refusals.UnknownTable = UnknownTable
code_of refusals.Full = Full
code_of refusals.Memory = Memory

-- the answer to a touch of which this came in the book: its reply, or the fault for which it has
-- none
abbrev pub answer_for : Touch → Result Answered AnswerFault → Answer
answer_for touch (Ok (Entered place reply)) = answers.Reply touch.gate touch.number reply
answer_for touch (Ok (Repeated place reply)) = answers.Reply touch.gate touch.number reply
answer_for touch (Err fault) =
    answers.Fault (fault_code (code_of fault)) touch.gate touch.number

-- this is why a touch isn't entered in the book, and stands there under no reply
abbrev pub IsRefusedFor : Book → Touch → FaultCode → Type 0
IsRefusedFor book touch Conflict = found (entries_of book) touch ≡ Other
IsRefusedFor book touch UnknownTable =
    (found (entries_of book) touch ≡ New) × (is_known (tables_of book) touch ≡ false)
IsRefusedFor book touch Full =
    (found (entries_of book) touch ≡ New) × (length (entries_of book) ≡ HISTORY_LIMIT)
IsRefusedFor book touch Memory =
    (found (entries_of book) touch ≡ New) × (HasRoom book touch → ⊥)
IsRefusedFor book touch Halted = ⊥
IsRefusedFor book touch NotAllowed = ⊥
IsRefusedFor book touch BadFrame = ⊥

-- a touch is answered by a reply, or by a fault for its cause
abbrev pub HasCause : Book → Touch → Answer → Type 0
HasCause book touch (answers.Reply gate number reply) = Unit {0}
HasCause book touch (answers.Fault code gate number) =
    (cause : FaultCode) × (code ≡ fault_code cause) × IsRefusedFor book touch cause
HasCause book touch (answers.Holding view front) = ⊥

-- an enquiry is answered by what is seen of the card after the book's entries, and by how many
-- these are
abbrev pub IsToldBy : Book → Request → Answer → Type 0
IsToldBy book (requests.Touch touch) answer = HasCause book touch answer
IsToldBy book (requests.Enquire card) answer =
    answer ≡ answers.Holding
    (view_after (tables_of book) (cards_of book) (history_of (entries_of book)) card)
    (length (entries_of book))

-- a clerk of this book does of the request what the book's station does, in numbers of their types,
-- and tells what the book has
pub record IsGivenBy (old : Book) (request : Request) (answer : Answer) (new : Book) : Type 0 where
  pub does : DoesAnswer (station_of old) request answer (station_of new)
  pub fits : AnswerFits answer
  pub tells : IsToldBy old request answer
