-- What comes of a touch where nothing goes wrong: the station reads the whole frame, and the gate
-- the whole frame of the answer (PROOFS.md, "A gate and its station").
use Rattle.std.specs.Prelude.{◌≡◌, ◌≢◌, ℕ, true, length, Result, Ok, Err}
use Rattle.station_limits.specs.declared.limits.TheConstants.{HISTORY_LIMIT}
use Rattle.oyster_account.specs.declared.touch.Touch.{Touch}
use Rattle.oyster_account.specs.declared.reply.Reply.{Reply}
use Rattle.reply_book.specs.declared.entry.Found.TheVariants.{New, Conflict}
use Rattle.reply_book.specs.declared.book.Book.{Book}
use Rattle.reply_book.specs.Book.{entries_of, tables_of, HasRoom}
use Rattle.reply_book.specs.Tables.{is_known}
use Rattle.reply_book.specs.Lookup.{found}
use Rattle.gate_session.specs.declared.request.Request.{Request}
use Rattle.gate_session.specs.declared.request.Request.TheVariants as requests
use Rattle.gate_session.specs.declared.answer.Answer.{Answer}
use Rattle.gate_session.specs.declared.answer.Answer.TheVariants as answers
use Rattle.gate_client.specs.declared.fault.HearFault.{HearFault}
use Rattle.gate_client.specs.declared.fault.HearFault.TheVariants.{Refused}

-- the clerk was handed this touch, and a gate hears what it answered: of a reply to the touch the
-- reply, and of a fault of it the code
pub record IsHeard {C : Type 0} (gives : C → Request → Answer → C → Type 0) (touch : Touch)
    (old new : C) (result : Result Reply HearFault) : Type 0 where
  pub answer : Answer
  pub given : gives old (requests.Touch touch) answer new
  pub reply : (reply : Reply) → answer ≡ answers.Reply touch.gate touch.number reply
      → result ≡ Ok reply
  pub fault : (code : ℕ) → answer ≡ answers.Fault code touch.gate touch.number
      → result ≡ Err (Refused code)

-- the answer is a reply to this touch
abbrev pub IsReplyTo : Touch → Answer → Type 0
IsReplyTo touch answer = (reply : Reply) × (answer ≡ answers.Reply touch.gate touch.number reply)

-- whatever a clerk in this state gives to the touch, it is a reply to it
abbrev pub DoesReply : {C : Type 0} → (C → Request → Answer → C → Type 0) → C → Touch → Type 0
DoesReply {C = C} gives clerk touch = (answer : Answer) (new : C)
    → gives clerk (requests.Touch touch) answer new → IsReplyTo touch answer

-- nothing goes wrong with this touch at a book: no other touch has its gate and number, and if it
-- is new, the book knows the table that it names, isn't full, and has memory for it
pub record IsReady (book : Book) (touch : Touch) : Type 0 where
  pub no_other : found (entries_of book) touch ≢ Conflict
  pub known : found (entries_of book) touch ≡ New → is_known (tables_of book) touch ≡ true
  pub not_full : found (entries_of book) touch ≡ New → length (entries_of book) ≢ HISTORY_LIMIT
  pub room : found (entries_of book) touch ≡ New → HasRoom book touch
