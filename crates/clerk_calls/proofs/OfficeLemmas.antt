-- That the program's clerk answers from a log, and that the list of its desk is one.
use Rattle.std.proofs.Common.{◌≡◌, ◌⊎◌, inl, inr, ℕ, zero, suc, ◌≤◌, List, [], ◌∷◌, length, take, ap, subst, arith}
use Rattle.std.proofs.Common.{◌∙◌, Option, Some, None, IfSome, sym}
use Rattle.text_io.specs.Writing.{Ran}
use Rattle.reply_book.specs.declared.entry.Entry.{Entry}
use Rattle.reply_book.specs.Tables.{Tables}
use Rattle.reply_book.specs.Legal.{IsLegal, history_of}
use Rattle.gate_session.specs.declared.request.Request.{Request}
use Rattle.gate_session.specs.declared.request.Request.TheVariants as requests
use Rattle.gate_session.specs.declared.answer.Answer.{Answer}
use Rattle.gate_session.specs.declared.session.Served.{Served}
use Rattle.gate_session.specs.Frames.{RequestFits}
use Rattle.gate_session.specs.Answers.{AnswerFits}
use Rattle.gate_session.specs.Session.{IsSession}
use Rattle.door_clerk.specs.Door.{refusal_of}
use Rattle.gate_law.specs.Steps.{is_reply}
use Rattle.tap_desk.specs.declared.desk.Enquiry.{Enquiry}
use Rattle.tap_desk.specs.Listed.{BeginsWith}
use Rattle.tap_office.specs.Name.{Opened}
use Rattle.tap_office.specs.Given.{IsGiven}
use Rattle.tap_office.specs.Enquiry.{IsAnswerFrom}
use Rattle.tap_office.specs.Seat.{SeatState}
use Rattle.office_lines.specs.Clerk.{ClerkState, HasGiven}
use Rattle.clerk_calls.specs.Logged.{DoesFromLog, IsLogOf, IsServedFromLog}
use Rattle.clerk_calls.specs.Listed.{IsServedFromList, log_by}
use Rattle.clerk_calls.specs.Answered.{HasSaid}
use Rattle.clerk_calls.proofs.LogLemmas.{session-logged}

-- a list is no shorter than what it begins with
no_shorter : (n : ℕ) (xs : List Entry) → length (take n xs) ≤ length xs
no_shorter zero [] = omega arith
no_shorter zero (x ∷ xs) = omega arith
no_shorter (suc n) [] = omega arith
no_shorter (suc n) (x ∷ xs) = let rest = no_shorter n xs in omega arith

pub begins-length : (found point : List Entry) → take (length found) point ≡ found → length found ≤ length point
begins-length found point begins =
    subst (λ (l : List Entry). length l ≤ length point) begins (no_shorter (length found) point)

module _ {C : Type 0} (clerk : C → ClerkState) (opened : Opened) where
  abbrev points : C → List (List Entry)
  points c = (clerk c).desk.points

  abbrev seen : C → ℕ
  seen c = (clerk c).seat.seen

  pub from-log : (old new : C) (request : Request) (answer : Answer)
      → HasGiven opened (clerk old) (clerk new) request answer
      → DoesFromLog points seen (length opened.recovered) old request answer new
  from-log old new (requests.Touch touch) answer (inl is) = inl (record {
    point = is.point;
    place = is.place;
    reply = is.reply;
    seat = is.seat;
    stands = is.stands;
    seen_is = is.seen;
    not_below = is.not_below;
    no_shorter = begins-length opened.recovered is.point is.begins;
    learnt = is.learnt;
    is = is.is;
  })
  from-log old new (requests.Touch touch) answer (inr is) = inr (record {
    none = ap is_reply is.is;
    learnt = (is.point ∷ [], is.learnt);
    seen_is = ap (λ (s : SeatState). s.seen) is.kept;
  })
  from-log old new (requests.Enquire card) answer (inl is) = record {
    none = ap is_reply is.is;
    learnt = ([], is.points);
    seen_is = ap (λ (s : SeatState). s.seen) is.kept;
  }
  from-log old new (requests.Enquire card) answer (inr is) = record {
    none = ap is_reply is.is;
    learnt = ([], is.points);
    seen_is = ap (λ (s : SeatState). s.seen) is.kept;
  }

-- so a session of a clerk that gives what an office's clerk gives is one of a log
pub office-session : {C : Type 0} {gives : C → Request → Answer → C → Type 0} (old new : C) (turns : ℕ)
    (served : Served) (bytes text : List ℕ) → (is : IsSession gives old new turns served bytes text)
    → (clerk : C → ClerkState) (opened : Opened)
    → ((before after : C) (request : Request) (answer : Answer) → gives before request answer after
    → HasGiven opened (clerk before) (clerk after) request answer × AnswerFits answer)
    → IsServedFromLog (length opened.recovered) (clerk old).seat.seen (clerk new).desk.points is.exchange.handed
    is.exchange.sent bytes text
office-session {gives = gives} old new turns served bytes text is clerk opened has =
    session-logged gives (points clerk opened) (seen clerk opened) (length opened.recovered) (record {
      does = λ before after request answer given.
          from-log clerk opened before after request answer (has before after request answer given).0;
      fitting = λ before after request answer fits given. (has before after request answer given).1;
    }) old new turns served bytes text is

-- what a clerk gives, or the fault of a request that a door keeps out, which leaves the clerk as it was
abbrev pub IsGivenOrOut : Opened → ClerkState → ClerkState → Request → Answer → Type 0
IsGivenOrOut opened before after request answer =
    (HasGiven opened before after request answer × AnswerFits answer)
    ⊎ ((answer ≡ refusal_of request) × (after ≡ before))

module _ {C : Type 0} (clerk : C → ClerkState) (opened : Opened) where
  -- what is kept out is no reply, and no log point is learnt
  out-from-log : (old new : C) (request : Request) (answer : Answer) → answer ≡ refusal_of request
      → clerk new ≡ clerk old
      → DoesFromLog (points clerk opened) (seen clerk opened) (length opened.recovered) old request answer new
  out-from-log old new (requests.Touch touch) answer is kept = inr (record {
    none = ap is_reply is;
    learnt = ([], ap (λ (k : ClerkState). k.desk.points) kept);
    seen_is = ap (λ (k : ClerkState). k.seat.seen) kept;
  })
  out-from-log old new (requests.Enquire card) answer is kept = record {
    none = ap is_reply is;
    learnt = ([], ap (λ (k : ClerkState). k.desk.points) kept);
    seen_is = ap (λ (k : ClerkState). k.seat.seen) kept;
  }

-- the fault of what is kept out has the request's own numbers
out-fits : (request : Request) → RequestFits request → AnswerFits (refusal_of request)
out-fits (requests.Touch touch) fits = (omega arith, fits.gate, fits.number)
out-fits (requests.Enquire card) fits = (omega arith, omega arith, omega arith)

-- so a session behind a door, whose clerk gives what an office's clerk gives, is one of a log
pub door-session : {C : Type 0} {gives : C → Request → Answer → C → Type 0} (old new : C) (turns : ℕ)
    (served : Served) (bytes text : List ℕ) → (is : IsSession gives old new turns served bytes text)
    → (clerk : C → ClerkState) (opened : Opened)
    → ((before after : C) (request : Request) (answer : Answer) → gives before request answer after
    → IsGivenOrOut opened (clerk before) (clerk after) request answer)
    → IsServedFromLog (length opened.recovered) (clerk old).seat.seen (clerk new).desk.points is.exchange.handed
    is.exchange.sent bytes text
door-session {gives = gives} old new turns served bytes text is clerk opened has =
    session-logged gives (points clerk opened) (seen clerk opened) (length opened.recovered) (record {
      does = λ before after request answer given. elim (has before after request answer given) [
        | inl (does, fits) ↦ from-log clerk opened before after request answer does
        | inr (is_out, kept) ↦ out-from-log clerk opened before after request answer is_out kept
      ];
      fitting = λ before after request answer asked given. elim (has before after request answer given) [
        | inl (does, fits) ↦ fits
        | inr (is_out, kept) ↦ subst AnswerFits (sym is_out) (out-fits request asked)
      ];
    }) old new turns served bytes text is

-- an opening was given one set of tables
abbrev given_in : Tables → Option (Tables × ℕ) → Tables
given_in other None = other
given_in other (Some table) = table.0

given-once : (opened : Opened) (a b : Tables) → IsGiven opened a → IsGiven opened b → a ≡ b
given-once opened a b first second = ap (given_in a) (sym first ∙ second)

-- the list that an enquiry is answered from, which begins with each of these points, is a log of them
pub list-log : (opened : Opened) (entries : List Entry) (card : ℕ) (enquiry : Enquiry)
    → IsAnswerFrom opened entries card enquiry → (points : List (List Entry)) → BeginsWith points entries
    → (tables : Tables) → IsGiven opened tables → IsLogOf (log_by opened tables entries) points
list-log opened entries card enquiry from points begins tables given = record {
  legal =
      subst (λ (t : Tables). IsLegal t opened.header.cards (history_of entries))
      (given-once opened from.tables tables from.given given) from.legal;
  begins = begins;
}

-- so what was served by a log of these points is served by that list
pub served-by-list : (opened : Opened) (seen : ℕ) (entries : List Entry) (card : ℕ) (enquiry : Enquiry)
    (points : List (List Entry)) (handed : List Request) (sent : List Answer) (bytes text : List ℕ)
    → IsServedFromLog (length opened.recovered) seen points handed sent bytes text
    → IsAnswerFrom opened entries card enquiry → BeginsWith points entries
    → IsServedFromList opened seen entries handed sent bytes text
served-by-list opened seen entries card enquiry points handed sent bytes text served from begins tables given =
    served (log_by opened tables entries) (list-log opened entries card enquiry from points begins tables given)

-- so it is where a desk was asked after a session
pub then-listed : {C : Type 0} {gives : C → Request → Answer → C → Type 0} {old mid : C} {turns : ℕ} {served : Served}
    {unread left before after : Option (List ℕ)} {seen : ℕ} {earlier points : List (List Entry)} (opened : Opened)
    (entries : List Entry) (card : ℕ) (result : Option Enquiry) → IfSome result (IsAnswerFrom opened entries card)
    → IfSome result (λ _. BeginsWith points entries)
    → Ran unread left before after (λ bytes text. (is : IsSession gives old mid turns served bytes text)
    × IsServedFromLog (length opened.recovered) seen points is.exchange.handed is.exchange.sent bytes text
    × HasSaid opened earlier points is.exchange.handed is.exchange.sent)
    → IfSome result (λ _. Ran unread left before after
    (λ bytes text. (last : C) × (is : IsSession gives old last turns served bytes text)
    × IsServedFromList opened seen entries is.exchange.handed is.exchange.sent bytes text))
then-listed opened entries card None from begins run = tt
then-listed {mid = mid} {seen = seen} {points = points} opened entries card (Some enquiry) from begins run =
    let e = run.says.0.exchange in
    record {
      bytes = run.bytes;
      text = run.text;
      consumed = run.consumed;
      appended = run.appended;
      says = (
        mid,
        run.says.0,
        served-by-list opened seen entries card enquiry points e.handed e.sent run.bytes run.text run.says.1 from
            begins,
      );
    }
