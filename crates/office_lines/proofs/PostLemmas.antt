-- What a whole session leaves of its seat, and how many requests it has at most.
use Rattle.std.proofs.Common.{◌≡◌, ℕ, ◌+◌, ◌*◌, ◌≤◌, Bool, true, false, List, [], ◌∷◌, ◌++◌, length, Option, Some, None}
use Rattle.std.proofs.Common.{refl, sym, ap, subst, ◌∙◌, inl, inr, append_assoc, append-nil, arith}
use mathlib.Core.List.{IsPrefix}
use Rattle.std.specs.List.{All}
use Rattle.std.proofs.lemmas.List.{length-append}
use Rattle.std.proofs.lemmas.List.Elements.{All-head, All-tail}
use Rattle.gate_session.specs.declared.request.Request.{Request}
use Rattle.gate_session.specs.declared.request.Request.TheVariants as requests
use Rattle.gate_session.specs.declared.answer.Answer.{Answer}
use Rattle.gate_session.specs.declared.session.End.{End}
use Rattle.gate_session.specs.declared.session.End.TheVariants as ends
use Rattle.gate_session.specs.declared.session.Served.{Served}
use Rattle.gate_session.specs.declared.session.TheConstants.{PIECE_SIZE}
use Rattle.gate_session.specs.Clerk.{IsRun}
use Rattle.gate_session.specs.Session.{IsPiece, IsSession, joined, reads_of}
use Rattle.gate_session.proofs.SessionLemmas.{row_long}
use Rattle.tap_office.specs.Name.{Opened}
use Rattle.tap_office.specs.Seat.{SeatState}
use Rattle.oyster_account.specs.declared.touch.Touch.{Touch}
use Rattle.reply_book.specs.declared.entry.Entry.{Entry}
use Rattle.tap_office.specs.declared.receipt.Receipt.{Receipt}
use Rattle.tap_office.specs.Receipt.{Files, filed_of}
use Rattle.tap_desk.specs.declared.copy_version.LogName.{Ghosts}
use Rattle.tap_desk.specs.Desks.{DeskState}
use Rattle.tap_desk.proofs.Prefixes.{prefix_self, prefix_trans}
use Rattle.office_lines.specs.Clerk.{ClerkState, GoesOn, DeskGoesOn, HasGiven}
use Rattle.office_lines.specs.Post.{HasGivenMore}

-- ---- lines

pub HasGivenMore-none : (given : Option ℕ) → HasGivenMore given given 0
HasGivenMore-none None = tt
HasGivenMore-none (Some count) = omega arith

pub HasGivenMore-more : (a b c : Option ℕ) (m n : ℕ) → HasGivenMore a b m → HasGivenMore b c n
    → HasGivenMore a c (m + n)
HasGivenMore-more None b c m n first second = tt
HasGivenMore-more (Some x) None c m n first second = absurd first
HasGivenMore-more (Some x) (Some y) None m n first second = absurd second
HasGivenMore-more (Some x) (Some y) (Some z) m n first second = omega (arith, first, second)

-- ---- seats

pub GoesOn-same : (before after : SeatState) → after ≡ before → GoesOn 0 before after
GoesOn-same before after is = record {
  number = ap (λ (s : SeatState). s.number) is;
  later = [];
  receipts = ap (λ (s : SeatState). s.receipts) is ∙ sym (append-nil before.receipts);
  few = omega arith;
}

pub GoesOn-more : (m n : ℕ) (a b c : SeatState) → GoesOn m a b → GoesOn n b c → GoesOn (m + n) a c
GoesOn-more m n a b c first second = record {
  number = second.number ∙ first.number;
  later = first.later ++ second.later;
  receipts =
      second.receipts
      ∙ ap (λ (l : List _). l ++ second.later) first.receipts
      ∙ append_assoc a.receipts first.later second.later;
  few = omega (arith, first.few, second.few, length-append first.later second.later);
}

-- a bound on the requests may be larger
pub GoesOn-within : (m n : ℕ) (a b : SeatState) → m ≤ n → GoesOn m a b → GoesOn n a b
GoesOn-within m n a b within on = record {
  number = on.number;
  later = on.later;
  receipts = on.receipts;
  few = omega (arith, within, on.few);
}

-- ---- desks

pub DeskGoesOn-same : (before after : DeskState) → after.list ≡ before.list → after.points ≡ before.points
    → DeskGoesOn 0 before after
DeskGoesOn-same before after list points = record {
  list = subst (λ (l : List Entry). IsPrefix before.list l) (sym list) (prefix_self before.list);
  newer = [];
  points = points;
  few = omega arith;
}

pub DeskGoesOn-more : (m n : ℕ) (a b c : DeskState) → DeskGoesOn m a b → DeskGoesOn n b c → DeskGoesOn (m + n) a c
DeskGoesOn-more m n a b c first second = record {
  list = prefix_trans a.list b.list c.list first.list second.list;
  newer = second.newer ++ first.newer;
  points =
      second.points
      ∙ ap (λ (l : List (List Entry)). second.newer ++ l) first.points
      ∙ sym (append_assoc second.newer first.newer a.points);
  few = omega (arith, first.few, second.few, length-append second.newer first.newer);
}

pub DeskGoesOn-within : (m n : ℕ) (a b : DeskState) → m ≤ n → DeskGoesOn m a b → DeskGoesOn n a b
DeskGoesOn-within m n a b within on = record {
  list = on.list;
  newer = on.newer;
  points = on.points;
  few = omega (arith, within, on.few);
}

-- ---- clerks

-- a clerk goes on over so many requests where its seat and its desk do
pub record ClerkGoesOn (requests : ℕ) (before after : ClerkState) : Type 0 where
  pub seat : GoesOn requests before.seat after.seat
  pub desk : DeskGoesOn requests before.desk after.desk

ClerkGoesOn-same : (before after : ClerkState) → after ≡ before → ClerkGoesOn 0 before after
ClerkGoesOn-same before after is = record {
  seat = GoesOn-same before.seat after.seat (ap (λ (k : ClerkState). k.seat) is);
  desk = DeskGoesOn-same before.desk after.desk (ap (λ (k : ClerkState). k.desk.list) is)
      (ap (λ (k : ClerkState). k.desk.points) is);
}

pub ClerkGoesOn-within : (m n : ℕ) (a b : ClerkState) → m ≤ n → ClerkGoesOn m a b → ClerkGoesOn n a b
ClerkGoesOn-within m n a b within on = record {
  seat = GoesOn-within m n a.seat b.seat within on.seat;
  desk = DeskGoesOn-within m n a.desk b.desk within on.desk;
}

ClerkGoesOn-more : (m n : ℕ) (a b c : ClerkState) → ClerkGoesOn m a b → ClerkGoesOn n b c → ClerkGoesOn (m + n) a c
ClerkGoesOn-more m n a b c first second = record {
  seat = GoesOn-more m n a.seat b.seat c.seat first.seat second.seat;
  desk = DeskGoesOn-more m n a.desk b.desk c.desk first.desk second.desk;
}

-- a receipt files the touch, or it is a repeat's
pub filed : {N : Type 0} {g : Ghosts N} (touch : Touch) (before after : SeatState) (receipt : Receipt N g)
    → Files touch before after receipt → GoesOn 1 before after
filed touch before after receipt files = by_fresh receipt.fresh refl
  where
    by_fresh : (fresh : Bool) → receipt.fresh ≡ fresh → GoesOn 1 before after
    by_fresh true new = record {
      number = files.number;
      later = filed_of receipt ∷ [];
      receipts = files.fresh new;
      few = omega arith;
    }
    by_fresh false again = record {
      number = files.number;
      later = [];
      receipts = files.repeat again ∙ sym (append-nil before.receipts);
      few = omega arith;
    }

-- a request may leave the seat as it was, and the desk
kept : (before after : SeatState) → after ≡ before → GoesOn 1 before after
kept before after is = GoesOn-within 0 1 before after (omega arith) (GoesOn-same before after is)

desk_kept : (before after : DeskState) → after.list ≡ before.list → after.points ≡ before.points
    → DeskGoesOn 1 before after
desk_kept before after list points =
    DeskGoesOn-within 0 1 before after (omega arith) (DeskGoesOn-same before after list points)

-- or the desk learns a log point
desk_learnt : (before after : DeskState) (point : List Entry) → after.list ≡ before.list
    → after.points ≡ point ∷ before.points → DeskGoesOn 1 before after
desk_learnt before after point list learnt = record {
  list = subst (λ (l : List Entry). IsPrefix before.list l) (sym list) (prefix_self before.list);
  newer = point ∷ [];
  points = learnt;
  few = omega arith;
}

pub given-goes_on : (opened : Opened) (before after : ClerkState) (request : Request) (answer : Answer)
    → HasGiven opened before after request answer → ClerkGoesOn 1 before after
given-goes_on opened before after (requests.Touch touch) answer given =
    elim given [
      | inl is ↦ record {
        seat = is.goes_on;
        desk = desk_learnt before.desk after.desk is.point is.list is.learnt;
      }
      | inr is ↦ record {
        seat = kept before.seat after.seat is.kept;
        desk = desk_learnt before.desk after.desk is.point is.list is.learnt;
      }
    ]
given-goes_on opened before after (requests.Enquire card) answer given =
    elim given [
      | inl is ↦ record {
        seat = kept before.seat after.seat is.kept;
        desk = record { list = is.list; newer = []; points = is.points; few = omega arith };
      }
      | inr is ↦ record {
        seat = kept before.seat after.seat is.kept;
        desk = desk_kept before.desk after.desk is.list is.points;
      }
    ]

-- so it does over a run of a clerk each of whose answers has it go on
pub run-goes_on : {C : Type 0} (gives : C → Request → Answer → C → Type 0) (state_of : C → ClerkState)
    → ((x y : C) (request : Request) (answer : Answer) → gives x request answer y
    → ClerkGoesOn 1 (state_of x) (state_of y))
    → (old new : C) (handed : List Request) (replies : List Answer) → IsRun gives old handed replies new
    → ClerkGoesOn (length handed) (state_of old) (state_of new)
run-goes_on gives state_of each old new [] [] run =
    ClerkGoesOn-same (state_of old) (state_of new) (ap state_of run)
run-goes_on gives state_of each old new (request ∷ handed) (answer ∷ replies) run =
    let long : 1 + length handed ≡ length (request ∷ handed) = omega arith in
    subst (λ (n : ℕ). ClerkGoesOn n (state_of old) (state_of new)) long
    (ClerkGoesOn-more 1 (length handed) (state_of old) (state_of run.0) (state_of new)
    (each old run.0 request answer run.1) (run-goes_on gives state_of each run.0 new handed replies run.2))
run-goes_on gives state_of each old new [] (answer ∷ replies) run = absurd run
run-goes_on gives state_of each old new (request ∷ handed) [] run = absurd run

-- and so it does over a session, by as many requests as were counted
pub session-goes_on : {C : Type 0} (gives : C → Request → Answer → C → Type 0) (state_of : C → ClerkState)
    → ((x y : C) (request : Request) (answer : Answer) → gives x request answer y
    → ClerkGoesOn 1 (state_of x) (state_of y))
    → (old new : C) (turns : ℕ) (served : Served) (bytes text : List ℕ)
    → IsSession gives old new turns served bytes text → ClerkGoesOn served.requests (state_of old) (state_of new)
session-goes_on gives state_of each old new turns served bytes text session =
    subst (λ (n : ℕ). ClerkGoesOn n (state_of old) (state_of new)) (sym session.requests)
    (run-goes_on gives state_of each old new session.exchange.handed session.exchange.replies session.is.run)

-- what each answer keeps, the run keeps
pub run-keeps : {C X : Type 0} (gives : C → Request → Answer → C → Type 0) (name_of : C → X)
    → ((x y : C) (request : Request) (answer : Answer) → gives x request answer y → name_of y ≡ name_of x)
    → (old new : C) (handed : List Request) (replies : List Answer) → IsRun gives old handed replies new
    → name_of new ≡ name_of old
run-keeps gives name_of each old new [] [] run = ap name_of run
run-keeps gives name_of each old new (request ∷ handed) (answer ∷ replies) run =
    run-keeps gives name_of each run.0 new handed replies run.2 ∙ each old run.0 request answer run.1
run-keeps gives name_of each old new [] (answer ∷ replies) run = absurd run
run-keeps gives name_of each old new (request ∷ handed) [] run = absurd run

-- ---- requests

joined_few : (pieces : List (List ℕ)) → All IsPiece pieces → length (joined pieces) ≤ PIECE_SIZE * length pieces
joined_few [] sizes = omega arith
joined_few (piece ∷ pieces) sizes =
    let first : IsPiece piece = All-head IsPiece piece pieces sizes in
    let few = joined_few pieces (All-tail IsPiece piece pieces sizes) in
    omega (arith, first.few, few, length-append piece (joined pieces))

reads_more : (end : End) (pieces : ℕ) → pieces ≤ reads_of end pieces
reads_more ends.Closed pieces = omega arith
reads_more ends.CutFrame pieces = omega arith
reads_more ends.BadFrame pieces = omega arith
reads_more ends.ReadFault pieces = omega arith
reads_more ends.WriteFault pieces = omega arith
reads_more ends.Turns pieces = omega arith
reads_more ends.Memory pieces = omega arith

-- a request has a byte at least, and a read gives no more than a piece has
pub requests_few : {C : Type 0} (gives : C → Request → Answer → C → Type 0) (old new : C) (turns : ℕ)
    (served : Served) (bytes text : List ℕ)
    → IsSession gives old new turns served bytes text → served.requests ≤ PIECE_SIZE * turns
requests_few gives old new turns served bytes text session =
    omega (
      arith,
      session.requests,
      row_long (joined session.pieces) session.exchange.rest session.exchange.handed session.is.first,
      joined_few session.pieces session.sizes,
      reads_more served.end (length session.pieces),
      session.few,
    )
