-- Worked examples, computed by the definitions: a log of two entries, of which another gate's is the first, a session
-- that is answered from it, and what isn't a log, a place in it, an answer from it, or a turn by it (OrderExamples has
-- turns). No table of fares decides the replies: a first issue of a card is accepted (FARES.md, "Verdicts").
use Rattle.std.proofs.Common.{◌≡◌, inl, inr, ℕ, zero, suc, pos, true, false, List, [], ◌∷◌, ◌++◌, get_or, length}
use Rattle.std.proofs.Common.{refl, sym, ap, ◌∙◌, arith, Some, subst, rules}
use Rattle.std.specs.Prelude.{Contains, slice_get}
use Rattle.oyster_account.specs.declared.touch.Act.TheVariants.{Issue}
use Rattle.oyster_account.specs.declared.touch.Touch.{Touch}
use Rattle.oyster_account.specs.declared.reply.Reply.{Reply}
use Rattle.reply_book.specs.declared.entry.Entry.{Entry}
use Rattle.reply_book.specs.declared.entry.Found.TheVariants as finds
use Rattle.reply_book.specs.Lookup.{found, is_same_touch}
use Rattle.reply_book.specs.Tables.{Tables}
use Rattle.reply_book.specs.Legal.{IsLegal, history_of}
use Rattle.reply_book.proofs.LegalLemmas.{legal-none, legal-add}
use Rattle.gate_session.specs.declared.request.Request.{Request}
use Rattle.gate_session.specs.declared.request.Request.TheVariants as requests
use Rattle.gate_session.specs.declared.answer.Answer.{Answer}
use Rattle.gate_session.specs.declared.answer.Answer.TheVariants as answers
use Rattle.gate_session.specs.declared.answer.FaultCode.TheVariants as codes
use Rattle.gate_session.specs.Answers.{AnswerFits, ReplyFits}
use Rattle.gate_session.specs.Session.{Exchange}
use Rattle.gate_law.specs.Joint.{Joint}
use Rattle.gate_law.specs.Premises.{Line}
use Rattle.gate_law.proofs.ListLemmas.{contained, contains-none, placed}
use Rattle.gate_law.specs.Sessions.{WereSent}
use Rattle.gate_law.specs.Whole.{Station, Whole}
use Rattle.tap_desk.specs.Listed.{BeginsWith}
use Rattle.tap_office.specs.declared.fault.SubmitFault.{SubmitFault}
use Rattle.tap_office.specs.declared.fault.SubmitFault.TheVariants as faults
use Rattle.tap_office.specs.Name.{nothing_opened}
use Rattle.tap_office.specs.Refusal.{IsCauseAfter}
use Rattle.office_lines.specs.Clerk.{code_of}
use Rattle.clerk_calls.specs.Turns.{Said, replies, refuses, enters, says, office_at, IsTurn, AreTurns}
use Rattle.clerk_calls.specs.Schedules.{IsPause, WasSent}
use Rattle.clerk_calls.specs.Merged.{IsMerge, AreMerged}
use Rattle.clerk_calls.specs.Answered.{newest, IsRefusedIn, AreAnswered, IsSaidTo, DoesGrow}
use Rattle.clerk_calls.specs.Logged.{Log, DoesFromLog, KeepsLog, IsLogOf, IsLoggedIn, IsBehind}
use Rattle.clerk_calls.proofs.LogLemmas.{Leads, serves-all}

-- an issue of a card, at the moment 1736150400
abbrev pub issue : ℕ → ℕ → ℕ → Touch
issue gate number card = record { gate = gate; number = number; card = card; act = Issue 1_736_150_400 }

-- issued, and refused since it was; a card that was issued has nothing on it
abbrev pub issued : Reply
issued = record { verdict = 8; change = pos 0; balance = pos 0 }

abbrev pub issued_before : Reply
issued_before = record { verdict = 21; change = pos 0; balance = pos 0 }

-- gate 9 issues card 2 at seat 2, and then gate 7 card 1 at seat 1
abbrev pub strange : Touch
strange = issue 9 1 2

abbrev pub own : Touch
own = issue 7 1 1

abbrev pub entry : Touch → Reply → ℕ → Entry
entry touch reply seat = record { touch = touch; reply = reply; seat = seat }

abbrev pub entries : List Entry
entries = entry strange issued 2 ∷ entry own issued 1 ∷ []

abbrev pub answer : Touch → Reply → Answer
answer touch reply = answers.Reply touch.gate touch.number reply

-- a clerk's log points, newest first, and how many entries it has seen
record Kept : Type 0 where
  points : List (List Entry)
  seen : ℕ

abbrev points_in : Kept → List (List Entry)
points_in k = k.points

abbrev seen_in : Kept → ℕ
seen_in k = k.seen

abbrev begun : Kept
begun = record { points = []; seen = 0 }

abbrev told : Kept
told = record { points = entries ∷ []; seen = 2 }

-- such a clerk gives what it does from a log, in numbers of their types
abbrev gives : Kept → Request → Answer → Kept → Type 0
gives old request answer new = DoesFromLog points_in seen_in 0 old request answer new × AnswerFits answer

keeps : KeepsLog gives points_in seen_in 0
keeps = record {
  does = λ old new request answer given. given.0;
  fitting = λ old new request answer fits given. given.1;
}

-- the touch stands in the log point behind another gate's, and is answered by the reply beside it
from_log : DoesFromLog points_in seen_in 0 begun (requests.Touch own) (answer own issued) told
from_log = inl (record {
  point = entries;
  place = 1;
  reply = issued;
  seat = 1;
  stands = refl;
  seen_is = refl;
  not_below = omega arith;
  no_shorter = omega arith;
  learnt = refl;
  is = refl;
})

-- the reply's numbers are of their types
fits : ReplyFits issued
fits = record { verdict = omega arith; change = search rules; balance = search rules }

-- what the definitions open to, on literals
unfoldable pub on_literals : Unit {0}
unfolding found is_same_touch
on_literals = tt

module _ (tables : Tables) where
  abbrev pub log : Log
  log = record { tables = tables; cards = 10; entries = entries }

  -- gate 7 and another gate have sent a touch each, and the station has entered none
  abbrev sent : Joint
  sent = record {
    asked = own ∷ [];
    waits = true;
    sent = strange ∷ own ∷ [];
    tables = tables;
    history = [];
    answers = [];
    told = [];
  }

  pub legal : IsLegal tables 10 (history_of entries)
  unfolding on_literals
  legal =
      legal-add tables 10 (entry strange issued 2 ∷ []) (entry own issued 1) refl refl
      (legal-add tables 10 [] (entry strange issued 2) refl refl (legal-none tables 10))

  the_log : IsLogOf log told.points
  the_log = record { legal = legal; begins = (([], refl), tt) }

  were : (place : ℕ) (e : Entry) → slice_get entries place ≡ Some e → Line sent.sent e.touch
  were zero e at =
      let same : strange ≡ e.touch = cc in
      subst (Contains sent.sent) same (contained sent.sent 0 strange refl)
  were (suc zero) e at =
      let same : own ≡ e.touch = cc in
      subst (Contains sent.sent) same (contained sent.sent 1 own refl)
  were (suc (suc place)) e at = absurd cc

  logged : IsLoggedIn log 0 sent
  logged = record {
    within = omega arith;
    shown = record { tables = refl; cards_are = refl; history = refl; legal = legal-none tables 10 };
    sent = λ place e above at. were place e at;
  }

  -- the requests that were handed over, and their answers, all written
  abbrev exchange : Exchange
  exchange = record {
    handed = requests.Touch own ∷ [];
    rest = [];
    replies = answer own issued ∷ [];
    sent = answer own issued ∷ [];
    part = [];
  }

  asked : WereSent exchange.handed sent.sent
  asked touch there = by_place (placed exchange.handed (requests.Touch touch) there)
    where
      by_place : ((i : ℕ) × (slice_get exchange.handed i ≡ Some (requests.Touch touch))) → Line sent.sent touch
      by_place (zero, at) =
          let same : own ≡ touch = cc in
          subst (Contains sent.sent) same (contained sent.sent 1 own refl)
      by_place (suc i, at) = absurd cc

  -- the law, of this session: both touches are entered, and the second is answered
  leads : Leads gives points_in seen_in 0 keeps log the_log.legal 7 0 sent told (answer own issued ∷ [])
  leads =
      serves-all gives points_in seen_in 0 keeps log the_log.legal 7 sent 0 begun told exchange
      (told, (from_log, (omega arith, omega arith, fits)), refl) the_log.begins (inl (omega arith)) logged.within
      logged.shown logged.sent asked (inl (record { sent = refl; part = refl }))

-- ---- what is none

-- the reply of an answer
abbrev reply_in : Reply → Answer → Reply
reply_in other (answers.Reply gate number reply) = reply
reply_in other (answers.Holding view front) = other
reply_in other (answers.Fault code gate number) = other

-- a reply that stands beside no touch in the log point is no answer from it
no_other_reply : DoesFromLog points_in seen_in 0 begun (requests.Touch own) (answer own issued_before) told → ⊥
no_other_reply (inr is) = let no : true ≡ false = is.none in absurd cc
no_other_reply (inl is) =
    let point : entries ≡ is.point = ap (λ (l : List (List Entry)). get_or l 0 []) is.learnt in
    let reply : issued_before ≡ is.reply = ap (reply_in issued) is.is in
    by_place is.place is.reply is.seat
    (subst (λ (l : List Entry). slice_get l is.place ≡ Some (entry own is.reply is.seat)) (sym point) is.stands) reply
  where
    by_place : (place : ℕ) (reply : Reply) (seat : ℕ) → slice_get entries place ≡ Some (entry own reply seat)
        → issued_before ≡ reply → ⊥
    by_place zero reply seat at same =
        let is : entry strange issued 2 ≡ entry own reply seat = cc in
        omega (arith, ap (λ (e : Entry). e.touch.gate) is)
    by_place (suc zero) reply seat at same =
        let is : entry own issued 1 ≡ entry own reply seat = cc in
        omega (arith, ap (λ (e : Entry). e.reply.verdict) is, ap (λ (r : Reply). r.verdict) same)
    by_place (suc (suc place)) reply seat at same = absurd cc

-- a clerk learns the point that it answers from
no_forgotten_point : DoesFromLog points_in seen_in 0 begun (requests.Touch own) (answer own issued)
    (record { points = []; seen = 2 }) → ⊥
no_forgotten_point (inl is) = let no : [] ≡ is.point ∷ [] = is.learnt in absurd cc
no_forgotten_point (inr is) = let no : true ≡ false = is.none in absurd cc

-- where three entries were found, a point of two is none
no_shorter_point : DoesFromLog points_in seen_in 3 begun (requests.Touch own) (answer own issued) told → ⊥
no_shorter_point (inr is) = let no : true ≡ false = is.none in absurd cc
no_shorter_point (inl is) =
    let long : 2 ≡ length is.point = is.seen_is in
    let few = is.no_shorter in
    omega (arith, long, few)

-- a clerk that has seen no entry, where none was found, isn't behind a later one
no_count_beyond : IsBehind 0 0 1 → ⊥
no_count_beyond (inl few) = omega (arith, few)
no_count_beyond (inr few) = omega (arith, few)

module _ (tables : Tables) where
  -- a log that has a touch twice isn't legal
  no_illegal_log : IsLogOf (record (log tables) { entries = entry own issued 1 ∷ entry own issued 1 ∷ [] }) [] → ⊥
  no_illegal_log of =
      let no : 0 ≡ 1 = of.legal.once 0 1 own own refl refl refl in
      omega (arith, no)

  -- a log that lacks a point isn't one of it
  no_other_log : IsLogOf (record (log tables) { entries = [] }) (entries ∷ []) → ⊥
  no_other_log of =
      let begins : BeginsWith (entries ∷ []) [] = of.begins in
      let no = begins.0.1 in
      absurd cc

  -- what nobody sent is in no log
  no_unsent_entry : IsLoggedIn (log tables) 0 (record (sent tables) { sent = own ∷ [] }) → ⊥
  no_unsent_entry is = by_place (placed (own ∷ []) strange (is.sent 0 (entry strange issued 2) (omega arith) refl))
    where
      by_place : ((i : ℕ) × (slice_get (own ∷ []) i ≡ Some strange)) → ⊥
      by_place (zero, at) =
          let is : own ≡ strange = cc in
          omega (arith, ap (λ (t : Touch). t.gate) is)
      by_place (suc i, at) = absurd cc

-- ---- what is no turn, and no order of turns

-- the log's first entry
abbrev pub front : List Entry
front = entry strange issued 2 ∷ []

-- gate 7 asks once more, and is given its reply again
abbrev pub twice : List Said
twice = replies own issued ∷ replies own issued ∷ []

module _ (tables : Tables) where
  -- an entry is entered at its place
  no_entry_too_early : IsTurn (log tables) 10 0 (enters (entry own issued 1)) → ⊥
  no_entry_too_early at =
      let is : entry strange issued 2 ≡ entry own issued 1 = cc in omega (arith, ap (λ (e : Entry). e.touch.gate) is)

  -- no reply comes before its touch is entered
  no_reply_before_its_entry : IsTurn (log tables) 10 1 (says (replies own issued)) → ⊥
  no_reply_before_its_entry is = by_place is.place is.seat is.stands
    where
      by_place : (place seat : ℕ) → slice_get front place ≡ Some (entry own issued seat) → ⊥
      by_place zero seat at =
          let is : entry strange issued 2 ≡ entry own issued seat = cc in
          omega (arith, ap (λ (e : Entry). e.touch.gate) is)
      by_place (suc place) seat at = absurd cc

  -- no touch that stands is refused as a conflict
  no_refusal_for_nothing : IsTurn (log tables) 10 2 (says (refuses own codes.Conflict)) → ⊥
  unfolding on_literals
  no_refusal_for_nothing is = let no : finds.First 1 issued ≡ finds.Conflict = is in absurd cc

  -- an order goes on to the log's end
  no_end_before_the_last : AreTurns (log tables) 10 1 [] → ⊥
  no_end_before_the_last end = omega (arith, end)

  -- what nobody sent isn't entered
  no_unsent_turn : WasSent [] (enters (entry own issued 1)) → ⊥
  no_unsent_turn there = contains-none {X = Touch} [] own refl there

  -- a station with this log's first entries
  abbrev whole_at : ℕ → Whole
  whole_at count = record {
    gates = λ number. record { file = []; going = true; waits = false; told = []; refused = [] };
    sent = strange ∷ [];
    station = office_at (log tables) 10 count;
    answers = [];
  }

  -- nothing is entered in a pause
  no_pause_with_an_entry : IsPause (λ number. true) 10 (whole_at 0) (whole_at 1) → ⊥
  no_pause_with_an_entry is = let no = ap (λ (s : Station). s.history) is.station in absurd cc

-- what one list has is in the order of all
no_lost_answer : AreMerged (twice ∷ []) (replies own issued ∷ []) → ⊥
no_lost_answer all = by_first all.0 all.2
  where
    by_first : (rest : List Said) → IsMerge twice rest (replies own issued ∷ []) → ⊥
    by_first rest (inl (later, is, last)) =
        let more : later ≡ replies own issued ∷ [] = cc in
        let no : replies own issued ∷ [] ≡ [] = sym more ∙ last.0 in
        absurd cc
    by_first rest (inr (later, is, last)) = let no : twice ≡ [] = last.0 in absurd cc

-- a desk answers by the newest log point that it has, and not by one that it hasn't learnt
no_unlearnt_point : AreAnswered nothing_opened [] (record { said = replies own issued; point = entries } ∷ [])
    (front ∷ []) → ⊥
no_unlearnt_point is = by_newer is.4.0 is.0 is.4.1 is.2
  where
    by_newer : (newer mid : List (List Entry)) → front ∷ [] ≡ newer ++ mid → entries ≡ newest mid → ⊥
    by_newer [] mid learnt point = let no : entries ≡ front = point ∙ ap newest (sym learnt) in absurd cc
    by_newer (p ∷ newer) [] learnt point = absurd cc
    by_newer (p ∷ []) (q ∷ mid) learnt point = absurd cc
    by_newer (p ∷ n ∷ newer) (q ∷ mid) learnt point = absurd cc

-- where there is no entry, no touch is refused as a conflict
no_refusal_without_cause : IsRefusedIn nothing_opened [] own codes.Conflict → ⊥
unfolding on_literals
no_refusal_without_cause is = by_fault is.office is.cause is.is
  where
    by_fault : (fault : SubmitFault) → IsCauseAfter nothing_opened [] own fault → codes.Conflict ≡ code_of fault → ⊥
    by_fault faults.Conflict cause same = let no : finds.New ≡ finds.Conflict = cause in absurd cc
    by_fault faults.Halted cause same = absurd cc
    by_fault faults.Memory cause same = absurd cc
    by_fault faults.Full cause same = absurd cc
    by_fault faults.UnknownTable cause same = absurd cc

-- a touch isn't refused in place of another one
no_refusal_of_another : IsSaidTo (requests.Touch own) (refuses strange codes.Conflict) → ⊥
no_refusal_of_another same = omega (arith, ap (λ (t : Touch). t.gate) same)

-- the history doesn't shrink from one answer to the next
no_shrinking_order : DoesGrow 0 (record { said = replies own issued; point = entries }
    ∷ record { said = replies strange issued; point = front } ∷ []) → ⊥
no_shrinking_order is = omega (arith, is.1.0)
