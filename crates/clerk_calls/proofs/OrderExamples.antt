-- Worked examples, computed by the definitions: what two desks answered, in one order, with the run that it is, and
-- what is in none. The log is that of Examples: gate 9 issues card 2, and then gate 7 card 1.
use Rattle.std.proofs.Common.{◌≡◌, inl, inr, ℕ, suc, ◌+◌, ◌==◌, Bool, true, false, IsTrue, List, [], ◌∷◌}
use Rattle.std.proofs.Common.{take, refl, sym, ap, ◌∙◌, subst, arith, Some}
use Rattle.std.specs.Prelude.{slice_get}
use Rattle.oyster_account.specs.declared.touch.Touch.{Touch}
use Rattle.oyster_account.specs.declared.reply.Reply.{Reply}
use Rattle.reply_book.specs.declared.entry.Entry.{Entry}
use Rattle.reply_book.specs.Names.{has_same_name}
use Rattle.reply_book.specs.Tables.{Tables}
use Rattle.reply_book.proofs.PlaceLemmas.{slice_get-append_left}
use Rattle.reply_book.proofs.LawLemmas.{new-exact}
use Rattle.reply_book.proofs.NameLemmas.{joined, equal-refl}
use Rattle.gate_session.specs.declared.answer.Answer.{Answer}
use Rattle.gate_session.specs.declared.answer.Answer.TheVariants as answers
use Rattle.gate_session.specs.declared.answer.FaultCode.{FaultCode}
use Rattle.gate_session.specs.declared.answer.FaultCode.TheVariants as codes
use Rattle.gate_session.specs.Answers.{fault_code}
use Rattle.gate_law.specs.Whole.{Whole, IsCause}
use Rattle.gate_law.specs.WholeSteps.{IsOfNoTouch}
use Rattle.gate_law.proofs.ListLemmas.{contained}
use Rattle.tap_office.specs.declared.fault.SubmitFault.TheVariants as faults
use Rattle.tap_office.specs.Name.{nothing_opened}
use Rattle.clerk_calls.specs.Turns.{Said, replies, refuses, tells, Turn, enters, says, said_in, answers_in, office_at}
use Rattle.clerk_calls.specs.Turns.{StandsBeside, AreTurns}
use Rattle.clerk_calls.specs.Schedules.{IsPause, WasSent, after_turn, IsScheduled, IsRunOfTurns}
use Rattle.clerk_calls.specs.Merged.{AreMerged}
use Rattle.clerk_calls.specs.Answered.{IsReplyIn, Saying, said_of, AreAnswered, DoesGrow}
use Rattle.clerk_calls.proofs.EntryLemmas.{take-next}
use Rattle.clerk_calls.proofs.ScheduleLemmas.{schedules-run}
use Rattle.clerk_calls.proofs.Examples.{issue, issued, strange, own, entry, entries, answer, on_literals}
use Rattle.clerk_calls.proofs.Examples.{front, log, legal}

-- gate 9 sends another touch under the number of its first, and is told the conflict
abbrev other : Touch
other = issue 9 1 3

abbrev saying : Said → List Entry → Saying
saying said point = record { said = said; point = point }

-- what was said at the desk of gate 7, which was asked twice
abbrev own_list : List Saying
own_list = saying (replies own issued) entries ∷ saying (replies own issued) entries ∷ []

-- and at that of gate 9, which learnt its first log point before gate 7's touch was entered
abbrev strange_list : List Saying
strange_list = saying (replies strange issued) front ∷ saying (refuses other codes.Conflict) entries ∷ []

-- a reply that stands beside its touch at a place
beside : (list : List Entry) (place : ℕ) (touch : Touch) (reply : Reply) (seat : ℕ)
    → slice_get list place ≡ Some (entry touch reply seat) → StandsBeside list touch reply
beside list place touch reply seat at = record { place = place; seat = seat; stands = at }

in_point : (list : List Entry) (place : ℕ) (touch : Touch) (reply : Reply) (seat : ℕ)
    → slice_get list place ≡ Some (entry touch reply seat) → IsReplyIn nothing_opened list touch reply
in_point list place touch reply seat at =
    record { beside = beside list place touch reply seat at; no_shorter = omega arith }

own_desk : AreAnswered nothing_opened [] own_list (entries ∷ entries ∷ [])
own_desk = (
  entries ∷ [],
  (entries ∷ [], refl),
  refl,
  in_point entries 1 own issued 1 refl,
  (entries ∷ entries ∷ [], (entries ∷ [], refl), refl, in_point entries 1 own issued 1 refl, ([], refl)),
)

strange_desk : AreAnswered nothing_opened [] strange_list (entries ∷ front ∷ [])
unfolding on_literals
strange_desk = (
  front ∷ [],
  (front ∷ [], refl),
  refl,
  in_point front 0 strange issued 2 refl,
  (
    entries ∷ front ∷ [],
    (entries ∷ [], refl),
    refl,
    record { office = faults.Conflict; is = refl; cause = refl; no_shorter = omega arith },
    ([], refl),
  ),
)

-- one order of both, in which the history never shrinks
abbrev order : List Saying
order = saying (replies strange issued) front ∷ saying (replies own issued) entries
    ∷ saying (refuses other codes.Conflict) entries ∷ saying (replies own issued) entries ∷ []

merged : AreMerged (own_list ∷ strange_list ∷ []) order
merged = (
  strange_list,
  ([], refl, inl (saying (refuses other codes.Conflict) entries ∷ [], refl, inl ([], refl, (refl, refl)))),
  inr (
    saying (refuses other codes.Conflict) entries ∷ [],
    refl,
    inl (saying (replies own issued) entries ∷ [], refl, inr ([], refl, inl ([], refl, (refl, refl)))),
  ),
)

grows : DoesGrow 0 order
grows = (omega arith, (omega arith, (omega arith, (omega arith, tt))))

-- the turns at which it is said: the touches are entered as the log has them, and each answer comes when it is right
abbrev turns : List Turn
turns = enters (entry strange issued 2) ∷ says (replies strange issued) ∷ enters (entry own issued 1)
    ∷ says (replies own issued) ∷ says (refuses other codes.Conflict) ∷ says (replies own issued) ∷ []

in_turn : said_in turns ≡ said_of order
in_turn = refl

module _ (tables : Tables) where
  in_order : AreTurns (log tables) 10 0 turns
  unfolding on_literals
  in_order = (
    refl,
    (
      beside front 0 strange issued 2 refl,
      (
        refl,
        (beside entries 1 own issued 1 refl, (refl, (beside entries 1 own issued 1 refl, refl))),
      ),
    ),
  )

  -- the gates have sent the three touches, and the station has entered none
  abbrev sent : Whole
  sent = record {
    gates = λ number. record { file = []; going = true; waits = false; told = []; refused = [] };
    sent = strange ∷ own ∷ other ∷ [];
    station = office_at (log tables) 10 0;
    answers = [];
  }

  -- every gate has its number to itself
  abbrev each : ℕ → Bool
  each number = true

  -- nothing happens in a pause
  pause : (whole : Whole) → IsPause each 10 whole whole
  pause whole = record { between = []; run = refl; station = refl; answers = refl }

  -- after these turns
  after : List Turn → Whole → Whole
  after [] whole = whole
  after (turn ∷ later) whole = after later (after_turn turn whole)

  -- each touch was sent before its turn
  AreSent : List Turn → Whole → Type 0
  AreSent [] whole = Unit {0}
  AreSent (turn ∷ later) whole = WasSent whole.sent turn × AreSent later (after_turn turn whole)

  at_once : (all : List Turn) (whole : Whole) → AreSent all whole → IsScheduled each 10 whole all (after all whole)
  unfolding after AreSent
  at_once [] whole are = pause whole
  at_once (turn ∷ later) whole are = (whole, pause whole, are.0, at_once later (after_turn turn whole) are.1)

  were : AreSent turns sent
  unfolding AreSent
  were = (
    contained sent.sent 0 strange refl,
    (tt, (contained sent.sent 1 own refl, (tt, (contained sent.sent 2 other refl, (tt, tt))))),
  )

  -- the law, of these turns: they are a run
  run : IsRunOfTurns each (log tables) 10 sent turns (after turns sent)
  run =
      schedules-run each (log tables) 10 0 sent (after turns sent) turns (legal tables) refl in_order
      (at_once turns sent were)

-- ---- what is in no order

-- a gate that has its reply isn't told then that there was no memory for its touch
abbrev no_memory : Answer
no_memory = answers.Fault 4 7 1

-- of each touch under gate 7's number 1 the name is that of an entry
named : (touch first : Touch) → touch.gate ≡ first.gate → touch.number ≡ first.number
    → IsTrue (has_same_name touch first)
named touch first gate number =
    joined (touch.gate == first.gate) (touch.number == first.number)
    (subst (λ (n : ℕ). (n == first.gate) ≡ true) (sym gate) (equal-refl first.gate))
    (subst (λ (n : ℕ). (n == first.number) ≡ true) (sym number) (equal-refl first.number))

-- only a cause of no memory has its code
memory : (fault : FaultCode) → fault_code fault ≡ 4 → fault ≡ codes.Memory
memory codes.BadFrame is = absurd (omega (arith, is))
memory codes.Conflict is = absurd (omega (arith, is))
memory codes.Halted is = absurd (omega (arith, is))
memory codes.Memory is = refl
memory codes.Full is = absurd (omega (arith, is))
memory codes.UnknownTable is = absurd (omega (arith, is))
memory codes.NotAllowed is = absurd (omega (arith, is))

-- what some entry of the log is named
record IsNamed (list : List Entry) : Type 0 where
  place : ℕ
  one : Entry
  stands : slice_get list place ≡ Some one
  gate : one.touch.gate ≡ 7
  number : one.touch.number ≡ 1

named-next : (list : List Entry) (count : ℕ) (entry : Entry) → slice_get list count ≡ Some entry
    → IsNamed (take count list) → IsNamed (take (count + 1) list)
named-next list count entry at is = record {
  place = is.place;
  one = is.one;
  stands =
      let more : suc count ≡ count + 1 = omega arith in
      let parts = sym (take-next list count entry at) ∙ ap (λ (n : ℕ). take n list) more in
      subst (λ (l : List Entry). slice_get l is.place ≡ Some is.one) parts
      (slice_get-append_left (take count list) (entry ∷ []) is.place is.one is.stands);
  gate = is.gate;
  number = is.number;
}

module _ (tables : Tables) where
  not_then : (count : ℕ) (later : List Turn) → IsNamed (take count entries) → AreTurns (log tables) 10 count later
      → answers_in later ≡ no_memory ∷ [] → ⊥
  not_then count [] is right list = absurd cc
  not_then count (enters next ∷ later) is right list =
      not_then (count + 1) later (named-next entries count next right.0 is) right.1 list
  not_then count (says (replies touch reply) ∷ later) is right list = absurd cc
  not_then count (says (refuses touch fault) ∷ later) is right list =
      let code : fault_code fault ≡ 4 = cc in
      let gate : touch.gate ≡ 7 = cc in
      let number : touch.number ≡ 1 = cc in
      let cause = subst (IsCause (office_at (log tables) 10 count) touch) (memory fault code) right.0 in
      (new-exact (take count entries) touch).0 cause is.place is.one is.stands
      (named touch is.one.touch (gate ∙ sym is.gate) (number ∙ sym is.number))
  not_then count (says (tells told) ∷ later) is right list =
      let same : told ≡ no_memory = cc in
      elim (subst IsOfNoTouch same right.0) [
        | inl bad ↦ omega (arith, bad)
        | inr others ↦ elim others [ inl halted ↦ omega (arith, halted) | inr barred ↦ omega (arith, barred) ]
      ]

  in_no_order : (count : ℕ) (all : List Turn) → AreTurns (log tables) 10 count all
      → answers_in all ≡ answer own issued ∷ no_memory ∷ [] → ⊥
  in_no_order count [] right list = absurd cc
  in_no_order count (enters next ∷ later) right list = in_no_order (count + 1) later right.1 list
  in_no_order count (says (replies touch reply) ∷ later) right list =
      let gate : touch.gate ≡ 7 = cc in
      let number : touch.number ≡ 1 = cc in
      let rest : answers_in later ≡ no_memory ∷ [] = cc in
      not_then count later (record {
        place = right.0.place;
        one = entry touch reply right.0.seat;
        stands = right.0.stands;
        gate = gate;
        number = number;
      }) right.1 rest
  in_no_order count (says (refuses touch fault) ∷ later) right list = absurd cc
  in_no_order count (says (tells told) ∷ later) right list =
      let same : told ≡ answer own issued = cc in subst IsOfNoTouch same right.0
