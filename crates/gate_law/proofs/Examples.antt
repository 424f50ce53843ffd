-- What is no step: each would be a wrong step of a gate, of its station, of another gate or of a crash. The first ones
-- are on states of the run in RunExamples and others, those of all gates on states of the run in WholeExamples.
use Rattle.std.proofs.Common.{◌≡◌, ℕ, zero, suc, true, false, Some, [], ◌∷◌, get_or, refl, sym, ap, ◌∙◌, arith, inl}
use Rattle.std.proofs.Common.{inr, ◌==◌, Bool, cond, List, is_some}
use Rattle.std.specs.Prelude.{Contains, slice_get}
use Rattle.oyster_account.specs.declared.touch.Touch.{Touch}
use Rattle.oyster_account.specs.declared.reply.Reply.{Reply}
use Rattle.reply_book.specs.declared.entry.Entry.{Entry}
use Rattle.reply_book.specs.Tables.{Tables}
use Rattle.reply_book.specs.Legal.{touches_of, judge_after, book}
use Rattle.gate_session.specs.declared.answer.Answer.{Answer}
use Rattle.gate_session.specs.declared.answer.Answer.TheVariants as answers
use Rattle.gate_client.specs.File.{waiting_of}
use Rattle.gate_law.specs.Joint.{Joint}
use Rattle.gate_law.specs.Steps.{Asks, OthersSend, Enters, Hears, GivesUp, Opens, Restarts}
use Rattle.gate_law.proofs.ListLemmas.{placed, contains-none, push-both}
use Rattle.gate_law.proofs.RunExamples.{issue, issued, issued_before, first, second, strange, entry, judged, answer}
use Rattle.gate_law.proofs.RunExamples.{differ, start, asked, sent, head, on_literals}
use Rattle.reply_book.proofs.NameLemmas.{equal}
use Rattle.gate_session.specs.declared.answer.FaultCode.TheVariants.{Conflict}
use Rattle.gate_law.specs.Whole.{Gate, Whole, with_gate, IsCause}
use Rattle.gate_law.specs.WholeSteps as steps
use Rattle.gate_law.specs.WholeSteps.{IsLeftOf, IsLeftBehind, GateOpens, HearsFault, IsOfNoTouch}
use Rattle.gate_law.specs.Machine.{Machine, IsAsk}
use Rattle.gate_law.proofs.WholeExamples as wholes
use Rattle.gate_law.proofs.WholeExamples.{waiting, each}

-- the touch of another card under the first one's name
abbrev again : Touch
again = issue 7 1 2

-- the number under which an answer is a reply
abbrev number_of : Answer → ℕ
number_of (answers.Reply gate number reply) = number
number_of (answers.Holding view front) = 0
number_of (answers.Fault code gate number) = 0

-- the one of a list of one
only : {X : Type 0} (x y : X) → Contains (x ∷ []) y → x ≡ y
only x y there = by_place (placed (x ∷ []) y there)
  where
    by_place : ((i : ℕ) × (slice_get (x ∷ []) i ≡ Some y)) → x ≡ y
    by_place (zero, at) = cc
    by_place (suc i, at) = absurd cc

module _ (tables : Tables) where
  abbrev here : Joint
  here = start tables tables

  -- the first touch was told
  abbrev heard : Joint
  heard = record (sent tables tables) {
    history = entry first issued 1 ∷ [];
    answers = answer first issued ∷ [];
    waits = false;
    told = judged first issued ∷ [];
  }

  -- a number is used for one touch alone
  no_number_twice : Asks 7 heard (record heard { asked = first ∷ again ∷ []; waits = true }) → ⊥
  no_number_twice a =
      let same : again ≡ a.touch = ap (λ (s : Joint). get_or s.asked 1 again) a.is in
      differ 1 2 (omega arith) (sym (ap (λ (t : Touch). t.number) same ∙ a.number))

  -- one touch waits at a time
  no_second_while_one_waits : Asks 7 (asked tables tables) (record (asked tables tables) {
    asked = first ∷ second ∷ [];
  }) → ⊥
  no_second_while_one_waits a = let no : true ≡ false = a.none in absurd cc

  -- where there is a touch, the last waits after an opening
  no_idle_opening : Opens (asked tables tables) (record (asked tables tables) { waits = false }) → ⊥
  no_idle_opening a =
      let no : false ≡ true = ap (λ (s : Joint). s.waits) a.is
      ∙ ap (λ (l : List Touch). is_some (waiting_of l)) a.one_journal in
      absurd cc

  -- no other touch is given up than the one that waits
  no_giving_up_of_another : GivesUp (asked tables tables) (record (asked tables tables) {
    asked = first ∷ second ∷ [];
    waits = false;
  }) → ⊥
  no_giving_up_of_another a =
      let same : second ≡ a.touch = ap (λ (s : Joint). get_or s.asked 1 second) a.is in
      let last : first ≡ a.touch = (push-both [] a.waited.earlier first a.touch a.waited.last).1 in
      differ 1 2 (omega arith) (ap (λ (t : Touch). t.number) (same ∙ sym last))

  -- the first touch was given up
  abbrev given_up : Joint
  given_up = record (asked tables tables) { asked = first ∷ first ∷ []; waits = false }

  -- what was given up doesn't wait after an opening
  no_second_waiting : Opens given_up (record given_up { waits = true }) → ⊥
  no_second_waiting a =
      let no : true ≡ false = ap (λ (s : Joint). s.waits) a.is
      ∙ ap (λ (l : List Touch). is_some (waiting_of l)) a.one_journal in
      absurd cc

  -- an opening finds what was kept
  no_other_file : Opens (asked tables tables) (record (asked tables tables) { asked = []; waits = false }) → ⊥
  no_other_file a =
      let no : [] ≡ first ∷ [] = ap (λ (s : Joint). s.asked) a.is ∙ a.one_journal in
      absurd cc

  -- what nobody wrote isn't read
  nothing_unsent : Enters 10 here (record here { history = entry first issued 1 ∷ [] }) → ⊥
  nothing_unsent a = contains-none [] a.touch refl a.line

  -- a reply under another number isn't taken
  no_other_number : Hears (record heard { asked = first ∷ second ∷ []; waits = true }) (record heard {
    asked = first ∷ second ∷ [];
    told = judged first issued ∷ judged second issued ∷ [];
  }) → ⊥
  no_other_number a =
      let told : second ≡ a.touch = ap (λ (s : Joint). (get_or s.told 1 (judged second issued)).touch) a.is in
      let line : answer first issued ≡ answers.Reply a.gate a.number a.reply =
      only (answer first issued) (answers.Reply a.gate a.number a.reply) a.line in
      differ 1 2 (omega arith) (sym (ap number_of line ∙ a.same_number ∙ ap (λ (t : Touch). t.number) (sym told)))

  -- nobody else sends under this gate
  no_other_sender : OthersSend 7 here (record here { sent = first ∷ [] }) → ⊥
  no_other_sender a = a.alone (sym (ap (λ (s : Joint). (get_or s.sent 0 first).gate) a.is))

  -- a touch is judged after the history behind which it is put
  no_other_judgement : Enters 10 (record here { sent = strange ∷ [] }) (record here {
    sent = strange ∷ [];
    history = entry strange issued_before 1 ∷ [];
  }) → ⊥
  no_other_judgement a =
      let e : entry strange issued_before 1 ≡ entry a.touch a.reply a.seat =
      ap (λ (s : Joint). get_or s.history 0 (entry strange issued_before 1)) a.is in
      let reply : issued_before ≡ issued =
      ap (λ (x : Entry). x.reply) e ∙ a.lock ∙ ap (judge_after tables 10 []) (sym (ap (λ (x : Entry). x.touch) e)) in
      differ 8 21 (omega arith) (ap (λ (r : Reply). r.verdict) reply)

-- tables by which the station is opened make the same book of its touches
no_other_tables : (old new : Joint) → Restarts 10 old new
    → book new.tables 10 (touches_of old.history) ≡ book old.tables 10 (touches_of old.history)
no_other_tables old new a = ap (λ (s : Joint). book s.tables 10 (touches_of old.history)) a.is ∙ a.same_tables

-- ---- all gates

-- a gate that has its first touch's reply
abbrev answered : Gate
answered = record { file = first ∷ []; going = true; waits = false; told = judged first issued ∷ []; refused = [] }

-- a crash takes no touch from a gate's file: what was handed out is left, or one more
no_lost_touch : IsLeftOf 7 (waiting (first ∷ [])) [] true → ⊥
no_lost_touch left = elim left [
  | inl same ↦ let no : [] ≡ first ∷ [] = same.0 in absurd cc
  | inr other ↦ elim other [
    | inl more ↦ let no : true ≡ false = more.1.none in absurd cc
    | inr up ↦ let no : [] ≡ first ∷ up.0 ∷ [] = up.2 in absurd cc
  ]
]

-- and it gives up none that doesn't wait
no_giving_up_in_a_crash : IsLeftOf 7 answered (first ∷ first ∷ []) false → ⊥
no_giving_up_in_a_crash left = elim left [
  | inl same ↦ let no : first ∷ first ∷ [] ≡ first ∷ [] = same.0 in absurd cc
  | inr other ↦ elim other [
    | inl more ↦ let no : false ≡ true = more.3 in absurd cc
    | inr up ↦ let no : false ≡ true = up.1.waits in absurd cc
  ]
]

-- nor from a station's journal
no_lost_entry : IsLeftBehind [] (first ∷ []) [] → ⊥
no_lost_entry left = elim left [
  | inl same ↦ let no : [] ≡ first ∷ [] = same in absurd cc
  | inr flight ↦ contains-none [] flight.touch refl flight.line
]

-- and it adds none that nobody sent
no_unsent_entry : IsLeftBehind [] [] (first ∷ []) → ⊥
no_unsent_entry left = elim left [
  | inl same ↦ let no : first ∷ [] ≡ [] = same in absurd cc
  | inr flight ↦ contains-none [] flight.touch refl flight.line
]

-- no conflict is told of a touch that is new
no_false_conflict : (tables : Tables) → IsCause (wholes.start tables).station first Conflict → ⊥
unfolding on_literals
no_false_conflict tables cause = absurd cc

-- nor as an answer of no touch
no_conflict_of_no_touch : IsOfNoTouch (answers.Fault 2 7 1) → ⊥
no_conflict_of_no_touch none = elim none [
  | inl bad ↦ absurd cc
  | inr others ↦ elim others [ inl halted ↦ absurd cc | inr barred ↦ absurd cc ]
]

module _ (tables : Tables) where
  -- the gate 7 that has its touch waiting is opened, and lets none wait
  abbrev idle : Gate
  idle = record { file = first ∷ []; going = true; waits = false; told = []; refused = [] }

  abbrev opened_idle : Whole
  opened_idle = record (wholes.asked tables) { gates = with_gate (wholes.asked tables).gates 7 idle }

  no_idle_gate : GateOpens (wholes.asked tables) opened_idle → ⊥
  no_idle_gate a = by_test (7 == a.number) refl
    where
      opened : Gate
      opened = record {
        file = a.kept;
        going = true;
        waits = is_some (waiting_of a.kept);
        told = ((wholes.asked tables).gates a.number).told;
        refused = ((wholes.asked tables).gates a.number).refused;
      }

      at : (b : Bool) → (7 == a.number) ≡ b → false ≡ (cond b opened ((wholes.asked tables).gates 7)).waits
      at b e = ap (λ (w : Whole). (w.gates 7).waits) a.is
          ∙ ap (λ (c : Bool). (cond c opened ((wholes.asked tables).gates 7)).waits) e

      by_test : (b : Bool) → (7 == a.number) ≡ b → ⊥
      by_test true e =
          let kept : a.kept ≡ first ∷ [] =
          a.one_journal ∙ ap (λ (n : ℕ). ((wholes.asked tables).gates n).file) (sym (equal 7 a.number e)) in
          let no : false ≡ true = at true e ∙ ap (λ (l : List Touch). is_some (waiting_of l)) kept in absurd cc
      by_test false e = let no : false ≡ true = at false e in absurd cc

  -- and a gate that has given up its touch lets none wait either
  abbrev gone : Gate
  gone = record { file = first ∷ first ∷ []; going = true; waits = false; told = []; refused = [] }

  abbrev gave_up : Whole
  gave_up = record (wholes.asked tables) { gates = with_gate (wholes.asked tables).gates 7 gone }

  abbrev opened_waiting : Whole
  opened_waiting = record gave_up { gates = with_gate gave_up.gates 7 (waiting (first ∷ first ∷ [])) }

  no_waiting_gate : GateOpens gave_up opened_waiting → ⊥
  no_waiting_gate a = by_test (7 == a.number) refl
    where
      opened : Gate
      opened = record {
        file = a.kept;
        going = true;
        waits = is_some (waiting_of a.kept);
        told = (gave_up.gates a.number).told;
        refused = (gave_up.gates a.number).refused;
      }

      at : (b : Bool) → (7 == a.number) ≡ b → true ≡ (cond b opened (gave_up.gates 7)).waits
      at b e = ap (λ (w : Whole). (w.gates 7).waits) a.is
          ∙ ap (λ (c : Bool). (cond c opened (gave_up.gates 7)).waits) e

      by_test : (b : Bool) → (7 == a.number) ≡ b → ⊥
      by_test true e =
          let kept : a.kept ≡ first ∷ first ∷ [] =
          a.one_journal ∙ ap (λ (n : ℕ). (gave_up.gates n).file) (sym (equal 7 a.number e)) in
          let no : true ≡ false = at true e ∙ ap (λ (l : List Touch). is_some (waiting_of l)) kept in absurd cc
      by_test false e = let no : true ≡ false = at false e in absurd cc

  -- a fault that nobody wrote isn't heard
  no_unwritten_fault : (new : Whole) → HearsFault (wholes.sent tables) new → ⊥
  no_unwritten_fault new a = contains-none [] (answers.Fault a.code a.touch.gate a.touch.number) refl a.line

  -- nobody else sends under the number of a gate that is alone
  no_stranger : (new : Whole) → steps.OthersSend each (wholes.start tables) new → ⊥
  no_stranger new a = let no : true ≡ false = a.other in absurd cc

  -- the journal has a touch before anything is answered
  no_unsynced_entry : (new : Whole) → steps.Enters 10 (wholes.sent tables) new → new.station.journal ≡ [] → ⊥
  no_unsynced_entry new a none =
      let no : [] ≡ a.touch ∷ [] = sym none ∙ ap (λ (w : Whole). w.station.journal) a.is in absurd cc

  -- ---- the machine

  abbrev empty : Machine
  empty = record { history = [] }

  -- it gives no other reply than the account's
  no_other_reply : (new : Machine) → IsAsk tables 10 first issued_before empty new → ⊥
  no_other_reply new a =
      differ 8 21 (omega arith) (ap (λ (r : Reply). r.verdict) (a.judged ∙ is))
    where
      is : judge_after tables 10 [] first ≡ issued
      is = refl

  -- and it is asked a touch once
  no_second_ask : (reply : Reply) (new : Machine)
      → IsAsk tables 10 first reply (record { history = judged first issued ∷ [] }) new → ⊥
  no_second_ask reply new a = a.fresh (judged first issued) (head (judged first issued) []) refl
