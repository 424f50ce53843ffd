-- What each step of a whole is for one gate and the station.
use Rattle.std.proofs.Common.{◌≡◌, inl, inr, ℕ, ◌==◌, Bool, true, false, List, [], ◌∷◌, ◌++◌, refl, sym, ap}
use Rattle.std.proofs.Common.{◌∙◌, subst, is_some}
use Rattle.std.specs.Prelude.{Contains}
use Rattle.oyster_account.specs.declared.touch.Touch.{Touch}
use Rattle.oyster_account.specs.declared.reply.Judged.{Judged}
use Rattle.reply_book.specs.declared.entry.Entry.{Entry}
use Rattle.reply_book.specs.Legal.{IsLegal, history_of, touches_of}
use Rattle.reply_book.proofs.NameLemmas.{equal, equal-refl}
use Rattle.gate_session.specs.declared.answer.Answer.{Answer}
use Rattle.gate_session.specs.declared.answer.Answer.TheVariants as answers
use Rattle.gate_session.specs.Answers.{fault_code}
use Rattle.gate_client.specs.File.{waiting_of}
use Rattle.gate_law.specs.Joint.{Joint}
use Rattle.gate_law.specs.Steps.{is_reply}
use Rattle.gate_law.specs.Whole.{Gate, Whole, view_by, view_of, IsWaitingAt}
use Rattle.gate_law.specs.WholeSteps.{Asks, Sends, OthersSend, Enters, Answers, Hears, HearsFault}
use Rattle.gate_law.specs.WholeSteps.{GivesUp, GateStops, GateOpens, StationOpens, IsOfNoTouch}
use Rattle.gate_law.specs.WholeSteps.{Step, asks, sends, others_send, hears, hears_fault}
use Rattle.gate_law.specs.WholeSteps.{gives_up, gate_stops, gate_opens, enters, replies, refuses, tells, station_stops}
use Rattle.gate_law.specs.WholeSteps.{station_opens}
use Rattle.gate_law.specs.WholeAgreement.{LeadsTo}
use Rattle.gate_law.proofs.ViewLemmas.{stay, by_step, by_two, by_gate}
use Rattle.gate_law.proofs.OpeningLemmas.{pushed-of, legal-earlier, lock-last, new-last}
use Rattle.gate_law.proofs.StandsLemmas.{Stands, waiting-own}

of_no_touch : (answer : Answer) → IsOfNoTouch answer → is_reply answer ≡ false
of_no_touch (answers.Reply gate number reply) none = absurd none
of_no_touch (answers.Holding view front) none = refl
of_no_touch (answers.Fault code gate number) none = refl

module _ (alone : ℕ → Bool) (cards : ℕ) (old new : Whole) (h : Stands old) where
  leads-asks : (a : Asks old new) (other : ℕ) → LeadsTo other cards (view_of other old) (view_of other new)
  leads-asks a =
      let gate : Gate = record {
        file = (old.gates a.number).file ++ a.touch ∷ [];
        going = true;
        waits = true;
        told = (old.gates a.number).told;
        refused = (old.gates a.number).refused;
      } in
      by_gate cards old new a.number gate a.is
      (by_step a.number cards (view_of a.number old) (view_by gate old) (inl (record {
        touch = a.touch;
        none = a.asked.none;
        own = a.asked.own;
        number = a.asked.numbered;
        is = refl;
      })))

  leads-sends : (a : Sends old new) (other : ℕ) → LeadsTo other cards (view_of other old) (view_of other new)
  leads-sends a other = by_test (other == a.number) refl
    where
      is : view_of other new ≡ record (view_of other old) { sent = old.sent ++ a.touch ∷ [] }
      is = ap (view_of other) a.is

      by_test : (b : Bool) → (other == a.number) ≡ b → LeadsTo other cards (view_of other old) (view_of other new)
      by_test true e =
          let same : a.number ≡ other = sym (equal other a.number e) in
          let waiting : IsWaitingAt (old.gates other) a.touch =
          subst (λ (n : ℕ). IsWaitingAt (old.gates n) a.touch) same a.waiting in
          by_step other cards (view_of other old) (view_of other new) (inr (inl (record {
            touch = a.touch;
            waiting = record { earlier = waiting.earlier; last = waiting.last; waits = waiting.waits };
            is = is;
          })))
      by_test false e =
          by_step other cards (view_of other old) (view_of other new) (inr (inr (inl (record {
            touch = a.touch;
            alone = λ own.
                let same : other ≡ a.number = sym own ∙ waiting-own old h a.number a.touch a.waiting in
                let tested : (other == a.number) ≡ true =
                subst (λ (n : ℕ). (other == n) ≡ true) same (equal-refl other) in
                let no : true ≡ false = sym tested ∙ e in absurd cc;
            is = is;
          }))))

  leads-others : OthersSend alone old new → (other : ℕ) → alone other ≡ true
      → LeadsTo other cards (view_of other old) (view_of other new)
  leads-others a other is_alone =
      by_step other cards (view_of other old) (view_of other new) (inr (inr (inl (record {
        touch = a.touch;
        alone = λ own.
            let no : true ≡ false = sym is_alone ∙ ap alone (sym own) ∙ a.other in absurd cc;
        is = ap (view_of other) a.is;
      }))))

  leads-hears : (a : Hears old new) (other : ℕ) → LeadsTo other cards (view_of other old) (view_of other new)
  leads-hears a =
      let gate : Gate = record {
        file = (old.gates a.number).file;
        going = true;
        waits = false;
        told = (old.gates a.number).told ++ record { touch = a.touch; reply = a.reply } ∷ [];
        refused = (old.gates a.number).refused;
      } in
      by_gate cards old new a.number gate a.is
      (by_step a.number cards (view_of a.number old) (view_by gate old) (inr (inr (inr (inr (inr (inr (inl (record {
        touch = a.touch;
        gate = a.touch.gate;
        number = a.touch.number;
        reply = a.reply;
        waiting = record { earlier = a.waiting.earlier; last = a.waiting.last; waits = a.waiting.waits };
        line = a.line;
        same_gate = refl;
        same_number = refl;
        is = refl;
      })))))))))

  leads-fault : (a : HearsFault old new) (other : ℕ) → LeadsTo other cards (view_of other old) (view_of other new)
  leads-fault a =
      let gate : Gate = record {
        file = (old.gates a.number).file;
        going = true;
        waits = true;
        told = (old.gates a.number).told;
        refused = (old.gates a.number).refused ++ record { touch = a.touch; code = a.code } ∷ [];
      } in
      by_gate cards old new a.number gate a.is
      (stay a.number cards (view_of a.number old) (view_by gate old)
      (ap (λ (b : Bool). record (view_of a.number old) { waits = b }) (sym a.waiting.waits)))

  both_are : (s : Joint) (asked others : List Touch) (waits other : Bool) → asked ≡ others → waits ≡ other
      → record s { asked = asked; waits = waits } ≡ record s { asked = others; waits = other }
  both_are s asked others waits other same is =
      ap (λ (l : List Touch). record s { asked = l; waits = waits }) same
      ∙ ap (λ (b : Bool). record s { asked = others; waits = b }) is

  -- a gate's file with the touch that waits once more
  leads-up : (number : ℕ) (gate : Gate) (touch : Touch) → IsWaitingAt (old.gates number) touch
      → gate.file ≡ (old.gates number).file ++ touch ∷ [] → gate.waits ≡ false
      → gate.told ≡ (old.gates number).told → LeadsTo number cards (view_of number old) (view_by gate old)
  leads-up number gate touch waiting more none told =
      by_step number cards (view_of number old) (view_by gate old)
      (inr (inr (inr (inr (inr (inr (inr (inr (inr (record {
        touch = touch;
        waited = record { earlier = waiting.earlier; last = waiting.last; waits = waiting.waits };
        is = both_are (view_by gate old) gate.file ((old.gates number).file ++ touch ∷ []) gate.waits false more none
            ∙ ap (λ (l : List Judged). record (view_of number old) {
              asked = (old.gates number).file ++ touch ∷ [];
              waits = false;
              told = l;
            }) told;
      }))))))))))

  leads-gives_up : (a : GivesUp old new) (other : ℕ) → LeadsTo other cards (view_of other old) (view_of other new)
  leads-gives_up a =
      let gate : Gate = record {
        file = (old.gates a.number).file ++ a.touch ∷ [];
        going = true;
        waits = false;
        told = (old.gates a.number).told;
        refused = (old.gates a.number).refused;
      } in
      by_gate cards old new a.number gate a.is (leads-up a.number gate a.touch a.waited refl refl refl)

  leads-stops : (a : GateStops old new) (other : ℕ) → LeadsTo other cards (view_of other old) (view_of other new)
  leads-stops a =
      let gate : Gate = record {
        file = a.left;
        going = false;
        waits = a.waits;
        told = (old.gates a.number).told;
        refused = (old.gates a.number).refused;
      } in
      by_gate cards old new a.number gate a.is (elim a.either [
        | inl same ↦ stay a.number cards (view_of a.number old) (view_by gate old)
            (both_are (view_of a.number old) a.left (old.gates a.number).file a.waits (old.gates a.number).waits
            same.0 same.1)
        | inr either ↦ elim either [
          | inl more ↦ by_step a.number cards (view_of a.number old) (view_by gate old) (inl (record {
            touch = more.0;
            none = more.1.none;
            own = more.1.own;
            number = more.1.numbered;
            is = both_are (view_of a.number old) a.left ((old.gates a.number).file ++ more.0 ∷ []) a.waits true more.2
                more.3;
          }))
          | inr up ↦ leads-up a.number gate up.0 up.1 up.2 up.3 refl
        ]
      ])

  leads-opens : (a : GateOpens old new) (other : ℕ) → LeadsTo other cards (view_of other old) (view_of other new)
  leads-opens a =
      let gate : Gate = record {
        file = a.kept;
        going = true;
        waits = is_some (waiting_of a.kept);
        told = (old.gates a.number).told;
        refused = (old.gates a.number).refused;
      } in
      by_gate cards old new a.number gate a.is
      (by_step a.number cards (view_of a.number old) (view_by gate old)
      (inr (inr (inr (inr (inr (inr (inr (inl (record {
        kept = a.kept;
        one_journal = a.one_journal;
        is = refl;
      }))))))))))

  leads-enters : (a : Enters cards old new) (other : ℕ)
      → LeadsTo other cards (view_of other old) (view_of other new)
  leads-enters a other =
      by_step other cards (view_of other old) (view_of other new) (inr (inr (inr (inl (record {
        touch = a.touch;
        reply = a.reply;
        seat = a.seat;
        line = a.line;
        fresh = a.fresh;
        lock = a.lock;
        is = ap (view_of other) a.is;
      })))))

  leads-replies : (a : Answers old new) (other : ℕ) → LeadsTo other cards (view_of other old) (view_of other new)
  leads-replies a other =
      by_step other cards (view_of other old) (view_of other new) (inr (inr (inr (inr (inl (record {
        touch = a.touch;
        place = a.place;
        reply = a.reply;
        first = a.first;
        is = ap (view_of other) a.is;
      }))))))

  -- an answer that is no reply
  leads-answer : (answer : Answer) → is_reply answer ≡ false
      → new ≡ record old { answers = old.answers ++ answer ∷ [] } → (other : ℕ)
      → LeadsTo other cards (view_of other old) (view_of other new)
  leads-answer answer none is other =
      by_step other cards (view_of other old) (view_of other new) (inr (inr (inr (inr (inr (inl (record {
        answer = answer;
        none = none;
        is = ap (view_of other) is;
      })))))))

  -- an opening: of the journal of the history, or of that with one touch more, which is entered then
  leads-restarts : (a : StationOpens cards old new) (other : ℕ)
      → LeadsTo other cards (view_of other old) (view_of other new)
  leads-restarts a other = elim h.left [
    | inl all ↦
        by_step other cards (view_of other old) (view_of other new)
        (inr (inr (inr (inr (inr (inr (inr (inr (inl (record {
          tables = a.tables;
          kept = a.kept;
          one_journal = a.one_journal ∙ all;
          same_tables = a.same_tables;
          legal = a.legal;
          is = ap (view_of other) a.is;
        }))))))))))
    | inr flight ↦
        let split = pushed-of a.kept (touches_of old.station.history) flight.touch (a.one_journal ∙ flight.is) in
        let legal = subst (λ (l : List Entry). IsLegal a.tables cards (history_of l)) split.parts a.legal in
        let mid : Joint = record (view_of other old) { tables = a.tables; history = split.earlier } in
        by_two other cards (view_of other old) mid (view_of other new)
        (inr (inr (inr (inr (inr (inr (inr (inr (inl (record {
          tables = a.tables;
          kept = split.earlier;
          one_journal = split.touches_are;
          same_tables = a.same_tables;
          legal = legal-earlier a.tables cards split.earlier split.last legal;
          is = refl;
        }))))))))))
        (inr (inr (inr (inl (record {
          touch = split.last.touch;
          reply = split.last.reply;
          seat = split.last.seat;
          line = subst (Contains old.sent) (sym split.touch_is) flight.line;
          fresh = new-last a.tables cards split.earlier split.last legal;
          lock = lock-last a.tables cards split.earlier split.last legal;
          is = ap (view_of other) a.is
              ∙ ap (λ (l : List Entry). record (view_of other old) { tables = a.tables; history = l }) split.parts;
        })))))
  ]

  -- each step leads each gate that has its number to itself somewhere
  pub leads : Step alone cards old new → (other : ℕ) → alone other ≡ true
      → LeadsTo other cards (view_of other old) (view_of other new)
  leads (asks a) other is_alone = leads-asks a other
  leads (sends a) other is_alone = leads-sends a other
  leads (others_send a) other is_alone = leads-others a other is_alone
  leads (hears a) other is_alone = leads-hears a other
  leads (hears_fault a) other is_alone = leads-fault a other
  leads (gives_up a) other is_alone = leads-gives_up a other
  leads (gate_stops a) other is_alone = leads-stops a other
  leads (gate_opens a) other is_alone = leads-opens a other
  leads (enters a) other is_alone = leads-enters a other
  leads (replies a) other is_alone = leads-replies a other
  leads (refuses a) other is_alone =
      leads-answer (answers.Fault (fault_code a.fault) a.touch.gate a.touch.number) refl a.is other
  leads (tells a) other is_alone = leads-answer a.answer (of_no_touch a.answer a.of_none) a.is other
  leads (station_stops a) other is_alone =
      stay other cards (view_of other old) (view_of other new) (ap (view_of other) a.is)
  leads (station_opens a) other is_alone = leads-restarts a other
