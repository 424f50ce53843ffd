-- That the turns of a station by a legal log, with whatever its gates do between them, are a run.
use Rattle.std.proofs.Common.{◌≡◌, ℕ, suc, ◌+◌, Bool, true, List, [], ◌∷◌, ◌++◌, take, refl, sym, ap, ◌∙◌}
use Rattle.std.proofs.Common.{subst, arith, append_assoc, Some}
use Rattle.std.specs.Prelude.{slice_get}
use Rattle.std.proofs.lemmas.List.{append-nil}
use Rattle.oyster_account.specs.declared.touch.Touch.{Touch}
use Rattle.reply_book.specs.declared.entry.Entry.{Entry}
use Rattle.reply_book.specs.Lookup.{found}
use Rattle.reply_book.specs.Legal.{IsLegal, history_of, touches_of}
use Rattle.reply_book.proofs.CallerLemmas.{touches_of-push}
use Rattle.gate_session.specs.declared.answer.Answer.{Answer}
use Rattle.gate_law.specs.Premises.{TheLock}
use Rattle.gate_law.specs.Whole.{Station, Whole, IsCause}
use Rattle.gate_law.specs.WholeSteps.{Step, enters as step_enters, replies as step_replies, refuses as step_refuses}
use Rattle.gate_law.specs.WholeSteps.{tells as step_tells}
use Rattle.gate_law.proofs.OpeningLemmas.{lock-last, new-last}
use Rattle.gate_law.proofs.WholeLemmas.{run-then, all_agree}
use Rattle.clerk_calls.specs.Logged.{Log}
use Rattle.clerk_calls.specs.Turns.{replies, refuses, tells, answer_of, Turn, enters, says, answers_in, office_at}
use Rattle.clerk_calls.specs.Turns.{IsTurn, AreTurns, count_after}
use Rattle.clerk_calls.specs.Schedules.{WasSent, with_entered, after_turn, IsScheduled, IsRunOfTurns}
use Rattle.clerk_calls.specs.Schedules.{AreSchedulesRuns, DoesServerAgree}
use Rattle.clerk_calls.proofs.EntryLemmas.{take-next}
use Rattle.clerk_calls.proofs.LogLemmas.{legal-at, found-in}

-- what a turn writes, and the later ones, stands behind the answers before it
answers-after : (turn : Turn) (later : List Turn) (whole : Whole)
    → (after_turn turn whole).answers ++ answers_in later ≡ whole.answers ++ answers_in (turn ∷ later)
answers-after (enters entry) later whole = refl
answers-after (says said) later whole = append_assoc whole.answers (answer_of said ∷ []) (answers_in later)

module _ (alone : ℕ → Bool) (log : Log) (legal : IsLegal log.tables log.cards (history_of log.entries))
    (capacity : ℕ) where
  -- the station with the log's next entry
  office-next : (count : ℕ) (entry : Entry) → slice_get log.entries count ≡ Some entry
      → with_entered (office_at log capacity count) entry ≡ office_at log capacity (count + 1)
  office-next count entry at =
      let more : suc count ≡ count + 1 = omega arith in
      let parts = sym (take-next log.entries count entry at) ∙ ap (λ (n : ℕ). take n log.entries) more in
      ap (λ (touches : List Touch). record {
        journal = touches;
        capacity = capacity;
        going = true;
        tables = log.tables;
        history = take count log.entries ++ entry ∷ [];
      }) (sym (touches_of-push (take count log.entries) entry))
      ∙ ap (λ (entries : List Entry). record {
        journal = touches_of entries;
        capacity = capacity;
        going = true;
        tables = log.tables;
        history = entries;
      }) parts

  -- a turn that is right is a step
  turn-step : (count : ℕ) (turn : Turn) (mid : Whole) → mid.station ≡ office_at log capacity count
      → IsTurn log capacity count turn → WasSent mid.sent turn → Step alone log.cards mid (after_turn turn mid)
      × ((after_turn turn mid).station ≡ office_at log capacity (count_after count turn))
  turn-step count (enters entry) mid is turn sent =
      let parts = take-next log.entries count entry turn in
      let both = subst (λ (l : List Entry). IsLegal log.tables log.cards (history_of l)) parts
      (legal-at log legal 0 (suc count)) in
      let lock = lock-last log.tables log.cards (take count log.entries) entry both in (
        step_enters (record {
          touch = entry.touch;
          reply = entry.reply;
          seat = entry.seat;
          going = ap (λ (s : Station). s.going) is;
          line = sent;
          fresh = ap (λ (s : Station). found s.history entry.touch) is
              ∙ new-last log.tables log.cards (take count log.entries) entry both;
          lock = subst (λ (s : Station). TheLock log.cards s.tables s.history entry.touch entry.reply) (sym is) lock;
          is = refl;
        }),
        ap (λ (s : Station). with_entered s entry) is ∙ office-next count entry turn,
      )
  turn-step count (says (replies touch reply)) mid is turn sent = (
    step_replies (record {
      touch = touch;
      place = turn.place;
      reply = reply;
      going = ap (λ (s : Station). s.going) is;
      first = ap (λ (s : Station). found s.history touch) is
          ∙ found-in log legal 0 count turn.place touch reply turn.seat turn.stands;
      is = refl;
    }),
    is,
  )
  turn-step count (says (refuses touch fault)) mid is turn sent = (
    step_refuses (record {
      touch = touch;
      fault = fault;
      line = sent;
      cause = subst (λ (s : Station). IsCause s touch fault) (sym is) turn;
      is = refl;
    }),
    is,
  )
  turn-step count (says (tells answer)) mid is turn sent =
      (step_tells (record { answer = answer; of_none = turn; is = refl }), is)

  -- so turns and pauses are a run
  schedule-run : (new : Whole) (turns : List Turn) (count : ℕ) (old : Whole)
      → old.station ≡ office_at log capacity count → AreTurns log capacity count turns
      → IsScheduled alone log.cards old turns new → IsRunOfTurns alone log capacity old turns new
  schedule-run new [] count old is right pause = record {
    between = pause.between;
    run = pause.run;
    station = pause.station ∙ is ∙ ap (office_at log capacity) right;
    answers = pause.answers ∙ sym (append-nil old.answers);
  }
  schedule-run new (turn ∷ later) count old is right scheduled =
      let mid = scheduled.0 in
      let pause = scheduled.1 in
      let step = turn-step count turn mid (pause.station ∙ is) right.0 scheduled.2 in
      let more = schedule-run new later (count_after count turn) (after_turn turn mid) step.1 right.1 scheduled.3 in
      record {
        between = pause.between ++ after_turn turn mid ∷ more.between;
        run = run-then alone log.cards old mid new pause.between (after_turn turn mid ∷ more.between) pause.run
            (step.0, more.run);
        station = more.station;
        answers = more.answers ∙ answers-after turn later mid
            ∙ ap (λ (l : List Answer). l ++ answers_in (turn ∷ later)) pause.answers;
      }

pub schedules-run : AreSchedulesRuns
schedules-run alone log capacity count old new turns legal is right scheduled =
    schedule-run alone log legal capacity new turns count old is right scheduled

pub server-agrees : DoesServerAgree
server-agrees alone log capacity count first old new between turns legal start came is right scheduled =
    let run = schedule-run alone log legal capacity new turns count old is right scheduled in
    all_agree alone log.cards first new (between ++ run.between) start
    (run-then alone log.cards first old new between run.between came run.run)
