-- Worked examples, computed by the definitions: a run of gate 7 in which a reply is lost, the gate crashes and repeats,
-- and the station crashes with a touch in flight. No table of fares decides the replies: a first issue of a card is
-- accepted, and a second one refused (FARES.md, "Verdicts").
use Rattle.std.proofs.Common.{◌≡◌, inl, inr, ℕ, ◌<◌, pos, true, false, List, [], ◌∷◌, ◌++◌, refl, arith}
use Rattle.std.specs.Prelude.{Contains}
use Rattle.oyster_account.specs.declared.touch.Act.TheVariants.{Issue}
use Rattle.oyster_account.specs.declared.touch.Touch.{Touch}
use Rattle.oyster_account.specs.declared.reply.Reply.{Reply}
use Rattle.oyster_account.specs.declared.reply.Judged.{Judged}
use Rattle.reply_book.specs.declared.entry.Entry.{Entry}
use Rattle.reply_book.specs.Lookup.{found, is_same_touch}
use Rattle.reply_book.specs.Tables.{Tables}
use Rattle.reply_book.specs.Legal.{IsLegal, history_of, touches_of}
use Rattle.reply_book.proofs.CallerLemmas.{legal-none, book-legal}
use Rattle.gate_session.specs.declared.answer.Answer.{Answer}
use Rattle.gate_session.specs.declared.answer.Answer.TheVariants as answers
use Rattle.gate_law.specs.Joint.{Joint}
use Rattle.gate_law.specs.Steps.{Step}
use Rattle.gate_law.specs.Agreement.{IsRun, IsStart, Agrees}
use Rattle.gate_law.proofs.ListLemmas.{contained, contains-none}
use Rattle.gate_law.proofs.StepLemmas.{run-append}
use Rattle.gate_law.proofs.AgreementLemmas.{they_agree}

-- an issue of a card, at the moment 1736150400
abbrev pub issue : ℕ → ℕ → ℕ → Touch
issue gate number card = record { gate = gate; number = number; card = card; act = Issue 1_736_150_400 }

-- issued, and refused since it was; a card that was issued has nothing on it
abbrev pub issued : Reply
issued = record { verdict = 8; change = pos 0; balance = pos 0 }

abbrev pub issued_before : Reply
issued_before = record { verdict = 21; change = pos 0; balance = pos 0 }

-- gate 7 issues card 1 twice, and another gate card 2
abbrev pub first : Touch
first = issue 7 1 1

abbrev pub second : Touch
second = issue 7 2 1

abbrev pub strange : Touch
strange = issue 9 1 2

abbrev pub entry : Touch → Reply → ℕ → Entry
entry touch reply seat = record { touch = touch; reply = reply; seat = seat }

abbrev pub judged : Touch → Reply → Judged
judged touch reply = record { touch = touch; reply = reply }

abbrev pub answer : Touch → Reply → Answer
answer touch reply = answers.Reply touch.gate touch.number reply

pub differ : (m n : ℕ) → m < n → n ≡ m → ⊥
differ m n less same = omega (arith, less, same)

-- the touch at the head of these, and the one behind it
abbrev pub head : {X : Type 0} (x : X) (xs : List X) → Contains (x ∷ xs) x
head x xs = contained (x ∷ xs) 0 x refl

abbrev pub next : {X : Type 0} (x y : X) (xs : List X) → Contains (x ∷ y ∷ xs) y
next x y xs = contained (x ∷ y ∷ xs) 1 y refl

-- what the definitions open to, on literals
unfoldable pub on_literals : Unit {0}
unfolding found is_same_touch
on_literals = tt

module _ (tables others : Tables) where
  abbrev pub start : Joint
  start = record { asked = []; waits = false; sent = []; tables = tables; history = []; answers = []; told = [] }

  abbrev pub asked : Joint
  asked = record start { asked = first ∷ []; waits = true }

  abbrev pub sent : Joint
  sent = record asked { sent = first ∷ [] }

  -- another gate's touch comes between
  abbrev crossed : Joint
  crossed = record sent { sent = first ∷ strange ∷ [] }

  abbrev entered_other : Joint
  entered_other = record crossed { history = entry strange issued 1 ∷ [] }

  abbrev entered : Joint
  entered = record entered_other { history = entry strange issued 1 ∷ entry first issued 2 ∷ [] }

  -- this answer is lost
  abbrev answered : Joint
  answered = record entered { answers = answer first issued ∷ [] }

  -- the gate crashes, is opened again, and repeats
  abbrev opened : Joint
  opened = record answered { waits = true }

  abbrev repeated : Joint
  repeated = record opened { sent = first ∷ strange ∷ first ∷ [] }

  abbrev answered_again : Joint
  answered_again = record repeated { answers = answer first issued ∷ answer first issued ∷ [] }

  abbrev heard : Joint
  heard = record answered_again { waits = false; told = judged first issued ∷ [] }

  -- the station enters the next touch, crashes before it answers, and is opened again by other tables
  abbrev asked_next : Joint
  asked_next = record heard { asked = first ∷ second ∷ []; waits = true }

  abbrev sent_next : Joint
  sent_next = record asked_next { sent = first ∷ strange ∷ first ∷ second ∷ [] }

  abbrev pub in_flight : Joint
  in_flight = record sent_next {
    history = entry strange issued 1 ∷ entry first issued 2 ∷ entry second issued_before 2 ∷ [];
  }

  abbrev restarted : Joint
  restarted = record in_flight {
    tables = others;
    history = entry strange issued 0 ∷ entry first issued 0 ∷ entry second issued_before 0 ∷ [];
  }

  -- the gate repeats, a fault comes for want of memory, and then the reply
  abbrev repeated_next : Joint
  repeated_next = record restarted { sent = first ∷ strange ∷ first ∷ second ∷ second ∷ [] }

  abbrev refused_next : Joint
  refused_next = record repeated_next {
    answers = answer first issued ∷ answer first issued ∷ answers.Fault 4 7 2 ∷ [];
  }

  abbrev answered_next : Joint
  answered_next = record refused_next {
    answers = answer first issued ∷ answer first issued ∷ answers.Fault 4 7 2 ∷ answer second issued_before ∷ [];
  }

  abbrev pub heard_next : Joint
  heard_next = record answered_next {
    waits = false;
    told = judged first issued ∷ judged second issued_before ∷ [];
  }

  pub starts : IsStart 7 10 start
  starts = record {
    asked = refl;
    waits = refl;
    sent = λ touch there. absurd (contains-none [] touch refl there);
    legal = legal-none tables 10;
    alone = λ touch there. absurd (contains-none [] touch refl there);
    unanswered = λ number reply there. absurd (contains-none [] (answers.Reply 7 number reply) refl there);
    told = refl;
  }

  -- ---- step by step

  asks_first : Step 7 10 start asked
  asks_first = inl (record { touch = first; none = refl; own = refl; number = refl; is = refl })

  sends_first : Step 7 10 asked sent
  sends_first = inr (inl (record {
    touch = first;
    waiting = record { earlier = []; last = refl; waits = refl };
    is = refl;
  }))

  another_sends : Step 7 10 sent crossed
  another_sends = inr (inr (inl (record { touch = strange; alone = λ e. differ 7 9 (omega arith) e; is = refl })))

  enters_strange : Step 7 10 crossed entered_other
  unfolding on_literals
  enters_strange = inr (inr (inr (inl (record {
    touch = strange;
    reply = issued;
    seat = 1;
    line = next first strange [];
    fresh = refl;
    lock = refl;
    is = refl;
  }))))

  enters_first : Step 7 10 entered_other entered
  unfolding on_literals
  enters_first = inr (inr (inr (inl (record {
    touch = first;
    reply = issued;
    seat = 2;
    line = head first (strange ∷ []);
    fresh = refl;
    lock = refl;
    is = refl;
  }))))

  answers_first : Step 7 10 entered answered
  unfolding on_literals
  answers_first = inr (inr (inr (inr (inl (record {
    touch = first;
    place = 1;
    reply = issued;
    first = refl;
    is = refl;
  })))))

  opens : Step 7 10 answered opened
  opens = inr (inr (inr (inr (inr (inr (inr (inl (record { kept = first ∷ []; one_journal = refl; is = refl }))))))))

  repeats_first : Step 7 10 opened repeated
  repeats_first = inr (inl (record {
    touch = first;
    waiting = record { earlier = []; last = refl; waits = refl };
    is = refl;
  }))

  answers_again : Step 7 10 repeated answered_again
  unfolding on_literals
  answers_again = inr (inr (inr (inr (inl (record {
    touch = first;
    place = 1;
    reply = issued;
    first = refl;
    is = refl;
  })))))

  hears_first : Step 7 10 answered_again heard
  hears_first = inr (inr (inr (inr (inr (inr (inl (record {
    touch = first;
    gate = 7;
    number = 1;
    reply = issued;
    waiting = record { earlier = []; last = refl; waits = refl };
    line = next (answer first issued) (answer first issued) [];
    same_gate = refl;
    same_number = refl;
    is = refl;
  })))))))

  asks_second : Step 7 10 heard asked_next
  asks_second = inl (record { touch = second; none = refl; own = refl; number = refl; is = refl })

  sends_second : Step 7 10 asked_next sent_next
  sends_second = inr (inl (record {
    touch = second;
    waiting = record { earlier = first ∷ []; last = refl; waits = refl };
    is = refl;
  }))

  enters_second : Step 7 10 sent_next in_flight
  unfolding on_literals
  enters_second = inr (inr (inr (inl (record {
    touch = second;
    reply = issued_before;
    seat = 2;
    line = contained sent_next.sent 3 second refl;
    fresh = refl;
    lock = refl;
    is = refl;
  }))))

  -- the first touch is asked and entered, and its answer is lost
  abbrev to_answered : List Joint
  to_answered = asked ∷ sent ∷ crossed ∷ entered_other ∷ entered ∷ answered ∷ []

  runs_to_answered : IsRun 7 10 start to_answered answered
  runs_to_answered =
      (asks_first, (sends_first, (another_sends, (enters_strange, (enters_first, (answers_first, refl))))))

  -- the gate crashes, repeats, and hears the same reply
  abbrev to_heard : List Joint
  to_heard = opened ∷ repeated ∷ answered_again ∷ heard ∷ []

  runs_to_heard : IsRun 7 10 answered to_heard heard
  runs_to_heard = (opens, (repeats_first, (answers_again, (hears_first, refl))))

  -- the second touch is in flight as the station crashes
  abbrev to_flight : List Joint
  to_flight = asked_next ∷ sent_next ∷ in_flight ∷ []

  runs_to_flight : IsRun 7 10 heard to_flight in_flight
  runs_to_flight = (asks_second, (sends_second, (enters_second, refl)))

  abbrev pub before : List Joint
  before = to_answered ++ to_heard ++ to_flight

  pub runs_before : IsRun 7 10 start before in_flight
  runs_before =
      run-append (Step 7 10) start heard in_flight (to_answered ++ to_heard) to_flight
      (run-append (Step 7 10) start answered heard to_answered to_heard runs_to_answered runs_to_heard) runs_to_flight

  -- the station's touches, judged by the other tables
  pub legal_again : IsLegal others 10 (history_of restarted.history)
  legal_again =
      book-legal others 10 (touches_of restarted.history)
      (they_agree 7 10 start in_flight before starts runs_before).legal.once

  restarts : Step 7 10 in_flight restarted
  restarts = inr (inr (inr (inr (inr (inr (inr (inr (inl (record {
    tables = others;
    kept = restarted.history;
    one_journal = refl;
    same_tables = refl;
    legal = legal_again;
    is = refl;
  })))))))))

  repeats_second : Step 7 10 restarted repeated_next
  repeats_second = inr (inl (record {
    touch = second;
    waiting = record { earlier = first ∷ []; last = refl; waits = refl };
    is = refl;
  }))

  refuses_second : Step 7 10 repeated_next refused_next
  refuses_second = inr (inr (inr (inr (inr (inl (record { answer = answers.Fault 4 7 2; none = refl; is = refl }))))))

  answers_second : Step 7 10 refused_next answered_next
  unfolding on_literals
  answers_second = inr (inr (inr (inr (inl (record {
    touch = second;
    place = 2;
    reply = issued_before;
    first = refl;
    is = refl;
  })))))

  hears_second : Step 7 10 answered_next heard_next
  hears_second = inr (inr (inr (inr (inr (inr (inl (record {
    touch = second;
    gate = 7;
    number = 2;
    reply = issued_before;
    waiting = record { earlier = first ∷ []; last = refl; waits = refl };
    line = contained answered_next.answers 3 (answer second issued_before) refl;
    same_gate = refl;
    same_number = refl;
    is = refl;
  })))))))

  -- the station is opened again, and the gate repeats until it has the reply
  abbrev pub after : List Joint
  after = restarted ∷ repeated_next ∷ refused_next ∷ answered_next ∷ heard_next ∷ []

  pub runs_after : IsRun 7 10 in_flight after heard_next
  runs_after = (restarts, (repeats_second, (refuses_second, (answers_second, (hears_second, refl)))))

  -- the law, of this run: both sides agree at its end
  agree : Agrees 7 10 heard_next
  agree =
      they_agree 7 10 start heard_next (before ++ after) starts
      (run-append (Step 7 10) start in_flight heard_next before after runs_before runs_after)
