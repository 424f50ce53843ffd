-- A worked example, computed by the definitions: a run of gates 7 and 9 and their station, in which a reply is lost,
-- and gate 7 crashes and repeats. No table of fares decides the replies: a first issue of a card is accepted, and a
-- second one refused (FARES.md, "Verdicts"). WholeCrashExamples has how the run goes on.
use Rattle.std.proofs.Common.{inl, ℕ, Bool, true, false, List, [], ◌∷◌, ◌++◌, refl}
use Rattle.oyster_account.specs.declared.touch.Touch.{Touch}
use Rattle.reply_book.specs.Tables.{Tables}
use Rattle.reply_book.proofs.CallerLemmas.{legal-none}
use Rattle.gate_session.specs.declared.answer.Answer.TheVariants as answers
use Rattle.gate_law.specs.Whole.{Gate, Whole, with_gate}
use Rattle.gate_law.specs.WholeSteps.{Step, asks, sends, hears, gate_stops, gate_opens, enters, replies}
use Rattle.gate_law.specs.WholeAgreement.{IsRun, IsStart}
use Rattle.gate_law.proofs.ListLemmas.{contains-none}
use Rattle.gate_law.proofs.RunExamples.{issued, first, strange, entry, judged, answer, head, next}
use Rattle.gate_law.proofs.RunExamples.{on_literals}
use Rattle.gate_law.proofs.WholeLemmas.{run-then}

-- a gate that was asked nothing, and one with these touches in its file, of which the last waits
abbrev pub blank : Gate
blank = record { file = []; going = true; waits = false; told = []; refused = [] }

abbrev pub waiting : List Touch → Gate
waiting file = record { file = file; going = true; waits = true; told = []; refused = [] }

-- each gate has its number to itself
abbrev pub each : ℕ → Bool
each number = true

module _ (tables : Tables) where
  abbrev pub start : Whole
  start = record {
    gates = λ number. blank;
    sent = [];
    station = record { journal = []; capacity = 10; going = true; tables = tables; history = [] };
    answers = [];
  }

  -- gates 7 and 9 are asked for a touch each, and send it
  abbrev pub asked : Whole
  asked = record start { gates = with_gate start.gates 7 (waiting (first ∷ [])) }

  abbrev pub sent : Whole
  sent = record asked { sent = first ∷ [] }

  abbrev asked_nine : Whole
  asked_nine = record sent { gates = with_gate sent.gates 9 (waiting (strange ∷ [])) }

  abbrev sent_nine : Whole
  sent_nine = record asked_nine { sent = first ∷ strange ∷ [] }

  -- the station enters both, that of gate 9 first
  abbrev entered_nine : Whole
  entered_nine = record sent_nine {
    station = record {
      journal = strange ∷ [];
      capacity = 10;
      going = true;
      tables = tables;
      history = entry strange issued 1 ∷ [];
    };
  }

  abbrev entered : Whole
  entered = record entered_nine {
    station = record {
      journal = strange ∷ first ∷ [];
      capacity = 10;
      going = true;
      tables = tables;
      history = entry strange issued 1 ∷ entry first issued 2 ∷ [];
    };
  }

  -- the reply to gate 7 is lost: the gate crashes before it has read it
  abbrev answered : Whole
  answered = record entered { answers = answer first issued ∷ [] }

  abbrev crashed : Whole
  crashed = record answered {
    gates = with_gate answered.gates 7 (record {
      file = first ∷ [];
      going = false;
      waits = true;
      told = [];
      refused = [];
    });
  }

  abbrev opened : Whole
  opened = record crashed { gates = with_gate crashed.gates 7 (waiting (first ∷ [])) }

  -- it repeats its touch, and gets the same reply
  abbrev repeated : Whole
  repeated = record opened { sent = first ∷ strange ∷ first ∷ [] }

  abbrev answered_again : Whole
  answered_again = record repeated { answers = answer first issued ∷ answer first issued ∷ [] }

  abbrev pub heard : Whole
  heard = record answered_again {
    gates = with_gate answered_again.gates 7 (record {
      file = first ∷ [];
      going = true;
      waits = false;
      told = judged first issued ∷ [];
      refused = [];
    });
  }

  pub starts : IsStart each 10 start
  starts = record {
    blank = λ number. record { file = refl; waits = refl; told = refl; refused = refl };
    sent = λ touch there. absurd (contains-none [] touch refl there);
    legal = legal-none tables 10;
    others = λ touch there. absurd (contains-none [] touch refl there);
    journal = refl;
    unanswered = λ gate number reply is there. absurd (contains-none [] (answers.Reply gate number reply) refl there);
    no_conflict = λ gate number is there. absurd (contains-none [] (answers.Fault 2 gate number) refl there);
  }

  -- ---- step by step

  pub asks_first : Step each 10 start asked
  asks_first = asks (record {
    number = 7;
    touch = first;
    going = refl;
    asked = record { none = refl; own = refl; numbered = refl };
    is = refl;
  })

  pub sends_first : Step each 10 asked sent
  sends_first = sends (record {
    number = 7;
    touch = first;
    going = refl;
    waiting = record { earlier = []; last = refl; waits = refl };
    is = refl;
  })

  asks_strange : Step each 10 sent asked_nine
  asks_strange = asks (record {
    number = 9;
    touch = strange;
    going = refl;
    asked = record { none = refl; own = refl; numbered = refl };
    is = refl;
  })

  sends_strange : Step each 10 asked_nine sent_nine
  sends_strange = sends (record {
    number = 9;
    touch = strange;
    going = refl;
    waiting = record { earlier = []; last = refl; waits = refl };
    is = refl;
  })

  enters_strange : Step each 10 sent_nine entered_nine
  unfolding on_literals
  enters_strange = enters (record {
    touch = strange;
    reply = issued;
    seat = 1;
    going = refl;
    line = next first strange [];
    fresh = refl;
    lock = refl;
    is = refl;
  })

  enters_first : Step each 10 entered_nine entered
  unfolding on_literals
  enters_first = enters (record {
    touch = first;
    reply = issued;
    seat = 2;
    going = refl;
    line = head first (strange ∷ []);
    fresh = refl;
    lock = refl;
    is = refl;
  })

  answers_first : Step each 10 entered answered
  unfolding on_literals
  answers_first = replies (record {
    touch = first;
    place = 1;
    reply = issued;
    going = refl;
    first = refl;
    is = refl;
  })

  crashes : Step each 10 answered crashed
  crashes = gate_stops (record { number = 7; left = first ∷ []; waits = true; either = inl (refl, refl); is = refl })

  opens : Step each 10 crashed opened
  opens = gate_opens (record { number = 7; kept = first ∷ []; one_journal = refl; is = refl })

  repeats_first : Step each 10 opened repeated
  repeats_first = sends (record {
    number = 7;
    touch = first;
    going = refl;
    waiting = record { earlier = []; last = refl; waits = refl };
    is = refl;
  })

  answers_again : Step each 10 repeated answered_again
  unfolding on_literals
  answers_again = replies (record {
    touch = first;
    place = 1;
    reply = issued;
    going = refl;
    first = refl;
    is = refl;
  })

  hears_first : Step each 10 answered_again heard
  hears_first = hears (record {
    number = 7;
    touch = first;
    reply = issued;
    going = refl;
    waiting = record { earlier = []; last = refl; waits = refl };
    line = next (answer first issued) (answer first issued) [];
    is = refl;
  })

  -- a touch of each gate is entered, and the reply to gate 7 is lost
  abbrev to_answered : List Whole
  to_answered = asked ∷ sent ∷ asked_nine ∷ sent_nine ∷ entered_nine ∷ entered ∷ answered ∷ []

  runs_to_answered : IsRun each 10 start to_answered answered
  runs_to_answered = (
    asks_first,
    (sends_first, (asks_strange, (sends_strange, (enters_strange, (enters_first, (answers_first, refl)))))),
  )

  -- gate 7 crashes, repeats, and hears the same reply
  abbrev from_answered : List Whole
  from_answered = crashed ∷ opened ∷ repeated ∷ answered_again ∷ heard ∷ []

  runs_from_answered : IsRun each 10 answered from_answered heard
  runs_from_answered = (crashes, (opens, (repeats_first, (answers_again, (hears_first, refl)))))

  abbrev pub to_heard : List Whole
  to_heard = to_answered ++ from_answered

  pub runs_to_heard : IsRun each 10 start to_heard heard
  runs_to_heard = run-then each 10 start answered heard to_answered from_answered runs_to_answered runs_from_answered
