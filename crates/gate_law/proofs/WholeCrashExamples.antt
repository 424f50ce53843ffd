-- The run of WholeExamples goes on: the next touch of gate 7 is refused for want of memory, the station crashes with
-- that touch in flight and is opened by other tables, and the gate sends it once more and hears its reply. The laws are
-- applied to the whole run.
use Rattle.std.proofs.Common.{◌≡◌, inr, true, false, List, [], ◌∷◌, ◌++◌, refl}
use Rattle.std.specs.Prelude.{Contains}
use Rattle.reply_book.specs.Tables.{Tables}
use Rattle.gate_session.specs.declared.answer.Answer.TheVariants as answers
use Rattle.gate_session.specs.declared.answer.FaultCode.TheVariants.{Memory}
use Rattle.gate_law.specs.Whole.{Whole, with_gate}
use Rattle.gate_law.specs.WholeSteps.{Step, asks, sends, hears, hears_fault, replies}
use Rattle.gate_law.specs.WholeSteps.{refuses, station_stops, station_opens}
use Rattle.gate_law.specs.WholeAgreement.{IsRun, AllAgree}
use Rattle.gate_law.specs.Machine.{machine_of, replies_to, IsOfMachine}
use Rattle.gate_law.proofs.ListLemmas.{contained}
use Rattle.gate_law.proofs.RunExamples.{issued, issued_before, first, second, strange, entry, judged, answer}
use Rattle.gate_law.proofs.RunExamples.{on_literals, legal_again}
use Rattle.gate_law.proofs.WholeLemmas.{all_agree, run-then}
use Rattle.gate_law.proofs.MachineLemmas.{each_run_of_machine}
use Rattle.gate_law.proofs.WholeExamples as run
use Rattle.gate_law.proofs.WholeExamples.{each}

module _ (tables others : Tables) where
  abbrev heard : Whole
  heard = run.heard tables

  -- the next touch of gate 7 is refused for want of memory, and sent again
  abbrev asked_next : Whole
  asked_next = record heard {
    gates = with_gate heard.gates 7 (record {
      file = first ∷ second ∷ [];
      going = true;
      waits = true;
      told = judged first issued ∷ [];
      refused = [];
    });
  }

  abbrev sent_next : Whole
  sent_next = record asked_next { sent = first ∷ strange ∷ first ∷ second ∷ [] }

  abbrev refused_next : Whole
  refused_next = record sent_next {
    answers = answer first issued ∷ answer first issued ∷ answers.Fault 4 7 2 ∷ [];
  }

  abbrev heard_fault : Whole
  heard_fault = record refused_next {
    gates = with_gate refused_next.gates 7 (record {
      file = first ∷ second ∷ [];
      going = true;
      waits = true;
      told = judged first issued ∷ [];
      refused = record { touch = second; code = 4 } ∷ [];
    });
  }

  abbrev sent_again : Whole
  sent_again = record heard_fault { sent = first ∷ strange ∷ first ∷ second ∷ second ∷ [] }

  -- the station crashes with that touch in flight, and is opened by other tables
  abbrev in_flight : Whole
  in_flight = record sent_again {
    station = record {
      journal = strange ∷ first ∷ second ∷ [];
      capacity = 10;
      going = false;
      tables = tables;
      history = entry strange issued 1 ∷ entry first issued 2 ∷ [];
    };
  }

  abbrev reopened : Whole
  reopened = record in_flight {
    station = record {
      journal = strange ∷ first ∷ second ∷ [];
      capacity = 10;
      going = true;
      tables = others;
      history = entry strange issued 0 ∷ entry first issued 0 ∷ entry second issued_before 0 ∷ [];
    };
  }

  -- gate 7 sends it once more, and has its reply
  abbrev sent_last : Whole
  sent_last = record reopened { sent = first ∷ strange ∷ first ∷ second ∷ second ∷ second ∷ [] }

  abbrev answered_last : Whole
  answered_last = record sent_last {
    answers = answer first issued ∷ answer first issued ∷ answers.Fault 4 7 2 ∷ answer second issued_before ∷ [];
  }

  abbrev pub heard_last : Whole
  heard_last = record answered_last {
    gates = with_gate answered_last.gates 7 (record {
      file = first ∷ second ∷ [];
      going = true;
      waits = false;
      told = judged first issued ∷ judged second issued_before ∷ [];
      refused = record { touch = second; code = 4 } ∷ [];
    });
  }

  -- ---- step by step

  asks_second : Step each 10 heard asked_next
  asks_second = asks (record {
    number = 7;
    touch = second;
    going = refl;
    asked = record { none = refl; own = refl; numbered = refl };
    is = refl;
  })

  sends_second : Step each 10 asked_next sent_next
  sends_second = sends (record {
    number = 7;
    touch = second;
    going = refl;
    waiting = record { earlier = first ∷ []; last = refl; waits = refl };
    is = refl;
  })

  refuses_second : Step each 10 sent_next refused_next
  unfolding on_literals
  refuses_second = refuses (record {
    touch = second;
    fault = Memory;
    line = contained sent_next.sent 3 second refl;
    cause = refl;
    is = refl;
  })

  hears_fault_of_second : Step each 10 refused_next heard_fault
  hears_fault_of_second = hears_fault (record {
    number = 7;
    touch = second;
    code = 4;
    going = refl;
    waiting = record { earlier = first ∷ []; last = refl; waits = refl };
    line = contained refused_next.answers 2 (answers.Fault 4 7 2) refl;
    is = refl;
  })

  sends_second_again : Step each 10 heard_fault sent_again
  sends_second_again = sends (record {
    number = 7;
    touch = second;
    going = refl;
    waiting = record { earlier = first ∷ []; last = refl; waits = refl };
    is = refl;
  })

  stops : Step each 10 sent_again in_flight
  stops = station_stops (record {
    left = strange ∷ first ∷ second ∷ [];
    either = inr (record { touch = second; line = contained sent_again.sent 3 second refl; is = refl });
    is = refl;
  })

  reopens : Step each 10 in_flight reopened
  reopens = station_opens (record {
    tables = others;
    kept = reopened.station.history;
    going = refl;
    one_journal = refl;
    same_tables = refl;
    legal = legal_again tables others;
    is = refl;
  })

  sends_second_at_last : Step each 10 reopened sent_last
  sends_second_at_last = sends (record {
    number = 7;
    touch = second;
    going = refl;
    waiting = record { earlier = first ∷ []; last = refl; waits = refl };
    is = refl;
  })

  answers_second : Step each 10 sent_last answered_last
  unfolding on_literals
  answers_second = replies (record {
    touch = second;
    place = 2;
    reply = issued_before;
    going = refl;
    first = refl;
    is = refl;
  })

  hears_second : Step each 10 answered_last heard_last
  hears_second = hears (record {
    number = 7;
    touch = second;
    reply = issued_before;
    going = refl;
    waiting = record { earlier = first ∷ []; last = refl; waits = refl };
    line = contained answered_last.answers 3 (answer second issued_before) refl;
    is = refl;
  })

  -- the station crashes with the second touch in flight
  abbrev to_flight : List Whole
  to_flight = asked_next ∷ sent_next ∷ refused_next ∷ heard_fault ∷ sent_again ∷ in_flight ∷ []

  runs_to_flight : IsRun each 10 heard to_flight in_flight
  runs_to_flight = (
    asks_second,
    (sends_second, (refuses_second, (hears_fault_of_second, (sends_second_again, (stops, refl))))),
  )

  -- it is opened again, and the gate repeats
  abbrev after : List Whole
  after = reopened ∷ sent_last ∷ answered_last ∷ heard_last ∷ []

  runs_after : IsRun each 10 in_flight after heard_last
  runs_after = (reopens, (sends_second_at_last, (answers_second, (hears_second, refl))))

  abbrev pub all : List Whole
  all = (run.to_heard tables ++ to_flight) ++ after

  pub runs : IsRun each 10 (run.start tables) all heard_last
  runs =
      run-then each 10 (run.start tables) in_flight heard_last (run.to_heard tables ++ to_flight) after
      (run-then each 10 (run.start tables) heard in_flight (run.to_heard tables) to_flight (run.runs_to_heard tables)
      runs_to_flight) runs_after

  -- the law, of this run: all gates agree with the station at its end
  agree : AllAgree each 10 heard_last
  agree = all_agree each 10 (run.start tables) heard_last all (run.starts tables) runs

  -- so the journal has what gate 7 was told
  has_second : Contains heard_last.station.journal second
  has_second =
      agree.durable 7 (judged second issued_before) refl
      (contained (judged first issued ∷ judged second issued_before ∷ []) 1 (judged second issued_before) refl)

  -- one machine gave these replies
  of_machine : IsOfMachine each 10 (run.start tables) heard_last
  of_machine = each_run_of_machine each 10 (run.start tables) heard_last all (run.starts tables) runs

  -- it was asked three touches, that of gate 9 first, and gave gate 7 the replies that its caller was told
  history : (machine_of heard_last).history
      ≡ judged strange issued ∷ judged first issued ∷ judged second issued_before ∷ []
  history = refl

  to_seven : replies_to 7 (machine_of heard_last) ≡ (heard_last.gates 7).told
  to_seven = refl
