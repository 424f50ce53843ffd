-- The run of WholeCrashExamples goes on: the third touch of gate 7 isn't allowed, and the gate crashes as it gives that
-- touch up, which its disk has. It is opened, and none waits. The next touch has the number behind that used up, and
-- its reply is heard. Then the station reads a late copy of the touch that was given up. The laws are applied to the
-- whole run.
use Rattle.std.proofs.Common.{inr, Bool, true, false, List, [], ◌∷◌, ◌++◌, refl}
use Rattle.oyster_account.specs.declared.touch.Touch.{Touch}
use Rattle.oyster_account.specs.declared.reply.Judged.{Judged}
use Rattle.reply_book.specs.Tables.{Tables}
use Rattle.gate_session.specs.declared.answer.Answer.{Answer}
use Rattle.gate_session.specs.declared.answer.Answer.TheVariants as answers
use Rattle.gate_session.specs.declared.answer.FaultCode.TheVariants.{NotAllowed}
use Rattle.gate_law.specs.Whole.{Gate, Whole, Refusal, with_gate}
use Rattle.gate_law.specs.WholeSteps.{Step, asks, sends, hears, hears_fault, gate_stops, gate_opens, enters}
use Rattle.gate_law.specs.WholeSteps.{replies, refuses}
use Rattle.gate_law.specs.WholeAgreement.{IsRun, AllAgree}
use Rattle.gate_law.specs.GivenUp.{IsLeftToItself}
use Rattle.gate_law.specs.Machine.{IsOfMachine}
use Rattle.gate_law.proofs.ListLemmas.{contained}
use Rattle.gate_law.proofs.RunExamples.{issued, issued_before, first, second, strange, entry, judged, answer}
use Rattle.gate_law.proofs.RunExamples.{on_literals}
use Rattle.gate_law.proofs.GivingUpExamples.{third, fifth}
use Rattle.gate_law.proofs.WholeLemmas.{all_agree, run-then}
use Rattle.gate_law.proofs.WholeGivenUpLemmas.{each_for_good}
use Rattle.gate_law.proofs.MachineLemmas.{each_run_of_machine}
use Rattle.gate_law.proofs.WholeExamples.{each, start, starts}
use Rattle.gate_law.proofs.WholeCrashExamples.{heard_last, all, runs}

-- the faults that gate 7 heard
abbrev no_memory : Refusal
no_memory = record { touch = second; code = 4 }

abbrev not_allowed : Refusal
not_allowed = record { touch = third; code = 7 }

-- gate 7 with this file after the first two replies
abbrev seven : List Touch → Bool → Bool → List Judged → List Refusal → Gate
seven file going waits more refused = record {
  file = file;
  going = going;
  waits = waits;
  told = judged first issued ∷ judged second issued_before ∷ more;
  refused = no_memory ∷ refused;
}

-- the answers that were written, and these more
abbrev written : List Answer → List Answer
written more =
    answer first issued ∷ answer first issued ∷ answers.Fault 4 7 2 ∷ answer second issued_before
    ∷ answers.Fault 7 7 3 ∷ more

module _ (tables others : Tables) where
  abbrev here : Whole
  here = heard_last tables others

  abbrev asked_third : Whole
  asked_third = record here {
    gates = with_gate here.gates 7 (seven (first ∷ second ∷ third ∷ []) true true [] []);
  }

  abbrev sent_third : Whole
  sent_third = record asked_third {
    sent = first ∷ strange ∷ first ∷ second ∷ second ∷ second ∷ third ∷ [];
  }

  -- it isn't allowed
  abbrev barred : Whole
  barred = record sent_third { answers = written [] }

  abbrev heard_barred : Whole
  heard_barred = record barred {
    gates = with_gate barred.gates 7 (seven (first ∷ second ∷ third ∷ []) true true [] (not_allowed ∷ []));
  }

  -- the gate crashes as it gives that up, and is opened
  abbrev crashed : Whole
  crashed = record heard_barred {
    gates = with_gate heard_barred.gates 7
        (seven (first ∷ second ∷ third ∷ third ∷ []) false false [] (not_allowed ∷ []));
  }

  abbrev opened : Whole
  opened = record crashed {
    gates = with_gate crashed.gates 7
        (seven (first ∷ second ∷ third ∷ third ∷ []) true false [] (not_allowed ∷ []));
  }

  abbrev asked_fifth : Whole
  asked_fifth = record opened {
    gates = with_gate opened.gates 7
        (seven (first ∷ second ∷ third ∷ third ∷ fifth ∷ []) true true [] (not_allowed ∷ []));
  }

  abbrev sent_fifth : Whole
  sent_fifth = record asked_fifth {
    sent = first ∷ strange ∷ first ∷ second ∷ second ∷ second ∷ third ∷ fifth ∷ [];
  }

  abbrev entered_fifth : Whole
  entered_fifth = record sent_fifth {
    station = record {
      journal = strange ∷ first ∷ second ∷ fifth ∷ [];
      capacity = 10;
      going = true;
      tables = others;
      history = entry strange issued 0 ∷ entry first issued 0 ∷ entry second issued_before 0
          ∷ entry fifth issued_before 2 ∷ [];
    };
  }

  abbrev answered_fifth : Whole
  answered_fifth = record entered_fifth { answers = written (answer fifth issued_before ∷ []) }

  abbrev heard_fifth : Whole
  heard_fifth = record answered_fifth {
    gates = with_gate answered_fifth.gates 7 (seven (first ∷ second ∷ third ∷ third ∷ fifth ∷ []) true false
        (judged fifth issued_before ∷ []) (not_allowed ∷ []));
  }

  -- a late copy of the third touch is read
  abbrev entered_late : Whole
  entered_late = record heard_fifth {
    station = record {
      journal = strange ∷ first ∷ second ∷ fifth ∷ third ∷ [];
      capacity = 10;
      going = true;
      tables = others;
      history = entry strange issued 0 ∷ entry first issued 0 ∷ entry second issued_before 0
          ∷ entry fifth issued_before 2 ∷ entry third issued_before 1 ∷ [];
    };
  }

  -- ---- step by step

  asks_third : Step each 10 here asked_third
  asks_third = asks (record {
    number = 7;
    touch = third;
    going = refl;
    asked = record { none = refl; own = refl; numbered = refl };
    is = refl;
  })

  sends_third : Step each 10 asked_third sent_third
  sends_third = sends (record {
    number = 7;
    touch = third;
    going = refl;
    waiting = record { earlier = first ∷ second ∷ []; last = refl; waits = refl };
    is = refl;
  })

  bars_third : Step each 10 sent_third barred
  bars_third = refuses (record {
    touch = third;
    fault = NotAllowed;
    line = contained sent_third.sent 6 third refl;
    cause = tt;
    is = refl;
  })

  hears_barred : Step each 10 barred heard_barred
  hears_barred = hears_fault (record {
    number = 7;
    touch = third;
    code = 7;
    going = refl;
    waiting = record { earlier = first ∷ second ∷ []; last = refl; waits = refl };
    line = contained barred.answers 4 (answers.Fault 7 7 3) refl;
    is = refl;
  })

  crashes : Step each 10 heard_barred crashed
  crashes = gate_stops (record {
    number = 7;
    left = first ∷ second ∷ third ∷ third ∷ [];
    waits = false;
    either = inr (inr (
      third,
      record { earlier = first ∷ second ∷ []; last = refl; waits = refl },
      refl,
      refl,
    ));
    is = refl;
  })

  opens : Step each 10 crashed opened
  opens = gate_opens (record {
    number = 7;
    kept = first ∷ second ∷ third ∷ third ∷ [];
    one_journal = refl;
    is = refl;
  })

  asks_fifth : Step each 10 opened asked_fifth
  asks_fifth = asks (record {
    number = 7;
    touch = fifth;
    going = refl;
    asked = record { none = refl; own = refl; numbered = refl };
    is = refl;
  })

  sends_fifth : Step each 10 asked_fifth sent_fifth
  sends_fifth = sends (record {
    number = 7;
    touch = fifth;
    going = refl;
    waiting = record { earlier = first ∷ second ∷ third ∷ third ∷ []; last = refl; waits = refl };
    is = refl;
  })

  enters_fifth : Step each 10 sent_fifth entered_fifth
  unfolding on_literals
  enters_fifth = enters (record {
    touch = fifth;
    reply = issued_before;
    seat = 2;
    going = refl;
    line = contained sent_fifth.sent 7 fifth refl;
    fresh = refl;
    lock = refl;
    is = refl;
  })

  answers_fifth : Step each 10 entered_fifth answered_fifth
  unfolding on_literals
  answers_fifth = replies (record {
    touch = fifth;
    place = 3;
    reply = issued_before;
    going = refl;
    first = refl;
    is = refl;
  })

  hears_fifth : Step each 10 answered_fifth heard_fifth
  hears_fifth = hears (record {
    number = 7;
    touch = fifth;
    reply = issued_before;
    going = refl;
    waiting = record { earlier = first ∷ second ∷ third ∷ third ∷ []; last = refl; waits = refl };
    line = contained answered_fifth.answers 5 (answer fifth issued_before) refl;
    is = refl;
  })

  enters_third : Step each 10 heard_fifth entered_late
  unfolding on_literals
  enters_third = enters (record {
    touch = third;
    reply = issued_before;
    seat = 1;
    going = refl;
    line = contained heard_fifth.sent 6 third refl;
    fresh = refl;
    lock = refl;
    is = refl;
  })

  -- the third touch is asked, isn't allowed, and is given up in a crash
  abbrev to_crash : List Whole
  to_crash = asked_third ∷ sent_third ∷ barred ∷ heard_barred ∷ crashed ∷ []

  runs_to_crash : IsRun each 10 here to_crash crashed
  runs_to_crash = (asks_third, (sends_third, (bars_third, (hears_barred, (crashes, refl)))))

  abbrev earlier : List Whole
  earlier = all tables others ++ to_crash

  runs_earlier : IsRun each 10 (start tables) earlier crashed
  runs_earlier =
      run-then each 10 (start tables) here crashed (all tables others) to_crash (runs tables others) runs_to_crash

  -- the next touch is asked and told, and the third comes late
  abbrev later : List Whole
  later = opened ∷ asked_fifth ∷ sent_fifth ∷ entered_fifth ∷ answered_fifth ∷ heard_fifth ∷ entered_late ∷ []

  runs_later : IsRun each 10 crashed later entered_late
  runs_later =
      (opens, (asks_fifth, (sends_fifth, (enters_fifth, (answers_fifth, (hears_fifth, (enters_third, refl)))))))

  runs_all : IsRun each 10 (start tables) (earlier ++ later) entered_late
  runs_all = run-then each 10 (start tables) crashed entered_late earlier later runs_earlier runs_later

  -- the laws, of this run: all gates agree with the station at its end, and one machine gave the replies
  agree : AllAgree each 10 entered_late
  agree = all_agree each 10 (start tables) entered_late (earlier ++ later) (starts tables) runs_all

  of_machine : IsOfMachine each 10 (start tables) entered_late
  of_machine = each_run_of_machine each 10 (start tables) entered_late (earlier ++ later) (starts tables) runs_all

  -- and the third touch was left to itself since the crash
  left_to_itself : IsLeftToItself 7 3 crashed entered_late
  left_to_itself =
      each_for_good each 10 7 3 (start tables) crashed entered_late earlier later (starts tables) runs_earlier
      runs_later refl refl
