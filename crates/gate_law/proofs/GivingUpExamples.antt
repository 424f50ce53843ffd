-- The run of RunExamples goes on: the third touch of gate 7 isn't allowed, and the gate gives it up. The gate crashes
-- and is opened, and none waits. The next touch has the number behind that used up, and its reply is heard. Then the
-- station reads a late copy of the touch that was given up. The laws are applied to the whole run.
use Rattle.std.proofs.Common.{◌≡◌, inl, inr, true, false, List, [], ◌∷◌, ◌++◌, refl}
use Rattle.oyster_account.specs.declared.touch.Touch.{Touch}
use Rattle.reply_book.specs.Tables.{Tables}
use Rattle.reply_book.specs.Legal.{touches_of}
use Rattle.gate_session.specs.declared.answer.Answer.TheVariants as answers
use Rattle.gate_law.specs.Joint.{Joint, of_gate, is_given_up, not_given_up}
use Rattle.gate_law.specs.Steps.{Step}
use Rattle.gate_law.specs.Agreement.{IsRun, Agrees}
use Rattle.gate_law.specs.GivenUp.{IsLeftAlone}
use Rattle.gate_law.proofs.ListLemmas.{contained}
use Rattle.gate_law.proofs.StepLemmas.{run-append}
use Rattle.gate_law.proofs.AgreementLemmas.{they_agree}
use Rattle.gate_law.proofs.GivenUpLemmas.{for_good}
use Rattle.gate_law.proofs.RunExamples.{issue, issued, issued_before, first, second, strange, entry, judged, answer}
use Rattle.gate_law.proofs.RunExamples.{on_literals, start, starts, in_flight, heard_next, before, runs_before, after}
use Rattle.gate_law.proofs.RunExamples.{runs_after}

-- gate 7 issues card 1 twice more: the number 4 is used up between the two
abbrev pub third : Touch
third = issue 7 3 1

abbrev pub fifth : Touch
fifth = issue 7 5 1

module _ (tables others : Tables) where
  abbrev here : Joint
  here = heard_next tables others

  abbrev asked_third : Joint
  asked_third = record here { asked = first ∷ second ∷ third ∷ []; waits = true }

  abbrev sent_third : Joint
  sent_third = record asked_third { sent = first ∷ strange ∷ first ∷ second ∷ second ∷ third ∷ [] }

  -- it isn't allowed
  abbrev barred : Joint
  barred = record sent_third {
    answers = answer first issued ∷ answer first issued ∷ answers.Fault 4 7 2 ∷ answer second issued_before
        ∷ answers.Fault 7 7 3 ∷ [];
  }

  abbrev given_up : Joint
  given_up = record barred { asked = first ∷ second ∷ third ∷ third ∷ []; waits = false }

  -- the gate crashes and is opened: none waits
  abbrev opened : Joint
  opened = record given_up { waits = false }

  abbrev asked_fifth : Joint
  asked_fifth = record opened { asked = first ∷ second ∷ third ∷ third ∷ fifth ∷ []; waits = true }

  abbrev sent_fifth : Joint
  sent_fifth = record asked_fifth { sent = first ∷ strange ∷ first ∷ second ∷ second ∷ third ∷ fifth ∷ [] }

  abbrev entered_fifth : Joint
  entered_fifth = record sent_fifth {
    history = entry strange issued 0 ∷ entry first issued 0 ∷ entry second issued_before 0
        ∷ entry fifth issued_before 2 ∷ [];
  }

  abbrev answered_fifth : Joint
  answered_fifth = record entered_fifth {
    answers = answer first issued ∷ answer first issued ∷ answers.Fault 4 7 2 ∷ answer second issued_before
        ∷ answers.Fault 7 7 3 ∷ answer fifth issued_before ∷ [];
  }

  abbrev heard_fifth : Joint
  heard_fifth = record answered_fifth {
    waits = false;
    told = judged first issued ∷ judged second issued_before ∷ judged fifth issued_before ∷ [];
  }

  -- a late copy of the third touch is read
  abbrev entered_late : Joint
  entered_late = record heard_fifth {
    history = entry strange issued 0 ∷ entry first issued 0 ∷ entry second issued_before 0
        ∷ entry fifth issued_before 2 ∷ entry third issued_before 1 ∷ [];
  }

  -- ---- step by step

  asks_third : Step 7 10 here asked_third
  asks_third = inl (record { touch = third; none = refl; own = refl; number = refl; is = refl })

  sends_third : Step 7 10 asked_third sent_third
  sends_third = inr (inl (record {
    touch = third;
    waiting = record { earlier = first ∷ second ∷ []; last = refl; waits = refl };
    is = refl;
  }))

  bars_third : Step 7 10 sent_third barred
  bars_third = inr (inr (inr (inr (inr (inl (record { answer = answers.Fault 7 7 3; none = refl; is = refl }))))))

  gives_up_third : Step 7 10 barred given_up
  gives_up_third = inr (inr (inr (inr (inr (inr (inr (inr (inr (record {
    touch = third;
    waited = record { earlier = first ∷ second ∷ []; last = refl; waits = refl };
    is = refl;
  })))))))))

  opens : Step 7 10 given_up opened
  opens = inr (inr (inr (inr (inr (inr (inr (inl (record {
    kept = first ∷ second ∷ third ∷ third ∷ [];
    one_journal = refl;
    is = refl;
  }))))))))

  asks_fifth : Step 7 10 opened asked_fifth
  asks_fifth = inl (record { touch = fifth; none = refl; own = refl; number = refl; is = refl })

  sends_fifth : Step 7 10 asked_fifth sent_fifth
  sends_fifth = inr (inl (record {
    touch = fifth;
    waiting = record { earlier = first ∷ second ∷ third ∷ third ∷ []; last = refl; waits = refl };
    is = refl;
  }))

  enters_fifth : Step 7 10 sent_fifth entered_fifth
  unfolding on_literals
  enters_fifth = inr (inr (inr (inl (record {
    touch = fifth;
    reply = issued_before;
    seat = 2;
    line = contained sent_fifth.sent 6 fifth refl;
    fresh = refl;
    lock = refl;
    is = refl;
  }))))

  answers_fifth : Step 7 10 entered_fifth answered_fifth
  unfolding on_literals
  answers_fifth = inr (inr (inr (inr (inl (record {
    touch = fifth;
    place = 3;
    reply = issued_before;
    first = refl;
    is = refl;
  })))))

  hears_fifth : Step 7 10 answered_fifth heard_fifth
  hears_fifth = inr (inr (inr (inr (inr (inr (inl (record {
    touch = fifth;
    gate = 7;
    number = 5;
    reply = issued_before;
    waiting = record { earlier = first ∷ second ∷ third ∷ third ∷ []; last = refl; waits = refl };
    line = contained answered_fifth.answers 5 (answer fifth issued_before) refl;
    same_gate = refl;
    same_number = refl;
    is = refl;
  })))))))

  enters_third : Step 7 10 heard_fifth entered_late
  unfolding on_literals
  enters_third = inr (inr (inr (inl (record {
    touch = third;
    reply = issued_before;
    seat = 1;
    line = contained heard_fifth.sent 5 third refl;
    fresh = refl;
    lock = refl;
    is = refl;
  }))))

  -- the third touch is asked, isn't allowed, and is given up
  abbrev to_given_up : List Joint
  to_given_up = asked_third ∷ sent_third ∷ barred ∷ given_up ∷ []

  runs_to_given_up : IsRun 7 10 here to_given_up given_up
  runs_to_given_up = (asks_third, (sends_third, (bars_third, (gives_up_third, refl))))

  abbrev earlier : List Joint
  earlier = (before tables others ++ after tables others) ++ to_given_up

  runs_earlier : IsRun 7 10 (start tables others) earlier given_up
  runs_earlier =
      run-append (Step 7 10) (start tables others) here given_up (before tables others ++ after tables others)
      to_given_up
      (run-append (Step 7 10) (start tables others) (in_flight tables others) here (before tables others)
      (after tables others) (runs_before tables others) (runs_after tables others)) runs_to_given_up

  -- the next touch is asked and told, and the third comes late
  abbrev later : List Joint
  later = opened ∷ asked_fifth ∷ sent_fifth ∷ entered_fifth ∷ answered_fifth ∷ heard_fifth ∷ entered_late ∷ []

  runs_later : IsRun 7 10 given_up later entered_late
  runs_later =
      (opens, (asks_fifth, (sends_fifth, (enters_fifth, (answers_fifth, (hears_fifth, (enters_third, refl)))))))

  -- the law, of this run: both sides agree at its end
  agree : Agrees 7 10 entered_late
  agree =
      they_agree 7 10 (start tables others) entered_late (earlier ++ later) (starts tables others)
      (run-append (Step 7 10) (start tables others) given_up entered_late earlier later runs_earlier runs_later)

  -- the third touch stands behind the fifth, and without it the row is that of the file
  late : of_gate 7 (touches_of entered_late.history) ≡ first ∷ second ∷ fifth ∷ third ∷ []
  late = refl

  others_in_order : not_given_up entered_late.asked (of_gate 7 (touches_of entered_late.history))
      ≡ first ∷ second ∷ fifth ∷ []
  others_in_order = refl

  -- it was left alone since it was given up
  left_alone : IsLeftAlone 7 3 given_up entered_late
  left_alone =
      for_good 7 10 3 (start tables others) given_up entered_late earlier later (starts tables others) runs_earlier
      runs_later refl

  -- the touch that waited before, and the next one, aren't given up
  only_third : (is_given_up given_up.asked 1 ≡ false) × (is_given_up given_up.asked 2 ≡ false)
      × (is_given_up given_up.asked 4 ≡ false)
  only_third = (refl, refl, refl)
