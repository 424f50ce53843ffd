-- Runs with a step that takes another gate's touch, or another gate's reply, for this one's, each of which ends where
-- gate and station don't agree: of gate 7 and 10 cards, by any tables of fares.
use Rattle.std.proofs.Common.{◌⊎◌, inl, inr, true, false, List, [], ◌∷◌, ◌++◌, refl, arith}
use Rattle.reply_book.specs.Tables.{Tables}
use Rattle.gate_law.specs.Joint.{Joint}
use Rattle.gate_law.specs.Steps.{Step}
use Rattle.gate_law.specs.Agreement.{IsRun}
use Rattle.gate_law.specs.Weaker.{AsksForAnother, HearsAnyGate, HearsUnasked, DoesBreak}
use Rattle.gate_law.proofs.ListLemmas.{contains-none}
use Rattle.gate_law.proofs.StepLemmas.{run-append}
use Rattle.gate_law.proofs.RunExamples.{issued, first, strange, entry, judged, answer, head, differ, on_literals}
use Rattle.gate_law.proofs.RunExamples.{starts}
use Rattle.gate_law.proofs.WeakerLemmas.{lost, allowed, here}

module _ (tables : Tables) where
  -- another gate's touch is asked, entered, answered and told
  abbrev asked_other : Joint
  asked_other = record (here tables) { asked = strange ∷ []; waits = true }

  abbrev sent_other : Joint
  sent_other = record asked_other { sent = strange ∷ [] }

  abbrev entered_other : Joint
  entered_other = record sent_other { history = entry strange issued 1 ∷ [] }

  abbrev answered_other : Joint
  answered_other = record entered_other { answers = answer strange issued ∷ [] }

  abbrev heard_other : Joint
  heard_other = record answered_other { waits = false; told = judged strange issued ∷ [] }

  pub for_another : DoesBreak tables (λ gate cards. AsksForAnother)
  unfolding on_literals
  for_another = record {
    gate = 7;
    cards = 10;
    first = here tables;
    last = heard_other;
    between = asked_other ∷ sent_other ∷ entered_other ∷ answered_other ∷ heard_other ∷ [];
    by = refl;
    starts = starts tables tables;
    runs = (inr asks, (inl sends, (inl enters, (inl answers, (inl hears, refl)))));
    differs = lost heard_other 7 10 strange [] refl refl refl;
  }
    where
      asks : AsksForAnother (here tables) asked_other
      asks = record { touch = strange; none = refl; number = refl; is = refl }

      sends : Step 7 10 asked_other sent_other
      sends = inr (inl (record {
        touch = strange;
        waiting = record { earlier = []; last = refl; waits = refl };
        is = refl;
      }))

      enters : Step 7 10 sent_other entered_other
      enters = inr (inr (inr (inl (record {
        touch = strange;
        reply = issued;
        seat = 1;
        line = head strange [];
        fresh = refl;
        lock = refl;
        is = refl;
      }))))

      answers : Step 7 10 entered_other answered_other
      answers = inr (inr (inr (inr (inl (record {
        touch = strange;
        place = 0;
        reply = issued;
        first = refl;
        is = refl;
      })))))

      hears : Step 7 10 answered_other heard_other
      hears = inr (inr (inr (inr (inr (inr (inl (record {
        touch = strange;
        gate = 9;
        number = 1;
        reply = issued;
        waiting = record { earlier = []; last = refl; waits = refl };
        line = head (answer strange issued) [];
        same_gate = refl;
        same_number = refl;
        is = refl;
      })))))))

  -- another gate's touch is sent by that gate, entered and answered
  abbrev crossed : Joint
  crossed = record (here tables) { sent = strange ∷ [] }

  abbrev crossed_entered : Joint
  crossed_entered = record crossed { history = entry strange issued 1 ∷ [] }

  abbrev crossed_answered : Joint
  crossed_answered = record crossed_entered { answers = answer strange issued ∷ [] }

  abbrev to_crossed : List Joint
  to_crossed = crossed ∷ crossed_entered ∷ crossed_answered ∷ []

  runs_to_crossed : IsRun 7 10 (here tables) to_crossed crossed_answered
  unfolding on_literals
  runs_to_crossed = (sends, (enters, (answers, refl)))
    where
      sends : Step 7 10 (here tables) crossed
      sends = inr (inr (inl (record { touch = strange; alone = λ e. differ 7 9 (omega arith) e; is = refl })))

      enters : Step 7 10 crossed crossed_entered
      enters = inr (inr (inr (inl (record {
        touch = strange;
        reply = issued;
        seat = 1;
        line = head strange [];
        fresh = refl;
        lock = refl;
        is = refl;
      }))))

      answers : Step 7 10 crossed_entered crossed_answered
      answers = inr (inr (inr (inr (inl (record {
        touch = strange;
        place = 0;
        reply = issued;
        first = refl;
        is = refl;
      })))))

  -- its reply is told of the first touch
  abbrev asked_behind : Joint
  asked_behind = record crossed_answered { asked = first ∷ []; waits = true }

  abbrev heard_behind : Joint
  heard_behind = record asked_behind { waits = false; told = judged first issued ∷ [] }

  pub another_gate : DoesBreak tables (λ gate cards. HearsAnyGate)
  another_gate = record {
    gate = 7;
    cards = 10;
    first = here tables;
    last = heard_behind;
    between = to_crossed ++ asked_behind ∷ heard_behind ∷ [];
    by = refl;
    starts = starts tables tables;
    runs =
        run-append (λ a b. Step 7 10 a b ⊎ HearsAnyGate a b) (here tables) crossed_answered heard_behind to_crossed
        (asked_behind ∷ heard_behind ∷ [])
        (allowed (Step 7 10) HearsAnyGate (here tables) crossed_answered to_crossed runs_to_crossed) (
          inl (inl (record { touch = first; none = refl; own = refl; number = refl; is = refl })),
          (
            inr (record {
              touch = first;
              gate = 9;
              number = 1;
              reply = issued;
              waiting = record { earlier = []; last = refl; waits = refl };
              line = head (answer strange issued) [];
              same_number = refl;
              is = refl;
            }),
            refl,
          ),
        );
    differs = lost heard_behind 7 10 first [] refl refl refl;
  }

  -- it is told, and nothing was asked
  abbrev heard_unasked : Joint
  heard_unasked = record crossed_answered { waits = false; told = judged strange issued ∷ [] }

  pub unasked : DoesBreak tables (λ gate cards. HearsUnasked)
  unasked = record {
    gate = 7;
    cards = 10;
    first = here tables;
    last = heard_unasked;
    between = to_crossed ++ heard_unasked ∷ [];
    by = refl;
    starts = starts tables tables;
    runs =
        run-append (λ a b. Step 7 10 a b ⊎ HearsUnasked a b) (here tables) crossed_answered heard_unasked to_crossed
        (heard_unasked ∷ [])
        (allowed (Step 7 10) HearsUnasked (here tables) crossed_answered to_crossed runs_to_crossed) (
          inr (record {
            touch = strange;
            gate = 9;
            number = 1;
            reply = issued;
            line = head (answer strange issued) [];
            same_gate = refl;
            same_number = refl;
            is = refl;
          }),
          refl,
        );
    differs = λ a.
        contains-none [] strange refl (a.told (judged strange issued) (head (judged strange issued) [])).asked;
  }
