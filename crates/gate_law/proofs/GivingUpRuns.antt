-- Runs with a giving up or an opening that lacks a condition: of gate 7 and 10 cards, by any tables of fares. After the
-- first two gate and station don't agree, and in the last a touch that was given up is told.
use Rattle.std.proofs.Common.{◌≡◌, inl, inr, ◌+◌, true, false, [], ◌∷◌, ◌++◌, refl, sym, arith}
use Rattle.reply_book.specs.Tables.{Tables}
use Rattle.gate_law.specs.Joint.{Joint}
use Rattle.gate_law.specs.Steps.{Step}
use Rattle.gate_law.specs.Agreement.{IsRun}
use Rattle.gate_law.specs.Weaker.{GivesUpAgain, GivesUpAnother, OpensAgain, DoesBreak, DoesComeBack}
use Rattle.gate_law.proofs.StepLemmas.{run-append}
use Rattle.gate_law.proofs.RunExamples.{issued, first, second, judged, answer, head, differ, on_literals, asked, starts}
use Rattle.gate_law.proofs.WeakerLemmas.{lost, here, entered, answered, to_entered, runs_to_entered}

module _ (tables : Tables) where
  asks : Step 7 10 (here tables) (asked tables tables)
  asks = inl (record { touch = first; none = refl; own = refl; number = refl; is = refl })

  -- the first touch is given up twice
  abbrev up : Joint
  up = record (asked tables tables) { asked = first ∷ first ∷ []; waits = false }

  abbrev up_again : Joint
  up_again = record up { asked = first ∷ first ∷ first ∷ [] }

  gives_up : Step 7 10 (asked tables tables) up
  gives_up = inr (inr (inr (inr (inr (inr (inr (inr (inr (record {
    touch = first;
    waited = record { earlier = []; last = refl; waits = refl };
    is = refl;
  })))))))))

  pub gives_up_again : DoesBreak tables (λ gate cards. GivesUpAgain)
  gives_up_again = record {
    gate = 7;
    cards = 10;
    first = here tables;
    last = up_again;
    between = asked tables tables ∷ up ∷ up_again ∷ [];
    by = refl;
    starts = starts tables tables;
    runs = (
      inl asks,
      (inl gives_up, (inr (record { touch = first; earlier = first ∷ []; last = refl; is = refl }), refl)),
    );
    differs = λ a. elim (a.numbered 2 first refl) [
      | inl own ↦ let number : 3 ≡ 1 = sym own.by_place in differ 1 3 (omega arith) number
      | inr gone ↦
          let place : 2 ≡ gone.before + 1 = gone.behind in
          let number : 1 ≡ gone.before + 1 = gone.own.by_place in
          omega (arith, place, number)
    ];
  }

  -- another touch than the first is given up
  abbrev up_another : Joint
  up_another = record (asked tables tables) { asked = first ∷ second ∷ []; waits = false }

  pub gives_up_another : DoesBreak tables (λ gate cards. GivesUpAnother)
  gives_up_another = record {
    gate = 7;
    cards = 10;
    first = here tables;
    last = up_another;
    between = asked tables tables ∷ up_another ∷ [];
    by = refl;
    starts = starts tables tables;
    runs = (inl asks, (inr (record { touch = second; waits = refl; is = refl }), refl));
    differs = lost up_another 7 10 first (second ∷ []) refl refl refl;
  }

  -- the first touch is answered, and given up
  abbrev answered_up : Joint
  answered_up = record (answered tables) { asked = first ∷ first ∷ []; waits = false }

  -- it waits again, and its reply is heard
  abbrev waits_again : Joint
  waits_again = record answered_up { waits = true }

  abbrev told : Joint
  told = record waits_again { waits = false; told = judged first issued ∷ [] }

  runs_up : IsRun 7 10 (entered tables) (answered tables ∷ answered_up ∷ []) answered_up
  unfolding on_literals
  runs_up = (
    inr (inr (inr (inr (inl (record { touch = first; place = 0; reply = issued; first = refl; is = refl }))))),
    (
      inr (inr (inr (inr (inr (inr (inr (inr (inr (record {
        touch = first;
        waited = record { earlier = []; last = refl; waits = refl };
        is = refl;
      }))))))))),
      refl,
    ),
  )

  pub opens_again : DoesComeBack tables (λ gate cards. OpensAgain)
  opens_again = record {
    gate = 7;
    cards = 10;
    number = 1;
    first = here tables;
    mid = answered_up;
    last = told;
    before = to_entered tables ++ answered tables ∷ answered_up ∷ [];
    after = waits_again ∷ told ∷ [];
    by = refl;
    starts = starts tables tables;
    until = run-append (Step 7 10) (here tables) (entered tables) answered_up (to_entered tables)
        (answered tables ∷ answered_up ∷ []) (runs_to_entered tables) runs_up;
    given_up = refl;
    runs = (
      inr (record { kept = first ∷ first ∷ []; waits = true; one_journal = refl; last = λ is. refl; is = refl }),
      (
        inl (inr (inr (inr (inr (inr (inr (inl (record {
          touch = first;
          gate = 7;
          number = 1;
          reply = issued;
          waiting = record { earlier = first ∷ []; last = refl; waits = refl };
          line = head (answer first issued) [];
          same_gate = refl;
          same_number = refl;
          is = refl;
        })))))))),
        refl,
      ),
    );
    differs = λ is. let no : judged first issued ∷ [] ≡ [] = is.told in absurd cc;
  }
