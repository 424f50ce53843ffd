-- A run with an opening that lacks its condition: a gate gives up a touch that its station refused, an opening lets
-- that touch wait again, and its caller is told one more fault of it. It is of gate 7 and 10 cards, by any tables of
-- fares.
use Rattle.std.proofs.Common.{◌≡◌, inl, inr, ℕ, true, false, [], ◌∷◌, refl}
use Rattle.reply_book.specs.Tables.{Tables}
use Rattle.gate_session.specs.declared.answer.Answer.TheVariants as answers
use Rattle.gate_session.specs.declared.answer.FaultCode.TheVariants.{NotAllowed}
use Rattle.gate_law.specs.Whole.{Whole, Refusal, with_gate}
use Rattle.gate_law.specs.WholeSteps.{Step, hears_fault, gives_up, refuses}
use Rattle.gate_law.specs.WholeWeaker.{GateOpensAgain, DoesComeBack}
use Rattle.gate_law.proofs.RunExamples.{first, head}
use Rattle.gate_law.proofs.WholeExamples.{each, start, asked, sent, starts, asks_first, sends_first}

abbrev refusal : Refusal
refusal = record { touch = first; code = 7 }

module _ (tables : Tables) where
  -- the first touch isn't allowed
  abbrev refused : Whole
  refused = record (sent tables) { answers = answers.Fault 7 7 1 ∷ [] }

  abbrev heard : Whole
  heard = record refused {
    gates = with_gate refused.gates 7 (record {
      file = first ∷ [];
      going = true;
      waits = true;
      told = [];
      refused = refusal ∷ [];
    });
  }

  -- it is given up
  abbrev up : Whole
  up = record heard {
    gates = with_gate heard.gates 7 (record {
      file = first ∷ first ∷ [];
      going = true;
      waits = false;
      told = [];
      refused = refusal ∷ [];
    });
  }

  -- it waits again, and the fault is heard once more
  abbrev opened : Whole
  opened = record up {
    gates = with_gate up.gates 7 (record {
      file = first ∷ first ∷ [];
      going = true;
      waits = true;
      told = [];
      refused = refusal ∷ [];
    });
  }

  abbrev heard_again : Whole
  heard_again = record opened {
    gates = with_gate opened.gates 7 (record {
      file = first ∷ first ∷ [];
      going = true;
      waits = true;
      told = [];
      refused = refusal ∷ refusal ∷ [];
    });
  }

  refuses_first : Step each 10 (sent tables) refused
  refuses_first = refuses (record {
    touch = first;
    fault = NotAllowed;
    line = head first [];
    cause = tt;
    is = refl;
  })

  hears_first : Step each 10 refused heard
  hears_first = hears_fault (record {
    number = 7;
    touch = first;
    code = 7;
    going = refl;
    waiting = record { earlier = []; last = refl; waits = refl };
    line = head (answers.Fault 7 7 1) [];
    is = refl;
  })

  gives_up_first : Step each 10 heard up
  gives_up_first = gives_up (record {
    number = 7;
    touch = first;
    going = refl;
    waited = record { earlier = []; last = refl; waits = refl };
    is = refl;
  })

  hears_again : Step each 10 opened heard_again
  hears_again = hears_fault (record {
    number = 7;
    touch = first;
    code = 7;
    going = refl;
    waiting = record { earlier = first ∷ []; last = refl; waits = refl };
    line = head (answers.Fault 7 7 1) [];
    is = refl;
  })

  pub opens_again : DoesComeBack tables (λ (cards : ℕ). GateOpensAgain)
  opens_again = record {
    alone = each;
    cards = 10;
    gate = 7;
    number = 1;
    first = start tables;
    mid = up;
    last = heard_again;
    before = asked tables ∷ sent tables ∷ refused ∷ heard ∷ up ∷ [];
    after = opened ∷ heard_again ∷ [];
    by = refl;
    starts = starts tables;
    is_alone = refl;
    until = (
      asks_first tables,
      (sends_first tables, (refuses_first, (hears_first, (gives_up_first, refl)))),
    );
    given_up = refl;
    runs = (
      inr (record {
        number = 7;
        kept = first ∷ first ∷ [];
        waits = true;
        one_journal = refl;
        last = λ is. refl;
        is = refl;
      }),
      (inl hears_again, refl),
    );
    differs = λ is. let no : refusal ∷ refusal ∷ [] ≡ refusal ∷ [] = is.refused in absurd cc;
  }
