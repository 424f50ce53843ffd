-- Runs with a fault that has no cause, wasn't written or is of no touch, or with a stranger's touch, each of which ends
-- where not all agree. They are of gate 7 and 10 cards, by any tables of fares.
use Rattle.std.proofs.Common.{◌≡◌, inl, inr, ℕ, true, List, [], ◌∷◌, ◌++◌, refl, sym, subst}
use Rattle.std.specs.Prelude.{Contains}
use Rattle.reply_book.specs.Tables.{Tables}
use Rattle.gate_session.specs.declared.answer.Answer.TheVariants as answers
use Rattle.gate_session.specs.declared.answer.FaultCode.TheVariants.{Conflict}
use Rattle.gate_law.specs.Whole.{Gate, Whole, Refusal, with_gate}
use Rattle.gate_law.specs.WholeSteps.{Step, hears_fault, enters}
use Rattle.gate_law.specs.WholeWeaker.{AnybodySends, RefusesForNothing, TellsAnything}
use Rattle.gate_law.specs.WholeWeaker.{HearsUnwrittenFault}
use Rattle.gate_law.specs.WholeWeaker.{DoesBreak}
use Rattle.gate_law.specs.WholeAgreement.{AllAgree}
use Rattle.gate_law.proofs.RunExamples.{issued, first, entry, head, on_literals}
use Rattle.gate_law.proofs.WholeExamples.{waiting, each, start, asked, sent, starts, asks_first, sends_first}

-- a list of none isn't one with another behind it
none-behind : {X : Type 0} (xs : List X) (x : X) → [] ≡ xs ++ x ∷ [] → ⊥
none-behind [] x is = absurd cc
none-behind (y ∷ ys) x is = absurd cc

module _ (tables : Tables) where
  abbrev here : Whole
  here = start tables

  abbrev conflict_told : Whole
  conflict_told = record (sent tables) { answers = answers.Fault 2 7 1 ∷ [] }

  abbrev refused_by : Gate
  refused_by = record (waiting (first ∷ [])) { refused = record { touch = first; code = 2 } ∷ [] }

  abbrev conflict_heard : Whole
  conflict_heard = record conflict_told { gates = with_gate conflict_told.gates 7 refused_by }

  hears_conflict : Step each 10 conflict_told conflict_heard
  hears_conflict = hears_fault (record {
    number = 7;
    touch = first;
    code = 2;
    going = refl;
    waiting = record { earlier = []; last = refl; waits = refl };
    line = head (answers.Fault 2 7 1) [];
    is = refl;
  })

  -- whoever was told a conflict
  no-conflict : (last : Whole) → (last.gates 7).refused ≡ record { touch = first; code = 2 } ∷ []
      → AllAgree each 10 last → ⊥
  no-conflict last is all =
      all.never_conflict 7 (record { touch = first; code = 2 }) refl
      (subst (λ (l : List Refusal). Contains l (record { touch = first; code = 2 })) (sym is)
      (head (record { touch = first; code = 2 }) [])) refl

  pub for_nothing : DoesBreak tables (λ (cards : ℕ). RefusesForNothing)
  for_nothing = record {
    alone = each;
    cards = 10;
    first = here;
    last = conflict_heard;
    between = asked tables ∷ sent tables ∷ conflict_told ∷ conflict_heard ∷ [];
    by = refl;
    starts = starts tables;
    runs = (
      inl (asks_first tables),
      (
        inl (sends_first tables),
        (
          inr (record { touch = first; fault = Conflict; line = head first []; is = refl }),
          (inl hears_conflict, refl),
        ),
      ),
    );
    differs = no-conflict conflict_heard refl;
  }

  pub anything : DoesBreak tables (λ (cards : ℕ). TellsAnything)
  anything = record {
    alone = each;
    cards = 10;
    first = here;
    last = conflict_heard;
    between = asked tables ∷ sent tables ∷ conflict_told ∷ conflict_heard ∷ [];
    by = refl;
    starts = starts tables;
    runs = (
      inl (asks_first tables),
      (
        inl (sends_first tables),
        (inr (record { answer = answers.Fault 2 7 1; is = refl }), (inl hears_conflict, refl)),
      ),
    );
    differs = no-conflict conflict_heard refl;
  }

  abbrev unwritten_heard : Whole
  unwritten_heard = record (sent tables) { gates = with_gate (sent tables).gates 7 refused_by }

  pub unwritten : DoesBreak tables (λ (cards : ℕ). HearsUnwrittenFault)
  unwritten = record {
    alone = each;
    cards = 10;
    first = here;
    last = unwritten_heard;
    between = asked tables ∷ sent tables ∷ unwritten_heard ∷ [];
    by = refl;
    starts = starts tables;
    runs = (
      inl (asks_first tables),
      (
        inl (sends_first tables),
        (
          inr (record {
            number = 7;
            touch = first;
            code = 2;
            going = refl;
            waiting = record { earlier = []; last = refl; waits = refl };
            is = refl;
          }),
          refl,
        ),
      ),
    );
    differs = no-conflict unwritten_heard refl;
  }

  -- ---- who sends

  -- somebody else sends the first touch of gate 7, which was asked nothing
  abbrev strangely_sent : Whole
  strangely_sent = record here { sent = first ∷ [] }

  abbrev strangely_entered : Whole
  strangely_entered = record strangely_sent {
    station = record {
      journal = first ∷ [];
      capacity = 10;
      going = true;
      tables = tables;
      history = entry first issued 1 ∷ [];
    };
  }

  enters_strangely : Step each 10 strangely_sent strangely_entered
  unfolding on_literals
  enters_strangely = enters (record {
    touch = first;
    reply = issued;
    seat = 1;
    going = refl;
    line = head first [];
    fresh = refl;
    lock = refl;
    is = refl;
  })

  pub alone : DoesBreak tables (λ (cards : ℕ). AnybodySends)
  alone = record {
    alone = each;
    cards = 10;
    first = here;
    last = strangely_entered;
    between = strangely_sent ∷ strangely_entered ∷ [];
    by = refl;
    starts = starts tables;
    runs = (inr (record { touch = first; is = refl }), (inl enters_strangely, refl));
    differs = λ all. elim (all.each 7 refl).row [
      | inl same ↦ let no : first ∷ [] ≡ [] = same in absurd cc
      | inr but ↦ none-behind (first ∷ []) but.last but.parts
    ];
  }
