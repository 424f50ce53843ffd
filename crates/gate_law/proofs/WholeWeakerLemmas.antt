-- Runs with a crash or an opening that lacks a condition, each of which ends where not all agree. They are of gate 7
-- and 10 cards, by any tables of fares, and begin as the run in WholeExamples does.
use Rattle.std.proofs.Common.{◌≡◌, inl, inr, ℕ, Bool, true, false, List, [], ◌∷◌, ◌++◌, refl, ap, ◌∙◌, is_some}
use Rattle.std.specs.Prelude.{Contains}
use Rattle.oyster_account.specs.declared.touch.Touch.{Touch}
use Rattle.reply_book.specs.Tables.{Tables}
use Rattle.reply_book.proofs.CallerLemmas.{legal-none}
use Rattle.gate_client.specs.File.{waiting_of}
use Rattle.gate_law.specs.Whole.{Whole, with_gate}
use Rattle.gate_law.specs.WholeSteps.{Step, hears, gate_stops, enters, replies, station_stops}
use Rattle.gate_law.specs.WholeWeaker.{EntersUnsynced}
use Rattle.gate_law.specs.WholeWeaker.{GateLoses, GateOpensIdle, StationLoses}
use Rattle.gate_law.specs.WholeWeaker.{StationOpensAnother, AreWeaker, IsRunWith, DoesBreak}
use Rattle.gate_law.proofs.ListLemmas.{contains-none}
use Rattle.gate_law.proofs.RunExamples.{issued, first, entry, judged, answer, head, on_literals}
use Rattle.gate_law.proofs.WholeExamples.{each, start, asked, sent, starts, asks_first, sends_first}

-- each step is also one that lacks its condition
pub weaker : (alone : ℕ → Bool) (cards : ℕ) (old new : Whole) → AreWeaker alone cards old new
weaker alone cards old new = record {
  anybody = λ s. record { touch = s.touch; is = s.is };
  unsynced = λ s. record {
    touch = s.touch;
    reply = s.reply;
    seat = s.seat;
    journal = old.station.journal ++ s.touch ∷ [];
    going = s.going;
    line = s.line;
    fresh = s.fresh;
    lock = s.lock;
    is = s.is;
  };
  for_nothing = λ s. record { touch = s.touch; fault = s.fault; line = s.line; is = s.is };
  anything = λ s. record { answer = s.answer; is = s.is };
  unwritten = λ s. record {
    number = s.number;
    touch = s.touch;
    code = s.code;
    going = s.going;
    waiting = s.waiting;
    is = s.is;
  };
  gate_loses = λ s. record { number = s.number; left = s.left; waits = s.waits; is = s.is };
  opens_idle = λ s same. record {
    number = s.number;
    waits = is_some (waiting_of s.kept);
    is = s.is ∙ ap (λ (l : List Touch). record old {
      gates = with_gate old.gates s.number (record {
        file = l;
        going = true;
        waits = is_some (waiting_of s.kept);
        told = (old.gates s.number).told;
        refused = (old.gates s.number).refused;
      });
    }) same;
  };
  opens_again = λ s. record {
    number = s.number;
    kept = s.kept;
    waits = is_some (waiting_of s.kept);
    one_journal = s.one_journal;
    last = λ is. is;
    is = s.is;
  };
  station_loses = λ s. record { left = s.left; is = s.is };
  another_journal = λ s. record {
    tables = s.tables;
    kept = s.kept;
    going = s.going;
    same_tables = s.same_tables;
    legal = s.legal;
    is = s.is;
  };
}

module _ (tables : Tables) where
  abbrev here : Whole
  here = start tables

  -- the first touch of gate 7 is entered, answered and told
  abbrev entered : Whole
  entered = record (sent tables) {
    station = record {
      journal = first ∷ [];
      capacity = 10;
      going = true;
      tables = tables;
      history = entry first issued 1 ∷ [];
    };
  }

  abbrev answered : Whole
  answered = record entered { answers = answer first issued ∷ [] }

  abbrev heard : Whole
  heard = record answered {
    gates = with_gate answered.gates 7 (record {
      file = first ∷ [];
      going = true;
      waits = false;
      told = judged first issued ∷ [];
      refused = [];
    });
  }

  enters_first : Step each 10 (sent tables) entered
  unfolding on_literals
  enters_first = enters (record {
    touch = first;
    reply = issued;
    seat = 1;
    going = refl;
    line = head first [];
    fresh = refl;
    lock = refl;
    is = refl;
  })

  answers_first : Step each 10 entered answered
  unfolding on_literals
  answers_first = replies (record {
    touch = first;
    place = 0;
    reply = issued;
    going = refl;
    first = refl;
    is = refl;
  })

  hears_first : Step each 10 answered heard
  hears_first = hears (record {
    number = 7;
    touch = first;
    reply = issued;
    going = refl;
    waiting = record { earlier = []; last = refl; waits = refl };
    line = head (answer first issued) [];
    is = refl;
  })

  told-then : (step : Whole → Whole → Type 0) (last : Whole) → step heard last
      → IsRunWith step each 10 here (asked tables ∷ sent tables ∷ entered ∷ answered ∷ heard ∷ last ∷ []) last
  told-then step last is = (
    inl (asks_first tables),
    (
      inl (sends_first tables),
      (
        inl enters_first,
        (
          inl answers_first,
          (
            inl hears_first,
            (inr is, refl),
          ),
        ),
      ),
    ),
  )

  told_first : Contains (judged first issued ∷ []) (judged first issued)
  told_first = head (judged first issued) []

  -- ---- what a crash leaves

  -- the gate's file is empty behind a crash
  abbrev gate_lost : Whole
  gate_lost = record heard {
    gates = with_gate heard.gates 7 (record {
      file = [];
      going = false;
      waits = false;
      told = judged first issued ∷ [];
      refused = [];
    });
  }

  pub gate_loses : DoesBreak tables (λ (cards : ℕ). GateLoses)
  gate_loses = record {
    alone = each;
    cards = 10;
    first = here;
    last = gate_lost;
    between = asked tables ∷ sent tables ∷ entered ∷ answered ∷ heard ∷ gate_lost ∷ [];
    by = refl;
    starts = starts tables;
    runs = told-then GateLoses gate_lost (record { number = 7; left = []; waits = false; is = refl });
    differs = λ all. contains-none [] first refl ((all.each 7 refl).told (judged first issued) told_first).asked;
  }

  -- the journal is
  abbrev station_lost : Whole
  station_lost = record heard {
    station = record {
      journal = [];
      capacity = 10;
      going = false;
      tables = tables;
      history = entry first issued 1 ∷ [];
    };
  }

  pub station_loses : DoesBreak tables (λ (cards : ℕ). StationLoses)
  station_loses = record {
    alone = each;
    cards = 10;
    first = here;
    last = station_lost;
    between = asked tables ∷ sent tables ∷ entered ∷ answered ∷ heard ∷ station_lost ∷ [];
    by = refl;
    starts = starts tables;
    runs = told-then StationLoses station_lost (record { left = []; is = refl });
    differs = λ all. contains-none [] first refl (all.durable 7 (judged first issued) refl told_first);
  }

  -- the history has a touch, and the journal hasn't
  abbrev unsynced_entry : Whole
  unsynced_entry = record (sent tables) {
    station = record {
      journal = [];
      capacity = 10;
      going = true;
      tables = tables;
      history = entry first issued 1 ∷ [];
    };
  }

  enters_unsynced : EntersUnsynced 10 (sent tables) unsynced_entry
  unfolding on_literals
  enters_unsynced = record {
    touch = first;
    reply = issued;
    seat = 1;
    journal = [];
    going = refl;
    line = head first [];
    fresh = refl;
    lock = refl;
    is = refl;
  }

  pub unsynced : DoesBreak tables EntersUnsynced
  unsynced = record {
    alone = each;
    cards = 10;
    first = here;
    last = unsynced_entry;
    between = asked tables ∷ sent tables ∷ unsynced_entry ∷ [];
    by = refl;
    starts = starts tables;
    runs = (inl (asks_first tables), (inl (sends_first tables), (inr enters_unsynced, refl)));
    differs = λ all. let no : [] ≡ first ∷ [] = all.going refl in absurd cc;
  }

  -- the gate was asked for a touch, and crashes; its opening lets none wait
  abbrev crashed : Whole
  crashed = record (asked tables) {
    gates = with_gate (asked tables).gates 7 (record {
      file = first ∷ [];
      going = false;
      waits = true;
      told = [];
      refused = [];
    });
  }

  abbrev idle : Whole
  idle = record crashed {
    gates = with_gate crashed.gates 7 (record {
      file = first ∷ [];
      going = true;
      waits = false;
      told = [];
      refused = [];
    });
  }

  crashes : Step each 10 (asked tables) crashed
  crashes = gate_stops (record { number = 7; left = first ∷ []; waits = true; either = inl (refl, refl); is = refl })

  pub opens_idle : DoesBreak tables (λ (cards : ℕ). GateOpensIdle)
  opens_idle = record {
    alone = each;
    cards = 10;
    first = here;
    last = idle;
    between = asked tables ∷ crashed ∷ idle ∷ [];
    by = refl;
    starts = starts tables;
    runs = (inl (asks_first tables), (inl crashes, (inr (record { number = 7; waits = false; is = refl }), refl)));
    differs = λ all. elim (all.each 7 refl).row [
      | inl same ↦ let no : [] ≡ first ∷ [] = same in absurd cc
      | inr but ↦ let no : false ≡ true = but.is in absurd cc
    ];
  }

  -- the station is opened with a new journal
  abbrev stopped : Whole
  stopped = record heard {
    station = record {
      journal = first ∷ [];
      capacity = 10;
      going = false;
      tables = tables;
      history = entry first issued 1 ∷ [];
    };
  }

  abbrev anew : Whole
  anew = record stopped {
    station = record { journal = []; capacity = 10; going = true; tables = tables; history = [] };
  }

  stops : Step each 10 heard stopped
  stops = station_stops (record { left = first ∷ []; either = inl refl; is = refl })

  pub another_journal : DoesBreak tables StationOpensAnother
  another_journal = record {
    alone = each;
    cards = 10;
    first = here;
    last = anew;
    between = asked tables ∷ sent tables ∷ entered ∷ answered ∷ heard ∷ stopped ∷ anew ∷ [];
    by = refl;
    starts = starts tables;
    runs = (
      inl (asks_first tables),
      (
        inl (sends_first tables),
        (
          inl enters_first,
          (
            inl answers_first,
            (
              inl hears_first,
              (
                inl stops,
                (
                  inr (record {
                    tables = tables;
                    kept = [];
                    going = refl;
                    same_tables = refl;
                    legal = legal-none tables 10;
                    is = refl;
                  }),
                  refl,
                ),
              ),
            ),
          ),
        ),
      ),
    );
    differs = λ all. contains-none [] first refl (all.durable 7 (judged first issued) refl told_first);
  }
