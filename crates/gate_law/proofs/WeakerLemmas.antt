-- Runs with a step that lacks a condition or a premise, each of which ends where gate and station don't agree. They are
-- of gate 7 and 10 cards, by any tables of fares.
use Rattle.std.proofs.Common.{◌≡◌, ◌⊎◌, inl, inr, ℕ, zero, suc, true, false, List, Some, [], ◌∷◌, ◌++◌, length, refl}
use Rattle.std.proofs.Common.{ap, sym, ◌∙◌, arith, is_some}
use Rattle.std.specs.Prelude.{slice_get}
use Rattle.oyster_account.specs.declared.touch.Touch.{Touch}
use Rattle.oyster_account.specs.declared.reply.Judged.{Judged}
use Rattle.reply_book.specs.Tables.{Tables}
use Rattle.reply_book.specs.Legal.{touches_of}
use Rattle.gate_client.specs.File.{waiting_of}
use Rattle.gate_law.specs.Joint.{Joint, of_gate, not_given_up}
use Rattle.gate_law.specs.Steps.{Step}
use Rattle.gate_law.specs.Agreement.{IsRunOf, IsRun, Agrees}
use Rattle.gate_law.specs.Weaker.{AsksOutOfTurn, AsksByAnyNumber, OpensIdle, HearsAnyNumber, AreWeaker, DoesBreak}
use Rattle.gate_law.proofs.ListLemmas.{contained}
use Rattle.gate_law.proofs.StepLemmas.{run-append}
use Rattle.gate_law.proofs.RunExamples.{issue, issued, first, second, entry, judged, answer, head, differ}
use Rattle.gate_law.proofs.RunExamples.{on_literals, start, asked, sent, starts}

-- each step is also one that lacks its condition or premise
pub weaker : (gate cards : ℕ) (old new : Joint) → AreWeaker gate cards old new
weaker gate cards old new = record {
  out_of_turn = λ s. record { touch = s.touch; own = s.own; number = s.number; is = s.is };
  any_number = λ s. record { touch = s.touch; none = s.none; own = s.own; is = s.is };
  gives_up_again = λ s. record { touch = s.touch; earlier = s.waited.earlier; last = s.waited.last; is = s.is };
  gives_up_another = λ s. record { touch = s.touch; waits = s.waited.waits; is = s.is };
  opens_again = λ s. record {
    kept = s.kept;
    waits = is_some (waiting_of s.kept);
    one_journal = s.one_journal;
    last = λ is. is;
    is = s.is;
  };
  another_number = λ s. record {
    touch = s.touch;
    gate = s.gate;
    number = s.number;
    reply = s.reply;
    waiting = s.waiting;
    line = s.line;
    same_gate = s.same_gate;
    is = s.is;
  };
  for_another = λ s. record { touch = s.touch; none = s.none; number = s.number; is = s.is };
  another_gate = λ s. record {
    touch = s.touch;
    gate = s.gate;
    number = s.number;
    reply = s.reply;
    waiting = s.waiting;
    line = s.line;
    same_number = s.same_number;
    is = s.is;
  };
  unasked = λ s. record {
    touch = s.touch;
    gate = s.gate;
    number = s.number;
    reply = s.reply;
    line = s.line;
    same_gate = s.same_gate;
    same_number = s.same_number;
    is = s.is;
  };
  unsent = λ s. record {
    touch = s.touch;
    reply = s.reply;
    seat = s.seat;
    fresh = s.fresh;
    lock = s.lock;
    is = s.is;
  };
  unwritten = λ s. record { touch = s.touch; reply = s.reply; waiting = s.waiting; is = s.is };
  anybody = λ s. record { touch = s.touch; is = s.is };
  another_file = λ s. record { kept = s.kept; is = s.is };
  another_journal = λ s. record { tables = s.tables; kept = s.kept; legal = s.legal; is = s.is };
  other_tables = λ s. record {
    tables = s.tables;
    kept = s.kept;
    one_journal = s.one_journal;
    legal = s.legal;
    is = s.is;
  };
  unjudged = λ s. record {
    touch = s.touch;
    reply = s.reply;
    seat = s.seat;
    line = s.line;
    fresh = s.fresh;
    is = s.is;
  };
}

-- the touch of another card under the first one's name
abbrev again : Touch
again = issue 7 1 2

-- ---- where the gate's touches in the history aren't those that it asked

-- none stands, and some were asked that don't wait
pub lost : (s : Joint) (gate cards : ℕ) (t : Touch) (ts : List Touch)
    → not_given_up s.asked (of_gate gate (touches_of s.history)) ≡ [] → not_given_up s.asked s.asked ≡ t ∷ ts
    → s.waits ≡ false → Agrees gate cards s → ⊥
lost s gate cards t ts none some idle a = elim a.row [
  | inl all ↦ let no : t ∷ ts ≡ [] = sym some ∙ sym all ∙ none in absurd cc
  | inr r ↦ let no : false ≡ true = sym idle ∙ r.is in absurd cc
]

-- one stands, and none was asked
pub stray : (s : Joint) (gate cards : ℕ) (t : Touch)
    → not_given_up s.asked (of_gate gate (touches_of s.history)) ≡ t ∷ [] → not_given_up s.asked s.asked ≡ []
    → Agrees gate cards s → ⊥
stray s gate cards t one none a = elim a.row [
  | inl all ↦ let no : t ∷ [] ≡ [] = sym one ∙ all ∙ none in absurd cc
  | inr r ↦
      let no : [] ≡ t ∷ r.last ∷ [] =
      sym none ∙ r.parts ∙ ap (λ (l : List Touch). l ++ r.last ∷ []) one in
      absurd cc
]

-- a run is one where further steps are allowed
pub allowed : (step more : Joint → Joint → Type 0) (old new : Joint) (between : List Joint)
    → IsRunOf step old between new
    → IsRunOf (λ a b. step a b ⊎ more a b) old between new
allowed step more old new [] is = is
allowed step more old new (next ∷ later) is = (inl is.0, allowed step more next new later is.1)

-- the one of a list of one
only : (j k : Judged) (place : ℕ) → slice_get (j ∷ []) place ≡ Some k → j ≡ k
only j k zero at = cc
only j k (suc place) at = absurd cc

module _ (tables : Tables) where
  abbrev pub here : Joint
  here = start tables tables

  abbrev pub entered : Joint
  entered = record (sent tables tables) { history = entry first issued 1 ∷ [] }

  abbrev pub answered : Joint
  answered = record entered { answers = answer first issued ∷ [] }

  abbrev pub heard : Joint
  heard = record answered { waits = false; told = judged first issued ∷ [] }

  -- the first touch is asked, sent and entered
  abbrev pub to_entered : List Joint
  to_entered = asked tables tables ∷ sent tables tables ∷ entered ∷ []

  pub runs_to_entered : IsRun 7 10 here to_entered entered
  unfolding on_literals
  runs_to_entered = (
    inl (record { touch = first; none = refl; own = refl; number = refl; is = refl }),
    (
      inr (inl (record {
        touch = first;
        waiting = record { earlier = []; last = refl; waits = refl };
        is = refl;
      })),
      (
        inr (inr (inr (inl (record {
          touch = first;
          reply = issued;
          seat = 1;
          line = head first [];
          fresh = refl;
          lock = refl;
          is = refl;
        })))),
        refl,
      ),
    ),
  )

  -- and answered and told
  runs_to_heard : IsRun 7 10 entered (answered ∷ heard ∷ []) heard
  unfolding on_literals
  runs_to_heard = (
    inr (inr (inr (inr (inl (record { touch = first; place = 0; reply = issued; first = refl; is = refl }))))),
    (
      inr (inr (inr (inr (inr (inr (inl (record {
        touch = first;
        gate = 7;
        number = 1;
        reply = issued;
        waiting = record { earlier = []; last = refl; waits = refl };
        line = head (answer first issued) [];
        same_gate = refl;
        same_number = refl;
        is = refl;
      }))))))),
      refl,
    ),
  )

  abbrev pub to_heard : List Joint
  to_heard = to_entered ++ answered ∷ heard ∷ []

  -- and then by further steps
  pub then : (more : Joint → Joint → Type 0) (last : Joint) (later : List Joint)
      → IsRunOf (λ a b. Step 7 10 a b ⊎ more a b) heard later last
      → IsRunOf (λ a b. Step 7 10 a b ⊎ more a b) here (to_heard ++ later) last
  then more last later is =
      run-append (λ a b. Step 7 10 a b ⊎ more a b) here heard last to_heard later
      (allowed (Step 7 10) more here heard to_heard
      (run-append (Step 7 10) here entered heard to_entered (answered ∷ heard ∷ []) runs_to_entered runs_to_heard)) is

  -- ---- the gate's steps

  abbrev both_asked : Joint
  both_asked = record (asked tables tables) { asked = first ∷ second ∷ [] }

  pub out_of_turn : DoesBreak tables (λ gate cards. AsksOutOfTurn gate)
  out_of_turn = record {
    gate = 7;
    cards = 10;
    first = here;
    last = both_asked;
    between = asked tables tables ∷ both_asked ∷ [];
    by = refl;
    starts = starts tables tables;
    runs = (
      inl (inl (record { touch = first; none = refl; own = refl; number = refl; is = refl })),
      (inr (record { touch = second; own = refl; number = refl; is = refl }), refl),
    );
    differs = λ a. elim a.row [
      | inl all ↦ let no : [] ≡ first ∷ second ∷ [] = all in absurd cc
      | inr r ↦ differ 1 2 (omega arith) (ap length r.parts)
    ];
  }

  -- the reply to the first touch is told of another one
  abbrev asked_again : Joint
  asked_again = record heard { asked = first ∷ again ∷ []; waits = true }

  abbrev heard_again : Joint
  heard_again = record asked_again { waits = false; told = judged first issued ∷ judged again issued ∷ [] }

  pub any_number : DoesBreak tables (λ gate cards. AsksByAnyNumber gate)
  any_number = record {
    gate = 7;
    cards = 10;
    first = here;
    last = heard_again;
    between = to_heard ++ asked_again ∷ heard_again ∷ [];
    by = refl;
    starts = starts tables tables;
    runs = then (AsksByAnyNumber 7) heard_again (asked_again ∷ heard_again ∷ []) (
      inr (record { touch = again; none = refl; own = refl; is = refl }),
      (
        inl (inr (inr (inr (inr (inr (inr (inl (record {
          touch = again;
          gate = 7;
          number = 1;
          reply = issued;
          waiting = record { earlier = first ∷ []; last = refl; waits = refl };
          line = head (answer first issued) [];
          same_gate = refl;
          same_number = refl;
          is = refl;
        })))))))),
        refl,
      ),
    );
    differs = λ a.
        let done = a.told (judged again issued) (contained heard_again.told 1 (judged again issued) refl) in
        let same : judged first issued ≡ judged again issued = only (judged first issued) (judged again issued)
        done.place done.stands in
        differ 1 2 (omega arith) (sym (ap (λ (j : Judged). j.touch.card) same));
  }

  abbrev idle : Joint
  idle = record (asked tables tables) { waits = false }

  pub opens_idle : DoesBreak tables (λ gate cards. OpensIdle)
  opens_idle = record {
    gate = 7;
    cards = 10;
    first = here;
    last = idle;
    between = asked tables tables ∷ idle ∷ [];
    by = refl;
    starts = starts tables tables;
    runs =
        (inl (inl (record { touch = first; none = refl; own = refl; number = refl; is = refl })), (inr refl, refl));
    differs = lost idle 7 10 first [] refl refl refl;
  }

  -- the first touch's reply is told of the second
  abbrev asked_second : Joint
  asked_second = record heard { asked = first ∷ second ∷ []; waits = true }

  abbrev heard_second : Joint
  heard_second = record asked_second { waits = false; told = judged first issued ∷ judged second issued ∷ [] }

  pub another_number : DoesBreak tables (λ gate cards. HearsAnyNumber)
  another_number = record {
    gate = 7;
    cards = 10;
    first = here;
    last = heard_second;
    between = to_heard ++ asked_second ∷ heard_second ∷ [];
    by = refl;
    starts = starts tables tables;
    runs = then HearsAnyNumber heard_second (asked_second ∷ heard_second ∷ []) (
      inl (inl (record { touch = second; none = refl; own = refl; number = refl; is = refl })),
      (
        inr (record {
          touch = second;
          gate = 7;
          number = 1;
          reply = issued;
          waiting = record { earlier = first ∷ []; last = refl; waits = refl };
          line = head (answer first issued) [];
          same_gate = refl;
          is = refl;
        }),
        refl,
      ),
    );
    differs = λ a.
        let done = a.told (judged second issued) (contained heard_second.told 1 (judged second issued) refl) in
        let same : judged first issued ≡ judged second issued = only (judged first issued) (judged second issued)
        done.place done.stands in
        differ 1 2 (omega arith) (sym (ap (λ (j : Judged). j.touch.number) same));
  }
