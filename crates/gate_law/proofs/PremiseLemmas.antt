-- Runs with a step that lacks a premise, each of which ends where gate and station don't agree: of gate 7 and 10 cards,
-- by any tables of fares.
use Rattle.std.proofs.Common.{◌≡◌, ◌⊎◌, inl, inr, false, [], ◌∷◌, ◌++◌, refl, ap, arith}
use Rattle.oyster_account.specs.declared.reply.Reply.{Reply}
use Rattle.reply_book.specs.Tables.{Tables}
use Rattle.reply_book.proofs.CallerLemmas.{legal-none}
use Rattle.gate_law.specs.Joint.{Joint}
use Rattle.gate_law.specs.Steps.{Step}
use Rattle.gate_law.specs.Weaker.{EntersUnsent, HearsUnwritten, AnybodySends, OpensAnother, RestartsAnother}
use Rattle.gate_law.specs.Weaker.{EntersUnjudged, DoesBreak}
use Rattle.gate_law.proofs.StepLemmas.{run-append}
use Rattle.gate_law.proofs.RunExamples.{issued, issued_before, first, strange, entry, judged, head, differ}
use Rattle.gate_law.proofs.RunExamples.{on_literals, asked, starts}
use Rattle.gate_law.proofs.WeakerLemmas.{lost, stray, allowed, here, entered, heard, to_entered, to_heard}
use Rattle.gate_law.proofs.WeakerLemmas.{runs_to_entered, then}

module _ (tables : Tables) where
  abbrev unsent : Joint
  unsent = record (here tables) { history = entry first issued 1 ∷ [] }

  pub line_to_station : DoesBreak tables (λ gate cards. EntersUnsent cards)
  unfolding on_literals
  line_to_station = record {
    gate = 7;
    cards = 10;
    first = here tables;
    last = unsent;
    between = unsent ∷ [];
    by = refl;
    starts = starts tables tables;
    runs = (inr (record { touch = first; reply = issued; seat = 1; fresh = refl; lock = refl; is = refl }), refl);
    differs = stray unsent 7 10 first refl refl;
  }

  abbrev unwritten : Joint
  unwritten = record (asked tables tables) { waits = false; told = judged first issued ∷ [] }

  pub line_to_gate : DoesBreak tables (λ gate cards. HearsUnwritten)
  line_to_gate = record {
    gate = 7;
    cards = 10;
    first = here tables;
    last = unwritten;
    between = asked tables tables ∷ unwritten ∷ [];
    by = refl;
    starts = starts tables tables;
    runs = (
      inl (inl (record { touch = first; none = refl; own = refl; number = refl; is = refl })),
      (
        inr (record {
          touch = first;
          reply = issued;
          waiting = record { earlier = []; last = refl; waits = refl };
          is = refl;
        }),
        refl,
      ),
    );
    differs = lost unwritten 7 10 first [] refl refl refl;
  }

  abbrev sent_by_another : Joint
  sent_by_another = record (here tables) { sent = first ∷ [] }

  abbrev entered_another : Joint
  entered_another = record sent_by_another { history = entry first issued 1 ∷ [] }

  pub alone : DoesBreak tables (λ gate cards. AnybodySends)
  unfolding on_literals
  alone = record {
    gate = 7;
    cards = 10;
    first = here tables;
    last = entered_another;
    between = sent_by_another ∷ entered_another ∷ [];
    by = refl;
    starts = starts tables tables;
    runs = (
      inr (record { touch = first; is = refl }),
      (
        inl (inr (inr (inr (inl (record {
          touch = first;
          reply = issued;
          seat = 1;
          line = head first [];
          fresh = refl;
          lock = refl;
          is = refl;
        }))))),
        refl,
      ),
    );
    differs = stray entered_another 7 10 first refl refl;
  }

  abbrev another_file : Joint
  another_file = record (entered tables) { asked = []; waits = false }

  pub gates_journal : DoesBreak tables (λ gate cards. OpensAnother)
  gates_journal = record {
    gate = 7;
    cards = 10;
    first = here tables;
    last = another_file;
    between = (to_entered tables) ++ another_file ∷ [];
    by = refl;
    starts = starts tables tables;
    runs =
        run-append (λ a b. Step 7 10 a b ⊎ OpensAnother a b) (here tables) (entered tables)
        another_file (to_entered tables) (another_file ∷ [])
        (allowed (Step 7 10) OpensAnother (here tables) (entered tables) (to_entered tables) (runs_to_entered tables))
        (inr (record { kept = []; is = refl }), refl);
    differs = stray another_file 7 10 first refl refl;
  }

  abbrev another_journal : Joint
  another_journal = record (heard tables) { history = [] }

  pub stations_journal : DoesBreak tables (λ gate cards. RestartsAnother cards)
  stations_journal = record {
    gate = 7;
    cards = 10;
    first = here tables;
    last = another_journal;
    between = (to_heard tables) ++ another_journal ∷ [];
    by = refl;
    starts = starts tables tables;
    runs = then tables (RestartsAnother 10) another_journal (another_journal ∷ [])
        (inr (record { tables = tables; kept = []; legal = legal-none tables 10; is = refl }), refl);
    differs = lost another_journal 7 10 first [] refl refl refl;
  }

  abbrev sent_strange : Joint
  sent_strange = record (here tables) { sent = strange ∷ [] }

  abbrev unjudged : Joint
  unjudged = record sent_strange { history = entry strange issued_before 1 ∷ [] }

  pub lock : DoesBreak tables (λ gate cards. EntersUnjudged)
  unfolding on_literals
  lock = record {
    gate = 7;
    cards = 10;
    first = here tables;
    last = unjudged;
    between = sent_strange ∷ unjudged ∷ [];
    by = refl;
    starts = starts tables tables;
    runs = (
      inl (inr (inr (inl (record { touch = strange; alone = λ e. differ 7 9 (omega arith) e; is = refl })))),
      (
        inr (record {
          touch = strange;
          reply = issued_before;
          seat = 1;
          line = head strange [];
          fresh = refl;
          is = refl;
        }),
        refl,
      ),
    );
    differs = λ a.
        let same : issued_before ≡ issued = a.legal.replies 0 (judged strange issued_before) refl in
        differ 8 21 (omega arith) (ap (λ (r : Reply). r.verdict) same);
  }
