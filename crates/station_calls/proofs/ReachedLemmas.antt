-- That a gate and a station come from one state to the next by a run of steps, through calls and crashes.
use Rattle.std.proofs.Common.{◌≡◌, ℕ, Bool, false, List, [], ◌++◌, refl, sym, ap, ◌∙◌, subst, Option, Some, None}
use Rattle.std.proofs.Common.{Result}
use Rattle.std.specs.Prelude.{IsSome}
use Rattle.oyster_account.specs.declared.touch.Touch.{Touch}
use Rattle.oyster_account.specs.declared.reply.Reply.{Reply}
use Rattle.reply_book.specs.declared.entry.Entry.{Entry}
use Rattle.reply_book.specs.Tables.{Tables, AreKnown}
use Rattle.reply_book.specs.Legal.{IsLegal, history_of, touches_of, touches_in}
use Rattle.reply_book.proofs.CallerLemmas.{legal-none, touches_in-history_of}
use Rattle.gate_session.specs.declared.answer.Answer.TheVariants as answers
use Rattle.tap_disk.specs.declared.disk.Disk.{Ghosts}
use Rattle.gate_client.specs.declared.client.Client.{Client}
use Rattle.gate_client.specs.Client.{HasAsked, gate_of, is_stopped, waits_of}
use Rattle.tap_office.specs.Name.{Opened}
use Rattle.tap_office.specs.Given.{IsGiven, IsLegalFor}
use Rattle.tap_office.specs.Opening.{OpeningState, opened_of}
use Rattle.tap_office.specs.Keeper.{KeeperState}
use Rattle.gate_law.specs.Whole.{Gate, Station, Whole, with_gate}
use Rattle.gate_law.specs.WholeAgreement.{IsRun, IsStart}
use Rattle.gate_law.proofs.ListLemmas.{contains-none}
use Rattle.gate_law.proofs.ViewLemmas.{with-own}
use Rattle.gate_law.proofs.WholeLemmas.{run-then}
use Rattle.gate_law.specs.declared.round.NoReplyFault.{NoReplyFault}
use Rattle.gate_law.specs.Shown as gates
use Rattle.gate_law.specs.ClientRuns.{gone_in, IsClientRun}
use Rattle.gate_law.proofs.ClientLemmas.{blank-shown}
use Rattle.station_calls.specs.Shown as stations
use Rattle.station_calls.specs.Openings.{AreOfFiles, IsOpeningRun, found_in}
use Rattle.station_calls.specs.Settled.{IsSettling}
use Rattle.station_calls.specs.Reached.{IsReached, IsReachedOpen, begun}
use Rattle.station_calls.proofs.OpeningLemmas.{beside}
use Rattle.station_calls.proofs.CommitLemmas.{one-given}

-- one waits where it isn't so that none does
pub some-waits : (waits : Option Touch) → IsSome waits → (touch : Touch) × (waits ≡ Some touch)
some-waits (Some touch) some = (touch, refl)
some-waits None some = absurd cc

module _ {D K : Type 0} {g : Ghosts D} (honest : K → Type 0) (outcome : K → List ℕ → Type 0) (alone : ℕ → Bool)
    (opened : Opened) (number : ℕ) (first : Whole) where
  -- the gate does something
  pub reached-gate : (old new : Client D g) (keeper : KeeperState K)
      → ((w : Whole) → gates.IsShownBy number (w.gates number) old
      → IsClientRun alone opened.header.cards number w new [] [] [])
      → IsReached honest outcome alone opened number first old keeper
      → IsReached honest outcome alone opened number first new keeper
  reached-gate old new keeper does from =
      let by = does from.last from.gate_shown in
      let own : with_gate from.last.gates number by.gate number ≡ by.gate = with-own from.last.gates number by.gate in
      record {
        last = gone_in number from.last by.gate [];
        between = from.between ++ by.between;
        run = run-then alone opened.header.cards first from.last (gone_in number from.last by.gate []) from.between
            by.between from.run by.run;
        gate_shown = subst (λ (x : Gate). gates.IsShownBy number x new) (sym own) by.shown;
        station_shown = beside honest outcome opened keeper from.last (with_gate from.last.gates number by.gate) []
            from.station_shown;
      }

  -- a touch is settled
  pub reached-settled : (touch : Touch) (result : Result Reply NoReplyFault) (old new : Client D g)
      (old_k new_k : KeeperState K) (from : IsReached honest outcome alone opened number first old old_k)
      → IsSettling honest outcome alone opened number from.last touch result new new_k
      → IsReached honest outcome alone opened number first new new_k
  reached-settled touch result old new old_k new_k from by = record {
    last = by.last;
    between = from.between ++ by.between;
    run = run-then alone opened.header.cards first from.last by.last from.between by.between from.run by.run;
    gate_shown = by.gate_shown;
    station_shown = by.station_shown;
  }

  -- the keeper of an opening
  pub reached-keeper : (cards : ℕ) (client : Client D g) (opening : OpeningState K) (keeper : KeeperState K)
      → opened ≡ opened_of opening
      → ((w : Whole) → stations.IsShownBy honest outcome opened keeper (found_in w opening))
      → IsReachedOpen alone cards number first client opening
      → IsReached honest outcome alone opened number first client keeper
  reached-keeper cards client opening keeper named shows from =
      let here : from.last ≡ found_in from.last opening =
      ap (λ (s : Station). record from.last { station = s }) from.station_is in
      let same : cards ≡ opened.header.cards =
      sym from.cards_is ∙ sym (ap (λ (o : Opened). o.header.cards) named) in
      record {
        last = found_in from.last opening;
        between = from.between;
        run = subst (λ (n : ℕ). IsRun alone n first from.between (found_in from.last opening)) same
            (subst (IsRun alone cards first from.between) here from.run);
        gate_shown = from.gate_shown;
        station_shown = shows from.last;
      }

  -- the station is opened again, by tables of the same files
  pub reached-open : (cards : ℕ) (tables others : Tables) (client : Client D g) (keeper : KeeperState K)
      (opening : OpeningState K) → IsGiven opened tables → opened.header.cards ≡ cards → opening.header.cards ≡ cards
      → AreOfFiles tables others
      → ((w : Whole) → stations.IsShownBy honest outcome opened keeper w → AreOfFiles w.station.tables others
      → IsOpeningRun alone opened.header.cards w opening)
      → IsReached honest outcome alone opened number first client keeper
      → IsReachedOpen alone cards number first client opening
  reached-open cards tables others client keeper opening given same same_again files opens from =
      let one : tables ≡ from.last.station.tables =
      one-given opened tables from.last.station.tables given from.station_shown.given in
      let by = opens from.last from.station_shown (subst (λ (t : Tables). AreOfFiles t others) one files) in
      record {
        last = found_in from.last opening;
        between = from.between ++ by.between;
        run = subst (λ (n : ℕ). IsRun alone n first (from.between ++ by.between) (found_in from.last opening)) same
            (run-then alone opened.header.cards first from.last (found_in from.last opening) from.between by.between
            from.run by.run);
        gate_shown = from.gate_shown;
        station_is = refl;
        cards_is = same_again;
      }

-- the tables that an opening was given have those of every revision in the history that its keeper shows
pub known-shown : {K : Type 0} (honest : K → Type 0) (outcome : K → List ℕ → Type 0) (opened : Opened)
    (keeper : KeeperState K) (whole : Whole) → IsLegalFor opened (history_of keeper.history)
    → stations.IsShownBy honest outcome opened keeper whole
    → AreKnown whole.station.tables (touches_of whole.station.history)
known-shown honest outcome opened keeper whole legal shown =
    let one = one-given opened legal.tables whole.station.tables legal.given shown.given in
    subst (AreKnown whole.station.tables)
    (touches_in-history_of keeper.history ∙ ap touches_of (sym shown.history))
    (subst (λ (t : Tables). AreKnown t (touches_in (history_of keeper.history))) one legal.known)

-- the opening that a name stands for was given its tables
pub given-by : {K : Type 0} (opened : Opened) (opening : OpeningState K) → opened ≡ opened_of opening
    → IsGiven opened opening.tables
given-by opened opening is =
    ap (λ (o : Opened). o.table) is
    ∙ ap (λ (n : ℕ). Some (opening.tables, n)) (sym (ap (λ (o : Opened). o.header.cards) is))

-- a client that was just made, and an opening
pub begins : {D K : Type 0} {g : Ghosts D} (alone : ℕ → Bool) (number : ℕ) (client : Client D g)
    (opening : OpeningState K) → HasAsked [] client → waits_of client ≡ None → is_stopped client ≡ false
    → gate_of client ≡ number
    → IsReachedOpen alone opening.header.cards number (begun opening) client opening
begins alone number client opening asked none going own = record {
  last = begun opening;
  between = [];
  run = refl;
  gate_shown = blank-shown number client asked none going own;
  station_is = refl;
  cards_is = refl;
}

-- where the journal has no touch
pub starts : {K : Type 0} (alone : ℕ → Bool) (opening : OpeningState K) → opening.recovered ≡ []
    → IsStart alone opening.header.cards (begun opening)
starts alone opening none = record {
  blank = λ number. record { file = refl; waits = refl; told = refl; refused = refl };
  sent = λ touch there. absurd (contains-none [] touch refl there);
  legal = subst (λ (l : List Entry). IsLegal opening.tables opening.header.cards (history_of l)) (sym none)
      (legal-none opening.tables opening.header.cards);
  others = λ touch there. absurd (contains-none (touches_of opening.recovered) touch (ap touches_of none) there);
  journal = refl;
  unanswered = λ gate number reply is there. absurd (contains-none [] (answers.Reply gate number reply) refl there);
  no_conflict = λ gate number is there. absurd (contains-none [] (answers.Fault 2 gate number) refl there);
}
