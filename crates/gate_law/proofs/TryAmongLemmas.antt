-- That a try is a run of its gate's steps, whatever others do meanwhile.
use Rattle.std.proofs.Common.{◌≡◌, ℕ, Bool, true, false, List, [], ◌∷◌, ◌++◌, Some}
use Rattle.std.proofs.Common.{Result, Ok, Err, refl, sym, ap, ◌∙◌, subst, append-nil, append_assoc, is_some}
use Rattle.oyster_account.specs.declared.touch.Touch.{Touch}
use Rattle.oyster_account.specs.declared.reply.Reply.{Reply}
use Rattle.oyster_account.specs.declared.reply.Judged.{Judged}
use Rattle.tap_disk.specs.declared.disk.Disk.{Ghosts}
use Rattle.gate_client.specs.declared.client.Client.{Client}
use Rattle.gate_client.specs.declared.fault.HearFault.TheVariants.{NoAnswer, Stray, Refused}
use Rattle.gate_client.specs.declared.attempt.TryFault.{TryFault}
use Rattle.gate_client.specs.declared.attempt.TryFault.TheVariants.{Unreached, Cut, Unheard}
use Rattle.gate_client.specs.Client.{HasAsked, answered, waits_of}
use Rattle.gate_law.specs.Whole.{Gate, Whole, Refusal, with_gate, IsWaitingAt}
use Rattle.gate_law.specs.WholeSteps.{sends, hears, hears_fault}
use Rattle.gate_law.specs.WholeAgreement.{IsRun}
use Rattle.gate_law.specs.Shown.{IsShownBy}
use Rattle.gate_law.specs.ClientRuns.{told_of, refused_of, IsOnLine}
use Rattle.gate_law.specs.Among.{heard_by, sent_by, sent_in, gate_after, heard_in, IsAmong, IsTryAmong}
use Rattle.gate_law.specs.Among.{IsRunAmong}
use Rattle.gate_law.proofs.ViewLemmas.{with-own}
use Rattle.gate_law.proofs.WholeLemmas.{run-then}
use Rattle.gate_law.proofs.ClientLemmas.{with-same, goes-on, going-shown}
use Rattle.gate_law.proofs.ClientRunLemmas.{waiting-at}

-- ---- the client behind a try

module _ {D : Type 0} {g : Ghosts D} where
  -- after a reply none waits, and after a fault the client is as it was
  abbrev pub behind : {T E : Type 0} → Result T E → Client D g → Client D g
  behind (Ok done) client = answered client
  behind (Err fault) client = client

  -- so it is as a call leaves it that says so
  pub settled-client : {T E : Type 0} (old new : Client D g) (result : Result T E)
      → ((done : T) → result ≡ Ok done → new ≡ answered old) → ((fault : E) → result ≡ Err fault → new ≡ old)
      → behind result old ≡ new
  settled-client old new (Ok done) ok err = sym (ok done refl)
  settled-client old new (Err fault) ok err = sym (err fault refl)

  -- the touches that a client has kept stay kept where none waits
  answered-asked : (asked : List Touch) (client : Client D g) → HasAsked asked client → HasAsked asked (answered client)
  answered-asked asked client has = record { recorded = has.recorded; numbered = has.numbered; last = tt }

  -- a reply ends the waiting, in the gate and in the client
  reply-shown : (number : ℕ) (t : Touch) (reply : Reply) (gate : Gate) (client : Client D g)
      → IsShownBy number gate client → waits_of client ≡ Some t
      → IsShownBy number (gate_after t (Ok reply) gate) (answered client)
  reply-shown number t reply gate client shown waits =
      going-shown number (gate_after t (Ok reply) gate) (answered client) shown.number_is
      (answered-asked gate.file client shown.asked) (record { going = refl; waits = refl })
      (goes-on number gate client t shown waits)

  -- after a fault the touch waits on in both
  fault-shown : (number : ℕ) (t : Touch) (fault : TryFault) (gate : Gate) (client : Client D g)
      → IsShownBy number gate client → waits_of client ≡ Some t
      → IsShownBy number (gate_after t (Err fault) gate) client
  fault-shown number t fault gate client shown waits =
      going-shown number (gate_after t (Err fault) gate) client shown.number_is shown.asked
      (record { going = refl; waits = sym (ap is_some waits) }) (goes-on number gate client t shown waits)

  after-shown : (number : ℕ) (t : Touch) (result : Result Reply TryFault) (gate : Gate) (client : Client D g)
      → IsShownBy number gate client → waits_of client ≡ Some t
      → IsShownBy number (gate_after t result gate) (behind result client)
  after-shown number t (Ok reply) gate client shown waits = reply-shown number t reply gate client shown waits
  after-shown number t (Err fault) gate client shown waits = fault-shown number t fault gate client shown waits

-- ---- the steps of a try

-- a gate in which the touch waits, and which goes on, stays so where nothing was heard
idle-gate : (t : Touch) (fault : TryFault) (gate : Gate) → gate.going ≡ true → gate.waits ≡ true
    → told_of t (heard_by (Err fault)) ≡ [] → refused_of t (heard_by (Err fault)) ≡ []
    → gate_after t (Err fault) gate ≡ gate
idle-gate t fault gate going waits none_told none_refused =
    let told : gate.told ++ told_of t (heard_by (Err fault)) ≡ gate.told =
    ap (λ (l : List Judged). gate.told ++ l) none_told ∙ append-nil gate.told in
    let refused : gate.refused ++ refused_of t (heard_by (Err fault)) ≡ gate.refused =
    ap (λ (l : List Refusal). gate.refused ++ l) none_refused ∙ append-nil gate.refused in
    ap (λ (b : Bool). record {
      file = gate.file;
      going = b;
      waits = true;
      told = gate.told ++ told_of t (heard_by (Err fault));
      refused = gate.refused ++ refused_of t (heard_by (Err fault));
    }) (sym going)
    ∙ ap (λ (b : Bool). record {
      file = gate.file;
      going = gate.going;
      waits = b;
      told = gate.told ++ told_of t (heard_by (Err fault));
      refused = gate.refused ++ refused_of t (heard_by (Err fault));
    }) (sym waits)
    ∙ ap (λ (l : List Judged). record {
      file = gate.file;
      going = gate.going;
      waits = gate.waits;
      told = l;
      refused = gate.refused ++ refused_of t (heard_by (Err fault));
    }) told
    ∙ ap (λ (l : List Refusal). record {
      file = gate.file;
      going = gate.going;
      waits = gate.waits;
      told = gate.told;
      refused = l;
    }) refused

module _ (alone : ℕ → Bool) (cards number : ℕ) where
  -- a run of steps, by the states between
  abbrev pub Leads : Whole → Whole → Type 0
  Leads old new = (between : List Whole) × IsRun alone cards old between new

  -- the frame of a try is written: the step Sends, or none
  sending : (t : Touch) (result : Result Reply TryFault) (whole : Whole) → (whole.gates number).going ≡ true
      → IsWaitingAt (whole.gates number) t → Leads whole (sent_in t result whole)
  sending t result whole going waiting = by result
    where
      written : (r : Result Reply TryFault) → sent_by t r ≡ t ∷ [] → Leads whole (sent_in t r whole)
      written r is = (
        sent_in t r whole ∷ [],
        (
          sends (record {
            number = number;
            touch = t;
            going = going;
            waiting = waiting;
            is = ap (λ (l : List Touch). record whole { sent = whole.sent ++ l }) is;
          }),
          refl,
        ),
      )

      none : (r : Result Reply TryFault) → sent_by t r ≡ [] → Leads whole (sent_in t r whole)
      none r is = (
        [],
        ap (λ (l : List Touch). record whole { sent = l })
            (ap (λ (l : List Touch). whole.sent ++ l) is ∙ append-nil whole.sent),
      )

      by : (r : Result Reply TryFault) → Leads whole (sent_in t r whole)
      by (Ok reply) = written (Ok reply) refl
      by (Err (Unheard fault)) = written (Err (Unheard fault)) refl
      by (Err Cut) = none (Err Cut) refl
      by (Err Unreached) = none (Err Unreached) refl

  -- its answer is read: the step Hears, HearsFault, or none
  hearing : (t : Touch) (result : Result Reply TryFault) (whole : Whole) → (whole.gates number).going ≡ true
      → IsWaitingAt (whole.gates number) t → IsOnLine whole t (heard_by result)
      → Leads whole (heard_in number t result whole)
  hearing t result whole going waiting line = by result line
    where
      none : (fault : TryFault) → told_of t (heard_by (Err fault)) ≡ [] → refused_of t (heard_by (Err fault)) ≡ []
          → Leads whole (heard_in number t (Err fault) whole)
      none fault told refused = (
        [],
        ap (λ (gate : Gate). record whole { gates = with_gate whole.gates number gate })
            (idle-gate t fault (whole.gates number) going waiting.waits told refused)
            ∙ ap (λ (gates : ℕ → Gate). record whole { gates = gates }) (with-same whole.gates number),
      )

      by : (r : Result Reply TryFault) → IsOnLine whole t (heard_by r) → Leads whole (heard_in number t r whole)
      by (Ok reply) line = (
        heard_in number t (Ok reply) whole ∷ [],
        (
          hears (record {
            number = number;
            touch = t;
            reply = reply;
            going = going;
            waiting = waiting;
            line = line;
            is = ap (λ (l : List Refusal). record whole {
              gates = with_gate whole.gates number (record {
                file = (whole.gates number).file;
                going = true;
                waits = false;
                told = (whole.gates number).told ++ record { touch = t; reply = reply } ∷ [];
                refused = l;
              });
            }) (append-nil (whole.gates number).refused);
          }),
          refl,
        ),
      )
      by (Err (Unheard (Refused code))) line = (
        heard_in number t (Err (Unheard (Refused code))) whole ∷ [],
        (
          hears_fault (record {
            number = number;
            touch = t;
            code = code;
            going = going;
            waiting = waiting;
            line = line;
            is = ap (λ (l : List Judged). record whole {
              gates = with_gate whole.gates number (record {
                file = (whole.gates number).file;
                going = true;
                waits = true;
                told = l;
                refused = (whole.gates number).refused ++ record { touch = t; code = code } ∷ [];
              });
            }) (append-nil (whole.gates number).told);
          }),
          refl,
        ),
      )
      by (Err (Unheard Stray)) line = none (Unheard Stray) refl refl
      by (Err (Unheard NoAnswer)) line = none (Unheard NoAnswer) refl refl
      by (Err Cut) line = none Cut refl refl
      by (Err Unreached) line = none Unreached refl refl

  -- one run behind another
  then : (old mid new : Whole) → Leads old mid → Leads mid new → Leads old new
  then old mid new first second =
      (first.0 ++ second.0, run-then alone cards old mid new first.0 second.0 first.1 second.1)

  module _ {D : Type 0} {g : Ghosts D} where
    -- others leave what the client shows
    among-shown : (old new : Whole) (client : Client D g) → IsAmong alone cards number old new
        → IsShownBy number (old.gates number) client → IsShownBy number (new.gates number) client
    among-shown old new client among shown =
        subst (λ (gate : Gate). IsShownBy number gate client) (sym among.same) shown

    goes : (whole : Whole) (t : Touch) (client : Client D g) → IsShownBy number (whole.gates number) client
        → waits_of client ≡ Some t → (whole.gates number).going ≡ true
    goes whole t client shown waits =
        (shown.goes (goes-on number (whole.gates number) client t shown waits)).going

    -- a try, among what others do
    pub try-among : (t : Touch) (result : Result Reply TryFault) (old new : Whole) (client : Client D g)
        → IsShownBy number (old.gates number) client → waits_of client ≡ Some t
        → IsTryAmong alone cards number t result old new
        → IsRunAmong alone cards number old new (behind result client) (told_of t (heard_by result))
        (refused_of t (heard_by result))
    try-among t result old new client shown waits by =
        let ready = by.ready in
        let read = by.answered in
        let sent = sent_in t result ready in
        let heard = heard_in number t result read in
        let at_ready : IsShownBy number (ready.gates number) client = among-shown old ready client by.before shown in
        let at_read : IsShownBy number (read.gates number) client =
        among-shown sent read client by.meanwhile at_ready in
        let writes : Leads ready sent =
        sending t result ready (goes ready t client at_ready waits)
        (waiting-at number (ready.gates number) client t at_ready waits) in
        let reads : Leads read heard =
        hearing t result read (goes read t client at_read waits)
        (waiting-at number (read.gates number) client t at_read waits) by.line in
        let first : Leads old read =
        then old ready read (by.before.between, by.before.run)
        (then ready sent read writes (by.meanwhile.between, by.meanwhile.run)) in
        let all : Leads old new =
        subst (λ (w : Whole). Leads old w) (sym by.is) (then old read heard first reads) in
        let own : new.gates number ≡ gate_after t result (read.gates number) =
        ap (λ (w : Whole). w.gates number) by.is
        ∙ with-own read.gates number (gate_after t result (read.gates number)) in
        let same : read.gates number ≡ old.gates number = by.meanwhile.same ∙ by.before.same in
        record {
          between = all.0;
          run = all.1;
          told_is = ap (λ (gate : Gate). gate.told) own
              ∙ ap (λ (gate : Gate). gate.told ++ told_of t (heard_by result)) same;
          refused_is = ap (λ (gate : Gate). gate.refused) own
              ∙ ap (λ (gate : Gate). gate.refused ++ refused_of t (heard_by result)) same;
          shown = subst (λ (gate : Gate). IsShownBy number gate (behind result client)) (sym own)
              (after-shown number t result (read.gates number) client at_read waits);
        }

    -- others alone
    pub others-alone : (old new : Whole) (client : Client D g) → IsShownBy number (old.gates number) client
        → IsAmong alone cards number old new → IsRunAmong alone cards number old new client [] []
    others-alone old new client shown among = record {
      between = among.between;
      run = among.run;
      told_is = ap (λ (gate : Gate). gate.told) among.same ∙ sym (append-nil (old.gates number).told);
      refused_is = ap (λ (gate : Gate). gate.refused) among.same ∙ sym (append-nil (old.gates number).refused);
      shown = among-shown old new client among shown;
    }

    -- one such run behind another
    pub run-behind : (old mid new : Whole) (first second : Client D g) (told more : List Judged)
        (refused others : List Refusal) → IsRunAmong alone cards number old mid first told refused
        → IsRunAmong alone cards number mid new second more others
        → IsRunAmong alone cards number old new second (told ++ more) (refused ++ others)
    run-behind old mid new first second told more refused others one two =
        let all : Leads old new = then old mid new (one.between, one.run) (two.between, two.run) in
        record {
          between = all.0;
          run = all.1;
          told_is = two.told_is ∙ ap (λ (l : List Judged). l ++ more) one.told_is
              ∙ append_assoc (old.gates number).told told more;
          refused_is = two.refused_is ∙ ap (λ (l : List Refusal). l ++ others) one.refused_is
              ∙ append_assoc (old.gates number).refused refused others;
          shown = two.shown;
        }
