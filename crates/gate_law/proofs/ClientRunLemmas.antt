-- That each call of a client is a run of its gate's steps.
use Rattle.std.proofs.Common.{◌≡◌, inl, ℕ, Bool, true, false, List, [], ◌∷◌, ◌++◌, length}
use Rattle.std.proofs.Common.{refl, sym, ap, ◌∙◌, subst, append-nil, length-append, Option, Some, None, Result, Ok}
use Rattle.std.proofs.Common.{Err, is_some}
use Rattle.std.proofs.Common.{IfSome}
use Rattle.oyster_account.specs.declared.touch.Touch.{Touch}
use Rattle.oyster_account.specs.declared.reply.Reply.{Reply}
use Rattle.reply_book.proofs.PlaceLemmas.{slice_get-behind}
use Rattle.gate_client.proofs.NumberLemmas.{waiting-last}
use Rattle.tap_disk.specs.declared.disk.Disk.{Ghosts}
use Rattle.tap_journal.specs.Layout.{Header}
use Rattle.tap_journal.proofs.OneLemmas.{one_journal}
use Rattle.gate_session.specs.declared.answer.Answer.TheVariants as answers
use Rattle.gate_law.specs.Premises.{Line}
use Rattle.gate_client.specs.declared.client.Client.{Client}
use Rattle.gate_client.specs.declared.fault.HearFault.{HearFault}
use Rattle.gate_client.specs.declared.fault.HearFault.TheVariants.{NoAnswer, Stray, Refused}
use Rattle.gate_client.specs.File.{header_by, waiting_of}
use Rattle.gate_client.specs.Client.{HasAsked, IsOpened, answered, gate_of, room_of, waits_of, is_stopped}
use Rattle.gate_client.specs.Client.{disk_of, header_in}
use Rattle.gate_law.specs.Whole.{Gate, Whole, with_gate, IsWaitingAt}
use Rattle.gate_law.specs.WholeSteps.{asks, sends, hears, hears_fault, gate_stops, gate_opens}
use Rattle.gate_law.proofs.ViewLemmas.{with-own}
use Rattle.gate_law.specs.Shown.{IsInFile, IsShownBy}
use Rattle.gate_law.proofs.FileLemmas.{own}
use Rattle.gate_law.specs.ClientRuns.{gone_in, IsClientRun, told_of, refused_of, IsOnLine}
use Rattle.gate_law.proofs.GateLemmas.{last-split}
use Rattle.gate_law.proofs.ClientLemmas.{with-same, with-twice, gone-none, gone-gate}
use Rattle.gate_law.proofs.ClientLemmas.{goes-on, going-shown}

-- a gate that has ended, and keeps what it had
abbrev pub ended : Gate → Gate
ended gate = record {
  file = gate.file;
  going = false;
  waits = gate.waits;
  told = gate.told;
  refused = gate.refused;
}

-- the touch that waits in a client waits in the gate that it shows
pub waiting-at : {D : Type 0} {g : Ghosts D} (number : ℕ) (gate : Gate) (client : Client D g) (touch : Touch)
    → IsShownBy number gate client → waits_of client ≡ Some touch → IsWaitingAt gate touch
waiting-at number gate client touch shown waits =
    let last : waiting_of gate.file ≡ Some touch =
    subst (λ (o : Option Touch). IfSome o (λ t. waiting_of gate.file ≡ Some t)) waits shown.asked.last in
    let split = last-split gate.file touch (waiting-last gate.file touch last).0 in
    let goes = shown.goes (goes-on number gate client touch shown waits) in
    record { earlier = split.0; last = split.1; waits = goes.waits ∙ ap is_some waits }

module _ {D : Type 0} {g : Ghosts D} (alone : ℕ → Bool) (cards number : ℕ) (whole : Whole) where
  -- nothing happens in the steps
  pub idle-run : (client : Client D g) → IsShownBy number (whole.gates number) client
      → IsClientRun alone cards number whole client [] [] []
  idle-run client shown = record {
    gate = whole.gates number;
    between = [];
    run = gone-none number whole;
    told_is = sym (append-nil (whole.gates number).told);
    refused_is = sym (append-nil (whole.gates number).refused);
    shown = shown;
  }

  -- one touch more was kept
  pub asked-run : (old new : Client D g) (touch : Touch) → IsShownBy number (whole.gates number) old
      → HasAsked ((whole.gates number).file ++ touch ∷ []) new → waits_of new ≡ Some touch → gate_of new ≡ gate_of old
      → waits_of old ≡ None → is_stopped old ≡ false → is_stopped new ≡ false
      → IsClientRun alone cards number whole new [] [] []
  asked-run old new touch shown asked waits same none went going =
      let was = whole.gates number in
      let file : List Touch = was.file ++ touch ∷ [] in
      let goes = shown.goes went in
      let last : waiting_of file ≡ Some touch =
      subst (λ (o : Option Touch). IfSome o (λ t. waiting_of file ≡ Some t)) waits asked.last in
      let gate : Gate = record {
        file = was.file ++ touch ∷ [];
        going = true;
        waits = true;
        told = was.told;
        refused = was.refused;
      } in
      record {
        gate = gate;
        between = gone_in number whole gate [] ∷ [];
        run = (
          asks (record {
            number = number;
            touch = touch;
            going = goes.going;
            asked = record {
              none = goes.waits ∙ ap is_some none;
              own = own (gate_of new) file asked.numbered (length was.file) touch
                  (slice_get-behind was.file touch []) ∙ same ∙ shown.number_is;
              numbered = (waiting-last file touch last).1 ∙ length-append was.file (touch ∷ []);
            };
            is = gone-gate number whole gate;
          }),
          refl,
        );
        told_is = sym (append-nil was.told);
        refused_is = sym (append-nil was.refused);
        shown = going-shown number gate new (same ∙ shown.number_is) asked
            (record { going = refl; waits = sym (ap is_some waits) }) going;
      }

  -- the disk failed, and what a crash leaves of it is what it may leave of the gate
  pub failed-run : (old new : Client D g) → IsShownBy number (whole.gates number) old
      → HasAsked (whole.gates number).file new → waits_of new ≡ None → is_stopped new ≡ true
      → gate_of new ≡ gate_of old → room_of new ≡ room_of old
      → ((c : List ℕ) → g.honest (disk_of new) → g.outcome (disk_of new) c
      → IsInFile (header_in old) number (ended (whole.gates number)) c)
      → IsClientRun alone cards number whole new [] [] []
  failed-run old new shown asked none stopped same room left =
      let was = whole.gates number in
      let last = ended was in
      let header : header_in old ≡ header_in new =
      ap (λ (n : ℕ). header_by n (room_of old)) (sym same) ∙ ap (header_by (gate_of new)) (sym room) in
      record {
        gate = last;
        between = gone_in number whole last [] ∷ [];
        run = (
          gate_stops (record {
            number = number;
            left = was.file;
            waits = was.waits;
            either = inl (refl, refl);
            is = gone-gate number whole last;
          }),
          refl,
        );
        told_is = sym (append-nil was.told);
        refused_is = sym (append-nil was.refused);
        shown = record {
          number_is = same ∙ shown.number_is;
          asked = asked;
          goes = λ going. let no : true ≡ false = sym stopped ∙ going in absurd cc;
          ended = λ is. record { ended = refl; none = none };
          left = λ well c out. subst (λ (h : Header). IsInFile h number last c) header (left c well out);
        };
      }

  -- the touch that waits
  pub waiting : (client : Client D g) (touch : Touch) → IsShownBy number (whole.gates number) client
      → waits_of client ≡ Some touch → IsWaitingAt (whole.gates number) touch
  waiting client touch = waiting-at number (whole.gates number) client touch

  -- its gate goes on
  goes : (client : Client D g) (touch : Touch) → IsShownBy number (whole.gates number) client
      → waits_of client ≡ Some touch → (whole.gates number).going ≡ true
  goes client touch shown waits =
      (shown.goes (goes-on number (whole.gates number) client touch shown waits)).going

  -- its frame was written
  pub sent-run : (client : Client D g) (touch : Touch) → IsShownBy number (whole.gates number) client
      → waits_of client ≡ Some touch → IsClientRun alone cards number whole client (touch ∷ []) [] []
  sent-run client touch shown waits =
      let last = gone_in number whole (whole.gates number) (touch ∷ []) in
      record {
        gate = whole.gates number;
        between = last ∷ [];
        run = (
          sends (record {
            number = number;
            touch = touch;
            going = goes client touch shown waits;
            waiting = waiting client touch shown waits;
            is = ap (λ (gates : ℕ → Gate). record whole { gates = gates; sent = whole.sent ++ touch ∷ [] })
                (with-same whole.gates number);
          }),
          refl,
        );
        told_is = sym (append-nil (whole.gates number).told);
        refused_is = sym (append-nil (whole.gates number).refused);
        shown = shown;
      }

  -- a reply was read
  pub heard-run : (old new : Client D g) (touch : Touch) (reply : Reply) → IsShownBy number (whole.gates number) old
      → waits_of old ≡ Some touch → new ≡ answered old → HasAsked (whole.gates number).file new
      → Line whole.answers (answers.Reply touch.gate touch.number reply)
      → IsClientRun alone cards number whole new [] (record { touch = touch; reply = reply } ∷ []) []
  heard-run old new touch reply shown waits answered_is asked line =
      let was = whole.gates number in
      let at = waiting old touch shown waits in
      let gate : Gate = record {
        file = was.file;
        going = true;
        waits = false;
        told = was.told ++ record { touch = touch; reply = reply } ∷ [];
        refused = was.refused;
      } in
      record {
        gate = gate;
        between = gone_in number whole gate [] ∷ [];
        run = (
          hears (record {
            number = number;
            touch = touch;
            reply = reply;
            going = goes old touch shown waits;
            waiting = at;
            line = line;
            is = gone-gate number whole gate;
          }),
          refl,
        );
        told_is = refl;
        refused_is = sym (append-nil was.refused);
        shown = going-shown number gate new (ap (λ (c : Client D g). gate_of c) answered_is ∙ shown.number_is) asked
            (record { going = refl; waits = sym (ap (λ (c : Client D g). is_some (waits_of c)) answered_is) })
            (ap (λ (c : Client D g). is_stopped c) answered_is ∙ goes-on number was old touch shown waits);
      }

  -- a fault was read
  refused-run : (client : Client D g) (touch : Touch) (code : ℕ) → IsShownBy number (whole.gates number) client
      → waits_of client ≡ Some touch → Line whole.answers (answers.Fault code touch.gate touch.number)
      → IsClientRun alone cards number whole client [] [] (record { touch = touch; code = code } ∷ [])
  refused-run client touch code shown waits line =
      let was = whole.gates number in
      let at = waiting client touch shown waits in
      let gate : Gate = record {
        file = was.file;
        going = true;
        waits = true;
        told = was.told;
        refused = was.refused ++ record { touch = touch; code = code } ∷ [];
      } in
      record {
        gate = gate;
        between = gone_in number whole gate [] ∷ [];
        run = (
          hears_fault (record {
            number = number;
            touch = touch;
            code = code;
            going = goes client touch shown waits;
            waiting = at;
            line = line;
            is = gone-gate number whole gate;
          }),
          refl,
        );
        told_is = sym (append-nil was.told);
        refused_is = refl;
        shown = going-shown number gate client shown.number_is shown.asked
            (record { going = refl; waits = sym (ap is_some waits) }) (goes-on number was client touch shown waits);
      }

  -- whatever was read
  pub hears-run : (old new : Client D g) (touch : Touch) (result : Result Reply HearFault)
      → IsShownBy number (whole.gates number) old → waits_of old ≡ Some touch
      → HasAsked (whole.gates number).file new
      → ((reply : Reply) → result ≡ Ok reply → new ≡ answered old)
      → ((fault : HearFault) → result ≡ Err fault → new ≡ old) → IsOnLine whole touch result
      → IsClientRun alone cards number whole new [] (told_of touch result) (refused_of touch result)
  hears-run old new touch (Ok reply) shown waits asked answered_is kept line =
      heard-run old new touch reply shown waits (answered_is reply refl) asked line
  hears-run old new touch (Err NoAnswer) shown waits asked answered_is kept line =
      idle-run new (subst (IsShownBy number (whole.gates number)) (sym (kept NoAnswer refl)) shown)
  hears-run old new touch (Err Stray) shown waits asked answered_is kept line =
      idle-run new (subst (IsShownBy number (whole.gates number)) (sym (kept Stray refl)) shown)
  hears-run old new touch (Err (Refused code)) shown waits asked answered_is kept line =
      let same = sym (kept (Refused code) refl) in
      refused-run new touch code (subst (IsShownBy number (whole.gates number)) same shown)
      (subst (λ (c : Client D g). waits_of c ≡ Some touch) same waits) line

  -- a file was opened
  pub opened-run : (client : Client D g) (capacity : ℕ) (content : List ℕ)
      → IsInFile (header_by number capacity) number (whole.gates number) content → IsOpened number content client
      → is_stopped client ≡ false → g.honest (disk_of client) → IsClientRun alone cards number whole client [] [] []
  opened-run client capacity content file opened going well =
      let was = whole.gates number in
      let one : file.left ≡ opened.asked =
      (one_journal (header_by number capacity) (header_in client) file.left opened.asked content file.image
      (opened.is well)).1 in
      let stopped : Gate = record {
        file = file.left;
        going = false;
        waits = file.waits;
        told = was.told;
        refused = was.refused;
      } in
      let gate : Gate = record {
        file = opened.asked;
        going = true;
        waits = is_some (waiting_of opened.asked);
        told = was.told;
        refused = was.refused;
      } in
      let mid : Whole = record whole { gates = with_gate whole.gates number stopped } in
      let here : with_gate whole.gates number stopped number ≡ stopped = with-own whole.gates number stopped in
      record {
        gate = gate;
        between = mid ∷ gone_in number whole gate [] ∷ [];
        run = (
          gate_stops (record {
            number = number;
            left = file.left;
            waits = file.waits;
            either = file.either;
            is = refl;
          }),
          (
            gate_opens (record {
              number = number;
              kept = opened.asked;
              one_journal = sym one ∙ sym (ap (λ (x : Gate). x.file) here);
              is = gone-gate number whole gate
                  ∙ ap (λ (gates : ℕ → Gate). record whole { gates = gates })
                  (sym (with-twice whole.gates number stopped gate))
                  ∙ ap (λ (x : Gate). record whole {
                    gates = with_gate (with_gate whole.gates number stopped) number (record {
                      file = opened.asked;
                      going = true;
                      waits = is_some (waiting_of opened.asked);
                      told = x.told;
                      refused = x.refused;
                    });
                  }) (sym here);
            }),
            refl,
          ),
        );
        told_is = sym (append-nil was.told);
        refused_is = sym (append-nil was.refused);
        shown = going-shown number gate client opened.gate_is opened.has
            (record { going = refl; waits = sym (ap is_some opened.waits) }) going;
      }
