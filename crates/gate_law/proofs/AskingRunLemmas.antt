-- That an asking and a giving up of a client are runs of its gate's steps, whatever comes of them.
use Rattle.std.proofs.Common.{◌≡◌, ◌⊎◌, inl, inr, ℕ, Bool, true, false, [], ◌∷◌, ◌++◌, refl, sym, ap, ◌∙◌, subst}
use Rattle.std.proofs.Common.{append-nil, Some, None, Result, Ok, Err, is_some, ◌↔◌}
use Rattle.std.specs.Prelude.{IsErrOf, IsSome}
use Rattle.oyster_account.specs.declared.touch.Act.{Act}
use Rattle.oyster_account.specs.declared.touch.Touch.{Touch}
use Rattle.tap_disk.specs.declared.disk.Disk.{Ghosts}
use Rattle.gate_client.specs.declared.client.Client.{Client}
use Rattle.gate_client.specs.declared.fault.AskFault.{AskFault}
use Rattle.gate_client.specs.declared.fault.AskFault.TheVariants as asks_by
use Rattle.gate_client.specs.File.{next_touch}
use Rattle.gate_client.specs.Client.{HasAsked, HoldsEither, gate_of, room_of, waits_of, is_stopped, disk_of, header_in}
use Rattle.gate_law.specs.Whole.{Gate, Whole}
use Rattle.gate_law.specs.WholeSteps.{gives_up}
use Rattle.gate_law.specs.Shown.{IsShownBy}
use Rattle.gate_law.specs.ClientRuns.{gone_in, IsClientRun}
use Rattle.gate_law.proofs.ClientLemmas.{gone-gate, none-waits, left-either, left-given_up, goes-on, going-shown}
use Rattle.gate_law.proofs.ClientRunLemmas.{idle-run, asked-run, failed-run, waiting, ended}

module _ {D : Type 0} {g : Ghosts D} (alone : ℕ → Bool) (cards number : ℕ) (whole : Whole) where
  same-run : (old new : Client D g) → IsShownBy number (whole.gates number) old → new ≡ old
      → IsClientRun alone cards number whole new [] [] []
  same-run old new shown same =
      idle-run alone cards number whole new (subst (IsShownBy number (whole.gates number)) (sym same) shown)

  -- whatever came of an asking
  pub record Asked (old new : Client D g) (card : ℕ) (act : Act) (result : Result Touch AskFault) : Type 0 where
    pub ok : (t : Touch) → result ≡ Ok t → HasAsked ((whole.gates number).file ++ t ∷ []) new
    pub waits : (t : Touch) → result ≡ Ok t → waits_of new ≡ Some t
    pub kept : (fault : AskFault) → result ≡ Err fault → HasAsked (whole.gates number).file new
    pub waits_on : (fault : AskFault) → result ≡ Err fault → waits_of new ≡ waits_of old
    pub gate_is : gate_of new ≡ gate_of old
    pub room_is : room_of new ≡ room_of old
    pub either : IsErrOf result asks_by.Device
        → HoldsEither g.content g.outcome g.honest (header_in old) (whole.gates number).file
        (next_touch (gate_of old) (whole.gates number).file card act) (disk_of new)
    pub waiting_is : IsErrOf result asks_by.Waiting ↔ IsSome (waits_of old)
    pub stopped : IsErrOf result asks_by.Stopped ↔ ((waits_of old ≡ None) × (is_stopped old ≡ true))
    pub stops : (is_stopped new ≡ true) ↔ ((is_stopped old ≡ true) ⊎ IsErrOf result asks_by.Device)
    pub no_call : (fault : AskFault) → result ≡ Err fault → (fault ≡ asks_by.Device → ⊥) → new ≡ old

  -- a client that keeps a touch went on, and goes on
  went : (old new : Client D g) (card : ℕ) (act : Act) (t : Touch) → waits_of old ≡ None
      → Asked old new card act (Ok t) → (b : Bool) → is_stopped old ≡ b → is_stopped old ≡ false
  went old new card act t none by true e = let no = by.stopped.1 (none, e) in absurd cc
  went old new card act t none by false e = e

  goes : (old new : Client D g) (card : ℕ) (act : Act) (t : Touch) → waits_of old ≡ None
      → Asked old new card act (Ok t) → (b : Bool) → is_stopped new ≡ b → is_stopped new ≡ false
  goes old new card act t none by true e = elim (by.stops.0 e) [
    | inl was ↦ let no = by.stopped.1 (none, was) in absurd cc
    | inr failed ↦ let no = failed in absurd cc
  ]
  goes old new card act t none by false e = e

  -- and where its disk fails it went on
  failing : (old new : Client D g) (card : ℕ) (act : Act) → waits_of old ≡ None
      → Asked old new card act (Err asks_by.Device) → (b : Bool) → is_stopped old ≡ b → is_stopped old ≡ false
  failing old new card act none by true e = let no = by.stopped.1 (none, e) in absurd cc
  failing old new card act none by false e = e

  pub asks-run : (old new : Client D g) (card : ℕ) (act : Act) (result : Result Touch AskFault)
      → IsShownBy number (whole.gates number) old → Asked old new card act result
      → IsClientRun alone cards number whole new [] [] []
  asks-run old new card act (Ok t) shown by =
      let none = none-waits (waits_of old) (λ some. let no = by.waiting_is.1 some in absurd cc) in
      asked-run alone cards number whole old new t shown (by.ok t refl) (by.waits t refl) by.gate_is none
      (went old new card act t none by (is_stopped old) refl) (goes old new card act t none by (is_stopped new) refl)
  asks-run old new card act (Err asks_by.Device) shown by =
      let none = none-waits (waits_of old) (λ some. let no = by.waiting_is.1 some in absurd cc) in
      let gate = shown.goes (failing old new card act none by (is_stopped old) refl) in
      failed-run alone cards number whole old new shown (by.kept asks_by.Device refl)
      (by.waits_on asks_by.Device refl ∙ none) (by.stops.1 (inr refl)) by.gate_is by.room_is
      (λ c well out.
      left-either number (ended (whole.gates number)) old (header_in old) card act c shown.number_is
      (gate.waits ∙ ap is_some none) ((by.either refl).left well c out))
  asks-run old new card act (Err asks_by.Waiting) shown by =
      same-run old new shown (by.no_call asks_by.Waiting refl (λ e. absurd cc))
  asks-run old new card act (Err asks_by.Stopped) shown by =
      same-run old new shown (by.no_call asks_by.Stopped refl (λ e. absurd cc))
  asks-run old new card act (Err asks_by.Full) shown by =
      same-run old new shown (by.no_call asks_by.Full refl (λ e. absurd cc))

  -- whatever came of a giving up
  pub record GaveUp {T : Type 0} (old new : Client D g) (touch : Touch) (result : Result T AskFault) : Type 0 where
    pub ok : (t : T) → result ≡ Ok t → HasAsked ((whole.gates number).file ++ touch ∷ []) new
    pub none : (t : T) → result ≡ Ok t → waits_of new ≡ None
    pub kept : (fault : AskFault) → result ≡ Err fault → HasAsked (whole.gates number).file new
    pub gate_is : gate_of new ≡ gate_of old
    pub room_is : room_of new ≡ room_of old
    pub either : IsErrOf result asks_by.Device
        → HoldsEither g.content g.outcome g.honest (header_in old) (whole.gates number).file touch (disk_of new)
    pub stops : (is_stopped new ≡ true) ↔ ((is_stopped old ≡ true) ⊎ IsErrOf result asks_by.Device)
    pub none_after : IsErrOf result asks_by.Device → waits_of new ≡ None
    pub no_call : (fault : AskFault) → result ≡ Err fault → (fault ≡ asks_by.Device → ⊥) → new ≡ old

  -- where it was given up the client goes on
  still : {T : Type 0} (old new : Client D g) (touch : Touch) (t : T) → is_stopped old ≡ false
      → GaveUp old new touch (Ok t) → (b : Bool) → is_stopped new ≡ b → is_stopped new ≡ false
  still old new touch t went by true e = elim (by.stops.0 e) [
    | inl was ↦ let no : true ≡ false = sym was ∙ went in absurd cc
    | inr failed ↦ let no = failed in absurd cc
  ]
  still old new touch t went by false e = e

  pub ups-run : {T : Type 0} (old new : Client D g) (touch : Touch) (result : Result T AskFault)
      → IsShownBy number (whole.gates number) old → waits_of old ≡ Some touch → GaveUp old new touch result
      → IsClientRun alone cards number whole new [] [] []
  ups-run old new touch (Ok t) shown waits by =
      let was = whole.gates number in
      let went = goes-on number was old touch shown waits in
      let gate : Gate = record {
        file = was.file ++ touch ∷ [];
        going = true;
        waits = false;
        told = was.told;
        refused = was.refused;
      } in
      record {
        gate = gate;
        between = gone_in number whole gate [] ∷ [];
        run = (
          gives_up (record {
            number = number;
            touch = touch;
            going = (shown.goes went).going;
            waited = waiting alone cards number whole old touch shown waits;
            is = gone-gate number whole gate;
          }),
          refl,
        );
        told_is = sym (append-nil was.told);
        refused_is = sym (append-nil was.refused);
        shown = going-shown number gate new (by.gate_is ∙ shown.number_is) (by.ok t refl)
            (record { going = refl; waits = sym (ap is_some (by.none t refl)) })
            (still old new touch t went by (is_stopped new) refl);
      }
  ups-run old new touch (Err asks_by.Device) shown waits by =
      let at = waiting alone cards number whole old touch shown waits in
      failed-run alone cards number whole old new shown (by.kept asks_by.Device refl) (by.none_after refl)
      (by.stops.1 (inr refl)) by.gate_is by.room_is
      (λ c well out.
      left-given_up number (ended (whole.gates number)) touch (header_in old) c
      (record { earlier = at.earlier; last = at.last; waits = at.waits }) ((by.either refl).left well c out))
  ups-run old new touch (Err asks_by.Waiting) shown waits by =
      same-run old new shown (by.no_call asks_by.Waiting refl (λ e. absurd cc))
  ups-run old new touch (Err asks_by.Stopped) shown waits by =
      same-run old new shown (by.no_call asks_by.Stopped refl (λ e. absurd cc))
  ups-run old new touch (Err asks_by.Full) shown waits by =
      same-run old new shown (by.no_call asks_by.Full refl (λ e. absurd cc))
