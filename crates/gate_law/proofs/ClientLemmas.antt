-- What a client shows of its gate, and what a crash may leave of the gate's file.
use Rattle.std.proofs.Common.{◌≡◌, inl, inr, ℕ, ◌==◌, Bool, true, false, cond, List, [], ◌∷◌, ◌++◌}
use Rattle.std.proofs.Common.{refl, sym, ap, ◌∙◌, subst, append-nil, Option, Some, None, Result, Ok, Err}
use Rattle.std.proofs.Common.{is_some}
use Rattle.std.proofs.Common.{IfOk, IfErr, OnOk, OnErr}
use Rattle.std.specs.Prelude.{IsSome}
use Rattle.oyster_account.specs.declared.touch.Act.{Act}
use Rattle.oyster_account.specs.declared.touch.Touch.{Touch}
use Rattle.reply_book.proofs.NameLemmas.{equal}
use Rattle.tap_disk.specs.declared.disk.Disk.{Ghosts}
use Rattle.tap_journal.specs.Layout.{Header}
use Rattle.tap_journal.specs.Image.{WithOrWithout}
use Rattle.gate_client.specs.declared.client.Client.{Client}
use Rattle.gate_client.specs.File.{next_touch}
use Rattle.gate_client.specs.Client.{HasAsked, gate_of, waits_of, is_stopped}
use Rattle.gate_client.specs.Client.{disk_of, header_in}
use Rattle.gate_law.specs.Whole.{Gate, Whole, with_gate, IsWaitingAt}
use Rattle.gate_law.proofs.ViewLemmas.{with-other}
use Rattle.gate_law.specs.Shown.{IsInFile, GoesOn, IsShownBy, blank}
use Rattle.gate_law.specs.ClientRuns.{gone_in}

-- ---- gates

-- a gate in its own place changes nothing
pub with-same : (gates : ℕ → Gate) (number : ℕ) → with_gate gates number (gates number) ≡ gates
with-same gates number = λ i other. each other i
  where
    by_test : (other : ℕ) (b : Bool) → (other == number) ≡ b → with_gate gates number (gates number) other ≡ gates other
    by_test other true e =
        ap (λ (b : Bool). cond b (gates number) (gates other)) e ∙ ap gates (sym (equal other number e))
    by_test other false e = ap (λ (b : Bool). cond b (gates number) (gates other)) e

    each : (other : ℕ) → with_gate gates number (gates number) other ≡ gates other
    each other = by_test other (other == number) refl

-- of two in one place the last stays
pub with-twice : (gates : ℕ → Gate) (number : ℕ) (first last : Gate)
    → with_gate (with_gate gates number first) number last ≡ with_gate gates number last
with-twice gates number first last = λ i other. each other i
  where
    by_test : (other : ℕ) (b : Bool) → (other == number) ≡ b
        → with_gate (with_gate gates number first) number last other ≡ with_gate gates number last other
    by_test other true e =
        ap (λ (b : Bool). cond b last (with_gate gates number first other)) e
        ∙ sym (ap (λ (b : Bool). cond b last (gates other)) e)
    by_test other false e =
        ap (λ (b : Bool). cond b last (cond b first (gates other))) e
        ∙ sym (ap (λ (b : Bool). cond b last (gates other)) e)

    each : (other : ℕ) → with_gate (with_gate gates number first) number last other ≡ with_gate gates number last other
    each other = by_test other (other == number) refl

-- nothing happens
pub gone-none : (number : ℕ) (whole : Whole) → gone_in number whole (whole.gates number) [] ≡ whole
gone-none number whole =
    ap (λ (gates : ℕ → Gate). record whole { gates = gates; sent = whole.sent ++ [] }) (with-same whole.gates number)
    ∙ ap (λ (l : List Touch). record whole { sent = l }) (append-nil whole.sent)

-- only the gate is changed
pub gone-gate : (number : ℕ) (whole : Whole) (gate : Gate)
    → gone_in number whole gate [] ≡ record whole { gates = with_gate whole.gates number gate }
gone-gate number whole gate =
    ap (λ (l : List Touch). record whole { gates = with_gate whole.gates number gate; sent = l })
    (append-nil whole.sent)

-- ---- what a crash may leave

-- none waits where it isn't so that one does
pub none-waits : (waits : Option Touch) → (IsSome waits → ⊥) → waits ≡ None
none-waits None never = refl
none-waits (Some t) never = absurd (never refl)

-- and there is one where it is so
pub some-of : {X : Type 0} (waits : Option X) → IsSome waits → (x : X) × (waits ≡ Some x)
some-of None is = let no : false ≡ true = is in absurd cc
some-of (Some x) is = (x, refl)

-- what is said of a value that was handed out, and of a fault
pub when_ok : {T E : Type 0} (P : T → Type 0) (result : Result T E) → IfOk result P → (t : T) → result ≡ Ok t → P t
when_ok P (Ok x) is t e = let same : x ≡ t = cc in subst P same is
when_ok P (Err fault) is t e = absurd cc

pub when_err : {T E : Type 0} (A : Type 0) (result : Result T E) → OnErr result A → (fault : E) → result ≡ Err fault → A
when_err A (Ok x) is fault e = absurd cc
when_err A (Err x) is fault e = is

pub when_fault : {T E : Type 0} (P : E → Type 0) (result : Result T E) → IfErr result P → (fault : E)
    → result ≡ Err fault → P fault
when_fault P (Ok x) is fault e = absurd cc
when_fault P (Err x) is fault e = let same : x ≡ fault = cc in subst P same is

pub when_on : {T E : Type 0} (A : Type 0) (result : Result T E) → OnOk result A → (t : T) → result ≡ Ok t → A
when_on A (Ok x) is t e = is
when_on A (Err fault) is t e = absurd cc

-- and where that is so of each value, it is said
pub if_ok_is : {T E : Type 0} {P : T → Type 0} (result : Result T E) → ((t : T) → result ≡ Ok t → P t) → IfOk result P
if_ok_is (Ok x) each = each x refl
if_ok_is (Err fault) each = tt

pub if_ok : {T E : Type 0} {P : T → Type 0} (result : Result T E) → ((t : T) → P t) → IfOk result P
if_ok (Ok x) each = each x
if_ok (Err fault) each = tt

-- what a giving up that was cut, or failed, may leave
pub left-given_up : (number : ℕ) (gate : Gate) (touch : Touch) (h : Header) (c : List ℕ) → IsWaitingAt gate touch
    → WithOrWithout h gate.file touch c → IsInFile h number gate c
left-given_up number gate touch h c waiting either = elim either [
  | inl without ↦ record { left = gate.file; waits = gate.waits; either = inl (refl, refl); image = without }
  | inr with_it ↦ record {
    left = gate.file ++ touch ∷ [];
    waits = false;
    either = inr (inr (touch, waiting, refl, refl));
    image = with_it;
  }
]

module _ {D : Type 0} {g : Ghosts D} where
  -- what a client that goes on has recorded
  pub left-recorded : (number : ℕ) (gate : Gate) (client : Client D g) → HasAsked gate.file client
      → is_stopped client ≡ false → g.honest (disk_of client) → (c : List ℕ) → g.outcome (disk_of client) c
      → IsInFile (header_in client) number gate c
  left-recorded number gate client asked going well c out = record {
    left = gate.file;
    waits = gate.waits;
    either = inl (refl, refl);
    image = (asked.recorded.going going).left well c out;
  }

  -- what an asking that was cut, or failed, may leave
  pub left-either : (number : ℕ) (gate : Gate) (client : Client D g) (h : Header) (card : ℕ) (act : Act)
      (c : List ℕ) → gate_of client ≡ number → gate.waits ≡ false
      → WithOrWithout h gate.file (next_touch (gate_of client) gate.file card act) c → IsInFile h number gate c
  left-either number gate client h card act c own none either = elim either [
    | inl without ↦ record { left = gate.file; waits = gate.waits; either = inl (refl, refl); image = without }
    | inr with_it ↦ record {
      left = gate.file ++ next_touch (gate_of client) gate.file card act ∷ [];
      waits = true;
      either = inr (inl (
        next_touch (gate_of client) gate.file card act,
        record { none = none; own = own; numbered = refl },
        refl,
        refl,
      ));
      image = with_it;
    }
  ]

  -- a client in which a touch waits goes on
  pub goes-on : (number : ℕ) (gate : Gate) (client : Client D g) (touch : Touch) → IsShownBy number gate client
      → waits_of client ≡ Some touch → is_stopped client ≡ false
  goes-on number gate client touch shown waits = by_test (is_stopped client) refl
    where
      by_test : (b : Bool) → is_stopped client ≡ b → is_stopped client ≡ false
      by_test true e = let none : Some touch ≡ None = sym waits ∙ (shown.ended e).none in absurd cc
      by_test false e = e

  -- it shows a gate that goes on, where its disk hasn't failed
  pub going-shown : (number : ℕ) (gate : Gate) (client : Client D g) → gate_of client ≡ number
      → HasAsked gate.file client → GoesOn gate client → is_stopped client ≡ false → IsShownBy number gate client
  going-shown number gate client is asked goes going = record {
    number_is = is;
    asked = asked;
    goes = λ same. goes;
    ended = λ stopped. let no : true ≡ false = sym stopped ∙ going in absurd cc;
    left = λ well c out. left-recorded number gate client asked going well c out;
  }

  -- a client without touches shows a gate that was asked nothing
  pub blank-shown : (number : ℕ) (client : Client D g) → HasAsked [] client → waits_of client ≡ None
      → is_stopped client ≡ false → gate_of client ≡ number → IsShownBy number blank client
  blank-shown number client asked none going is =
      going-shown number blank client is asked (record { going = refl; waits = sym (ap is_some none) }) going

  -- what one gate does leaves what the client of another shows
  pub others-shown : (number other : ℕ) (whole : Whole) (gate : Gate) (more : List Touch) (client : Client D g)
      → (other ≡ number → ⊥) → IsShownBy other (whole.gates other) client
      → IsShownBy other ((gone_in number whole gate more).gates other) client
  others-shown number other whole gate more client differ shown = by_test (other == number) refl
    where
      by_test : (b : Bool) → (other == number) ≡ b
          → IsShownBy other ((gone_in number whole gate more).gates other) client
      by_test true e = absurd (differ (equal other number e))
      by_test false e =
          subst (λ (x : Gate). IsShownBy other x client) (sym (with-other whole.gates number other gate e)) shown
