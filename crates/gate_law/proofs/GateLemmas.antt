-- Which step each call of a client is.
use Rattle.std.proofs.Common.{◌≡◌, inl, inr, ℕ, suc, ◌-◌, true, false, List, [], ◌∷◌, ◌++◌, length, Option, Some}
use Rattle.std.proofs.Common.{IfSome}
use Rattle.std.proofs.Common.{is_some, refl, sym, ap, ◌∙◌, subst, append-nil, length-append, arith}
use Rattle.std.specs.Prelude.{slice_get}
use Rattle.std.proofs.lemmas.List.Elements.{All-nil, All-cons}
use Rattle.oyster_account.specs.declared.touch.Touch.{Touch}
use Rattle.oyster_account.specs.Touch.{Fits}
use Rattle.tap_disk.specs.declared.disk.Disk.{Ghosts}
use Rattle.tap_journal.specs.Image.{Image}
use Rattle.tap_journal.proofs.OneLemmas.{one_journal}
use Rattle.gate_session.specs.declared.request.Request.TheVariants as requests
use Rattle.gate_session.specs.Frames.{RequestFits}
use Rattle.gate_client.specs.declared.client.Client.{Client}
use Rattle.gate_client.specs.File.{header_by, last_of, waiting_of, next_touch}
use Rattle.gate_client.specs.Client.{HasAsked, gate_of, room_of, waits_of}
use Rattle.gate_client.specs.Heard.{frame_of}
use Rattle.gate_client.proofs.NumberLemmas.{slice_get-pushed, waiting-last}
use Rattle.gate_law.specs.Joint.{Joint, IsWaiting}
use Rattle.gate_law.proofs.FileLemmas.{own}
use Rattle.gate_law.specs.Gate.{IsGateOf}
use Rattle.gate_law.specs.Calls.{AreWritten, IsAsking, IsSending, IsSendingInPart, IsHearing, IsGivingUp}
use Rattle.gate_law.specs.Calls.{IsOpening, IsOpeningAfterAsking, IsOpeningAfterGivingUp}

-- ---- lists of touches

-- the last stands behind the others
pub last-split : (touches : List Touch) (t : Touch) → last_of touches ≡ Some t
    → (earlier : List Touch) × (touches ≡ earlier ++ t ∷ [])
last-split [] t is = absurd cc
last-split (x ∷ []) t is = ([], ap (λ (y : Touch). y ∷ []) (by_some is))
  where
    by_some : Some x ≡ Some t → x ≡ t
    by_some e = cc
last-split (x ∷ y ∷ ys) t is =
    let place : length (x ∷ y ∷ ys) - 1 ≡ suc (length (y ∷ ys) - 1) = omega arith in
    let rest = last-split (y ∷ ys) t (sym (ap (slice_get (x ∷ y ∷ ys)) place) ∙ is) in
    (x ∷ rest.0, ap (λ (l : List Touch). x ∷ l) rest.1)

-- ---- files

-- a file has one list of touches
one_file : (gate other capacity room : ℕ) (touches others : List Touch) (bytes : List ℕ)
    → Image (header_by gate capacity) touches bytes → Image (header_by other room) others bytes → touches ≡ others
one_file gate other capacity room touches others bytes p q =
    (one_journal (header_by gate capacity) (header_by other room) touches others bytes p q).1

-- ---- lines

-- a whole frame is one touch on the line
pub written-whole : (touch : Touch) (text : List ℕ) → Fits touch → text ≡ frame_of touch
    → AreWritten text (touch ∷ [])
written-whole touch text fits whole = record {
  part = [];
  fits = All-cons RequestFits (requests.Touch touch) [] fits (All-nil RequestFits);
  parts = whole ∙ sym (append-nil (frame_of touch)) ∙ sym (append-nil (frame_of touch ++ []));
  ends = inl refl;
}

-- ---- calls

module _ {D : Type 0} {g : Ghosts D} where
  -- the touch that waits is the last that was asked
  pub waiting : (gate : ℕ) (s : Joint) (client : Client D g) (touch : Touch) → IsGateOf gate s client
      → waits_of client ≡ Some touch → IsWaiting s touch
  waiting gate s client touch shows waits =
      let last : waiting_of s.asked ≡ Some touch =
      subst (λ (o : Option Touch). IfSome o (λ t. waiting_of s.asked ≡ Some t)) waits shows.asked.last in
      let split = last-split s.asked touch (waiting-last s.asked touch last).0 in
      record { earlier = split.0; last = split.1; waits = shows.waits ∙ ap is_some waits }

  pub asks : (old new : Client D g) → IsAsking old new
  asks old new gate s touch shows kept =
      let asked : List Touch = s.asked ++ touch ∷ [] in
      let last : waiting_of asked ≡ Some touch =
      subst (λ (o : Option Touch). IfSome o (λ t. waiting_of asked ≡ Some t)) kept.waits kept.kept.last in
      record {
        is = record {
          touch = touch;
          none = shows.waits ∙ ap is_some kept.none;
          own = own (gate_of new) asked kept.kept.numbered (length s.asked) touch (slice_get-pushed s.asked touch)
              ∙ kept.gate ∙ shows.number;
          number = (waiting-last asked touch last).1 ∙ length-append s.asked (touch ∷ []);
          is = refl;
        };
        shown = record {
          number = kept.gate ∙ shows.number;
          asked = kept.kept;
          waits = sym (ap is_some kept.waits);
        };
      }

  pub sends : (client : Client D g) → IsSending client
  sends client gate s touch text shows waits fits whole = (
    record {
      is = record { touch = touch; waiting = waiting gate s client touch shows waits; is = refl };
      shown = record { number = shows.number; asked = shows.asked; waits = shows.waits };
    },
    written-whole touch text fits whole,
  )

  pub sends-part : (client : Client D g) → IsSendingInPart client
  sends-part client touch text waits fits cut = record {
    part = text;
    fits = All-nil RequestFits;
    parts = refl;
    ends = inr (requests.Touch touch, fits, cut);
  }

  pub hears : (old new : Client D g) → IsHearing old new
  hears old new gate s touch reply shows heard line = record {
    is = record {
      touch = touch;
      gate = touch.gate;
      number = touch.number;
      reply = reply;
      waiting = waiting gate s old touch shows heard.waited;
      line = line;
      same_gate = refl;
      same_number = refl;
      is = refl;
    };
    shown = record {
      number = ap (λ (c : Client D g). gate_of c) heard.answered ∙ shows.number;
      asked = heard.kept;
      waits = sym (ap (λ (c : Client D g). is_some (waits_of c)) heard.answered);
    };
  }

  pub gives_up : (old new : Client D g) → IsGivingUp old new
  gives_up old new gate s touch shows up = record {
    is = record { touch = touch; waited = waiting gate s old touch shows up.waited; is = refl };
    shown = record {
      number = up.gate ∙ shows.number;
      asked = up.kept;
      waits = sym (ap is_some up.none);
    };
  }

  pub opens : (client : Client D g) → IsOpening client
  opens client gate capacity s content image honest opened =
      let same = one_file gate (gate_of client) capacity (room_of client) s.asked opened.asked content image
      (opened.is honest) in
      record {
        is = record { kept = s.asked; one_journal = refl; is = refl };
        shown = record {
          number = opened.gate_is;
          asked = subst (λ (l : List Touch). HasAsked l client) (sym same) opened.has;
          waits = ap (λ (l : List Touch). is_some (waiting_of l)) same ∙ sym (ap is_some opened.waits);
        };
      }

  pub opens-after : (old client : Client D g) → IsOpeningAfterAsking old client
  opens-after old client gate card act s content shows none either honest opened =
      let touch = next_touch gate s.asked card act in
      elim either [
        | inl without ↦
            inl (opens client gate (room_of old) s content
            (subst (λ (n : ℕ). Image (header_by n (room_of old)) s.asked content) shows.number without) honest opened)
        | inr with_it ↦ inr (
          record { touch = touch; none = shows.waits ∙ ap is_some none; own = refl; number = refl; is = refl },
          opens client gate (room_of old) (record s { asked = s.asked ++ touch ∷ []; waits = true }) content
              (subst (λ (n : ℕ). Image (header_by n (room_of old)) (s.asked ++ touch ∷ []) content) shows.number
              with_it) honest opened,
        )
      ]

  pub opens-given_up : (old client : Client D g) → IsOpeningAfterGivingUp old client
  opens-given_up old client gate s touch content shows waits either honest opened = elim either [
    | inl without ↦
        inl (opens client gate (room_of old) s content
        (subst (λ (n : ℕ). Image (header_by n (room_of old)) s.asked content) shows.number without) honest opened)
    | inr with_it ↦ inr (
      record { touch = touch; waited = waiting gate s old touch shows waits; is = refl },
      opens client gate (room_of old) (record s { asked = s.asked ++ touch ∷ []; waits = false }) content
          (subst (λ (n : ℕ). Image (header_by n (room_of old)) (s.asked ++ touch ∷ []) content) shows.number
          with_it) honest opened,
    )
  ]
