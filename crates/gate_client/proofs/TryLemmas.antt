-- One try after the other, until one ends the settling.
use Rattle.std.proofs.Common.{◌≡◌, inl, inr, ℕ, ◌+◌, ◌<◌, ◌==◌, Bool, true, false, List, [], ◌∷◌, ◌++◌}
use Rattle.std.proofs.Common.{length, Option, Some, None, Result, Ok, Err, IfOk, refl, sym, ap, ◌∙◌, subst}
use Rattle.std.proofs.Common.{arith, if◌then◌else◌, length-append, append-nil}
use Rattle.std.specs.Io.KnownBytes.{Consumes}
use Rattle.oyster_account.specs.declared.touch.Touch.{Touch}
use Rattle.oyster_account.specs.declared.reply.Reply.{Reply}
use Rattle.gate_session.specs.declared.answer.Answer.TheVariants as answers
use Rattle.gate_session.specs.declared.answer.FaultCode.TheVariants as faults
use Rattle.gate_session.specs.Answers.{answer_frame, fault_code}
use Rattle.text_io.specs.Writing.{Wrote}
use Rattle.gate_client.specs.declared.fault.HearFault.TheVariants.{NoAnswer, Stray, Refused}
use Rattle.gate_client.specs.declared.attempt.TryFault.{TryFault}
use Rattle.gate_client.specs.declared.attempt.TryFault.TheVariants.{Unreached, Cut, Unheard}
use Rattle.gate_client.specs.declared.settling.Line.{Line}
use Rattle.gate_client.specs.declared.settling.SettleFault.{SettleFault}
use Rattle.gate_client.specs.declared.settling.SettleFault.TheVariants.{Conflict, Full, UnknownTable, NotAllowed}
use Rattle.gate_client.specs.declared.settling.SettleFault.TheVariants.{Tries}
use Rattle.gate_client.specs.Exchange.{HasSent, HasSettled}
use Rattle.gate_client.specs.SettleTexts.{last_answer, last_fault}
use Rattle.gate_client.specs.Tries.{HasStrayed, HasRead, Try, over, outcome_of, ends_with, end_by}
use Rattle.gate_client.specs.Tries.{handed, IsTaken, IsTriedOver, IsTry, Follow, AreTries}

-- ---- one try

-- what a try read, by its result
pub has-read : (t : Touch) (unread left : Option (List ℕ)) (result : Result Reply TryFault)
    → ((reply : Reply) → result ≡ Ok reply → Consumes unread left (answer_frame (answers.Reply t.gate t.number reply)))
    → ((code : ℕ) → result ≡ Err (Unheard (Refused code))
    → Consumes unread left (answer_frame (answers.Fault code t.gate t.number)))
    → (result ≡ Err (Unheard Stray) → HasStrayed t unread left) → (result ≡ Err Unreached → ⊥)
    → HasRead t unread left result
has-read t unread left (Ok reply) heard refused stray reached = heard reply refl
has-read t unread left (Err (Unheard (Refused code))) heard refused stray reached = refused code refl
has-read t unread left (Err (Unheard Stray)) heard refused stray reached = stray refl
has-read t unread left (Err (Unheard NoAnswer)) heard refused stray reached = tt
has-read t unread left (Err Cut) heard refused stray reached = tt
has-read t unread left (Err Unreached) heard refused stray reached = reached refl

-- the reply that was read
pub settled-read : (t : Touch) (unread left written after : Option (List ℕ)) (result : Result Reply TryFault)
    → IfOk result (λ reply. HasSettled t reply unread left written after) → (reply : Reply) → result ≡ Ok reply
    → Consumes unread left (answer_frame (answers.Reply t.gate t.number reply))
settled-read t unread left written after (Ok x) has reply is =
    let same : x ≡ reply = cc in
    subst (λ (r : Reply). Consumes unread left (answer_frame (answers.Reply t.gate t.number r))) same has.heard
settled-read t unread left written after (Err fault) has reply is = absurd cc

-- a try that wrote something had a line
pub sent-reached : (t : Touch) (before after : Option (List ℕ)) (result : Result Reply TryFault)
    → Wrote before after (λ text. HasSent t text result) → result ≡ Err Unreached → ⊥
sent-reached t before after (Ok reply) wrote is = cc
sent-reached t before after (Err Unreached) wrote is = wrote.says
sent-reached t before after (Err Cut) wrote is = cc
sent-reached t before after (Err (Unheard fault)) wrote is = cc

-- what is nothing that there is, is nothing
pub none-of : {X : Type 0} (found : Option X) → ((x : X) → found ≡ Some x → ⊥) → found ≡ None
none-of None never = refl
none-of (Some x) never = absurd (never x refl)

-- no answer that ends a settling is that the tries were used up
answer-tries : (code n : ℕ) → last_answer code ≡ Some (Tries n) → ⊥
answer-tries code n is =
    by (code == fault_code faults.Conflict) (code == fault_code faults.Full) (code == fault_code faults.UnknownTable)
    (code == fault_code faults.NotAllowed) is
  where
    by : (a b c d : Bool) → (if a then Some Conflict else if b then Some Full else if c then Some UnknownTable
        else if d then Some NotAllowed else None) ≡ Some (Tries n) → ⊥
    by true b c d e = cc
    by false true c d e = cc
    by false false true d e = cc
    by false false false true e = cc
    by false false false false e = cc

fault-tries : (fault : TryFault) (n : ℕ) → last_fault fault ≡ Some (Tries n) → ⊥
fault-tries Unreached n is = cc
fault-tries Cut n is = cc
fault-tries (Unheard NoAnswer) n is = cc
fault-tries (Unheard Stray) n is = cc
fault-tries (Unheard (Refused code)) n is = answer-tries code n is

-- a try never ends a settling so
pub end-tries : {T : Type 0} (outcome : Result T TryFault) (n : ℕ) → end_by outcome ≡ Some (Err (Tries n)) → ⊥
end-tries (Ok done) n is = cc
end-tries {T = T} (Err fault) n is = by (last_fault fault) refl is
  where
    by : (last : Option SettleFault) → last_fault fault ≡ last → ends_with {T = T} last ≡ Some (Err (Tries n)) → ⊥
    by None e is = cc
    by (Some x) e is = let same : x ≡ Tries n = cc in fault-tries fault n (e ∙ ap (λ (s : SettleFault). Some s) same)

-- a try over a line, by what is said of it
pub tried-over : {R W : Type 0} (remaining : R → Option (List ℕ)) (contents : W → Option (List ℕ)) (t : Touch)
    (begun left : Line R W) (result : Result Reply TryFault)
    → Wrote (contents begun.writer) (contents left.writer) (λ text. HasSent t text result)
    → IfOk result (λ reply. HasSettled t reply (remaining begun.reader) (remaining left.reader)
    (contents begun.writer) (contents left.writer))
    → ((code : ℕ) → result ≡ Err (Unheard (Refused code))
    → Consumes (remaining begun.reader) (remaining left.reader) (answer_frame (answers.Fault code t.gate t.number)))
    → (result ≡ Err (Unheard Stray) → HasStrayed t (remaining begun.reader) (remaining left.reader))
    → (result ≡ Err Cut → left.reader ≡ begun.reader)
    → IsTriedOver remaining contents t (Some begun) (handed left result)
tried-over remaining contents t begun left result wrote settled refused stray cut = record {
  one = over begun left result;
  line_is = refl;
  passed = record {
    sent = wrote;
    read = has-read t (remaining begun.reader) (remaining left.reader) result
        (settled-read t (remaining begun.reader) (remaining left.reader) (contents begun.writer)
        (contents left.writer) result settled) refused stray
        (sent-reached t (contents begun.writer) (contents left.writer) result wrote);
    cut = cut;
  };
  outcome_is = refl;
}

-- ---- the tries so far

module _ {R W : Type 0} (remaining : R → Option (List ℕ)) (contents : W → Option (List ℕ))
    (Made : Line R W → Type 0) where
  -- tries one after the other, none of which ended the settling
  abbrev pub HaveFailed : Touch → Option (Line R W) → List (Try R W) → Type 0
  HaveFailed t ready [] = Unit {0}
  HaveFailed t ready (one ∷ later) = IsTry remaining contents Made t ready one
      × (end_by (outcome_of one) ≡ None) × HaveFailed t None later

  -- the line that is ready behind them
  abbrev pub ready_after : Option (Line R W) → List (Try R W) → Option (Line R W)
  ready_after ready [] = ready
  ready_after ready (one ∷ later) = None

  -- so many tries were made, and none ended the settling
  pub record IsTrying (t : Touch) (line ready : Option (Line R W)) (count : ℕ) : Type 0 where
    pub failed : List (Try R W)
    pub have_failed : HaveFailed t line failed
    pub ready_is : ready ≡ ready_after line failed
    pub count_is : length failed ≡ count

  -- behind any tries a new line is ready, if one is made
  none-after : (tried : List (Try R W)) → ready_after None tried ≡ None
  none-after [] = refl
  none-after (one ∷ later) = refl

  pushed-none : (line : Option (Line R W)) (tried : List (Try R W)) (one : Try R W)
      → None ≡ ready_after line (tried ++ one ∷ [])
  pushed-none line [] one = refl
  pushed-none line (x ∷ later) one = refl

  failed-push : (t : Touch) (line : Option (Line R W)) (tried : List (Try R W)) (one : Try R W)
      → HaveFailed t line tried → IsTry remaining contents Made t (ready_after line tried) one
      → end_by (outcome_of one) ≡ None → HaveFailed t line (tried ++ one ∷ [])
  failed-push t line [] one have is goes = (is, goes, tt)
  failed-push t line (x ∷ later) one have is goes = (
    have.0,
    have.1,
    failed-push t None later one have.2
        (subst (λ (r : Option (Line R W)). IsTry remaining contents Made t r one) (sym (none-after later)) is) goes,
  )

  -- one try more failed
  pub trying-more : (t : Touch) (line ready : Option (Line R W)) (count : ℕ) (one : Try R W)
      → IsTrying t line ready count → IsTry remaining contents Made t ready one → end_by (outcome_of one) ≡ None
      → IsTrying t line None (count + 1)
  trying-more t line ready count one so is goes =
      let here : IsTry remaining contents Made t (ready_after line so.failed) one =
      subst (λ (r : Option (Line R W)). IsTry remaining contents Made t r one) so.ready_is is in
      record {
        failed = so.failed ++ one ∷ [];
        have_failed = failed-push t line so.failed one so.have_failed here goes;
        ready_is = pushed-none line so.failed one;
        count_is = length-append so.failed (one ∷ []) ∙ ap (λ (n : ℕ). n + 1) so.count_is;
      }

  -- what follows the failed tries follows from the first line
  follow-behind : (t : Touch) (tries : ℕ) (line : Option (Line R W)) (failed last : List (Try R W))
      (result : Result (Reply × Line R W) SettleFault) → HaveFailed t line failed
      → Follow remaining contents Made t tries (ready_after line failed) last result
      → Follow remaining contents Made t tries line (failed ++ last) result
  follow-behind t tries line [] last result have follow = follow
  follow-behind t tries line (one ∷ later) last result have follow = (
    have.0,
    inr (
      have.1,
      follow-behind t tries None later last result have.2
          (subst (λ (r : Option (Line R W)). Follow remaining contents Made t tries r last result)
          (sym (none-after later)) follow),
    ),
  )

  -- one try more ends it
  pub tries-end : (t : Touch) (tries count : ℕ) (line ready : Option (Line R W)) (one : Try R W)
      (result : Result (Reply × Line R W) SettleFault) → IsTrying t line ready count → count < tries
      → IsTry remaining contents Made t ready one → end_by (outcome_of one) ≡ Some result
      → (tried : List (Try R W)) × AreTries remaining contents Made t tries line tried result
  tries-end t tries count line ready one result so below is ends =
      let here : IsTry remaining contents Made t (ready_after line so.failed) one =
      subst (λ (r : Option (Line R W)). IsTry remaining contents Made t r one) so.ready_is is in
      let size : length (so.failed ++ one ∷ []) ≡ count + 1 =
      length-append so.failed (one ∷ []) ∙ ap (λ (n : ℕ). n + 1) so.count_is in (
        so.failed ++ one ∷ [],
        record {
          follow = follow-behind t tries line so.failed (one ∷ []) result so.have_failed (here, inl (refl, ends));
          within = omega (arith, size, below);
          used_up = λ n e. absurd (end-tries (outcome_of one) n
              (ends ∙ ap (λ (r : Result (Reply × Line R W) SettleFault). Some r) e));
        },
      )

  -- they are used up
  pub tries-none : (t : Touch) (tries : ℕ) (line ready : Option (Line R W)) → IsTrying t line ready tries
      → (tried : List (Try R W)) × AreTries remaining contents Made t tries line tried (Err (Tries tries))
  tries-none t tries line ready so = (
    so.failed,
    record {
      follow = subst (λ (l : List (Try R W)). Follow remaining contents Made t tries line l (Err (Tries tries)))
          (append-nil so.failed) (follow-behind t tries line so.failed [] (Err (Tries tries)) so.have_failed refl);
      within = let size = so.count_is in omega (arith, size);
      used_up = λ n e. (let same : n ≡ tries = cc in same, so.count_is);
    },
  )

  -- the line of a try was taken from what was ready
  is-try : (t : Touch) (ready taken : Option (Line R W)) (outcome : Result (Reply × Line R W) TryFault)
      → IsTaken Made ready taken → (tried : IsTriedOver remaining contents t taken outcome)
      → IsTry remaining contents Made t ready tried.one
  is-try t ready taken outcome has tried = record {
    taken = subst (λ (o : Option (Line R W)). IsTaken Made ready o) (sym tried.line_is) has;
    passed = tried.passed;
  }

  -- a try over the line that was taken goes on, or ends it
  pub tried-more : (t : Touch) (count : ℕ) (line ready taken : Option (Line R W))
      (outcome : Result (Reply × Line R W) TryFault) → IsTrying t line ready count → IsTaken Made ready taken
      → IsTriedOver remaining contents t taken outcome → end_by outcome ≡ None → IsTrying t line None (count + 1)
  tried-more t count line ready taken outcome so has tried goes =
      trying-more t line ready count tried.one so (is-try t ready taken outcome has tried)
      (ap (λ (o : Result (Reply × Line R W) TryFault). end_by o) (sym tried.outcome_is) ∙ goes)

  pub tried-end : (t : Touch) (tries count : ℕ) (line ready taken : Option (Line R W))
      (outcome : Result (Reply × Line R W) TryFault) (result : Result (Reply × Line R W) SettleFault)
      → IsTrying t line ready count → count < tries → IsTaken Made ready taken
      → IsTriedOver remaining contents t taken outcome → end_by outcome ≡ Some result
      → (tried : List (Try R W)) × AreTries remaining contents Made t tries line tried result
  tried-end t tries count line ready taken outcome result so below has tried ends =
      tries-end t tries count line ready tried.one result so below (is-try t ready taken outcome has tried)
      (ap (λ (o : Result (Reply × Line R W) TryFault). end_by o) (sym tried.outcome_is) ∙ ends)
