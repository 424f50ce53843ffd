-- That what comes of a touch that is settled is a run of steps.
use Rattle.std.proofs.Common.{◌≡◌, ℕ, Bool, List, [], ◌∷◌, ◌++◌, length, take, refl, sym, ap, ◌∙◌, subst}
use Rattle.std.proofs.Common.{append-nil, Option, Some, Result, Ok, Err, IfOk, ◌<◌, ◌^◌, get_or, arith}
use Rattle.std.specs.Prelude.{Contains}
use Rattle.oyster_account.specs.declared.touch.Touch.{Touch}
use Rattle.oyster_account.specs.declared.reply.Reply.{Reply}
use Rattle.oyster_account.specs.declared.reply.Judged.{Judged}
use Rattle.oyster_account.specs.Touch.{Fits}
use Rattle.reply_book.proofs.PlaceLemmas.{take-front}
use Rattle.tap_disk.specs.declared.disk.Disk.{Ghosts}
use Rattle.gate_session.specs.declared.answer.Answer.{Answer}
use Rattle.gate_session.specs.declared.answer.Answer.TheVariants as answers
use Rattle.gate_session.specs.Answers.{AnswerFits, ReplyFits, answer_frame}
use Rattle.gate_session.proofs.AnswerLemmas.{one_answer}
use Rattle.text_io.specs.Writing.{IsBeginning}
use Rattle.gate_law.specs.Premises.{Line}
use Rattle.gate_law.proofs.ListLemmas.{contains-last}
use Rattle.gate_client.specs.declared.client.Client.{Client}
use Rattle.gate_client.specs.declared.fault.HearFault.{HearFault}
use Rattle.gate_client.specs.declared.fault.HearFault.TheVariants.{NoAnswer, Stray, Refused}
use Rattle.gate_client.specs.Client.{HasAsked, answered, waits_of}
use Rattle.tap_office.specs.Name.{Opened}
use Rattle.tap_office.specs.Keeper.{KeeperState}
use Rattle.gate_law.specs.Whole.{Gate, Whole, Refusal, with_gate}
use Rattle.gate_law.specs.WholeAgreement.{IsRun}
use Rattle.gate_law.proofs.ViewLemmas.{with-own}
use Rattle.gate_law.proofs.WholeLemmas.{run-then}
use Rattle.gate_law.specs.Shown as gates
use Rattle.gate_law.specs.declared.round.NoReplyFault.{NoReplyFault}
use Rattle.gate_law.specs.declared.round.NoReplyFault.TheVariants.{Unsent, Unheard}
use Rattle.gate_law.specs.ClientRuns.{gone_in, IsClientRun}
use Rattle.gate_law.proofs.ClientRunLemmas.{idle-run, heard-run, hears-run}
use Rattle.station_calls.specs.Shown as stations
use Rattle.station_calls.specs.Commits.{IsCommitRun, answered_in}
use Rattle.station_calls.proofs.OpeningLemmas.{beside}
use Rattle.station_calls.specs.Settled.{IsSettling, told_by, refused_by}

-- a list that more follows
pub whole-of : (out frame rest : List ℕ) (n : ℕ) → out ≡ frame ++ rest → n ≡ length frame → take n out ≡ frame
whole-of out frame rest n is long =
    ap (λ (k : ℕ). take k out) long ∙ ap (take (length frame)) is ∙ take-front frame rest

-- one touch waits
pub one-waits : (waits : Option Touch) (a b : Touch) → waits ≡ Some a → waits ≡ Some b → a ≡ b
one-waits waits a b is other = inside (sym is ∙ other)
  where
    inside : Some a ≡ Some b → a ≡ b
    inside e = cc

pub one-reply : {E : Type 0} (a b : Reply) → ◌≡◌ {A = Result Reply E} (Ok a) (Ok b) → a ≡ b
one-reply a b e = cc

-- what was told unheard for this fault was heard as it
pub one-refused : (fault : HearFault) (code : ℕ)
    → ◌≡◌ {A = Result Reply NoReplyFault} (Err (Unheard fault)) (Err (Unheard (Refused code)))
    → ◌≡◌ {A = Result Reply HearFault} (Err fault) (Err (Refused code))
one-refused fault code is = let same : fault ≡ Refused code = cc in ap Err same

-- what was handed out is no fault
pub no-fault : {E : Type 0} (A : Type 0) (reply : Reply) (fault : E)
    → ◌≡◌ {A = Result Reply E} (Ok reply) (Err fault) → A
no-fault A reply fault e = absurd cc

pub no-reply : {E : Type 0} (A : Type 0) (fault : E) (reply : Reply)
    → ◌≡◌ {A = Result Reply E} (Err fault) (Ok reply) → A
no-reply A fault reply e = absurd cc

-- what begins the frame of an answer is that answer's
pub one-heard : {E : Type 0} (result : Result Reply E) (touch : Touch) (answer : Answer) (text : List ℕ)
    → text ≡ answer_frame answer → Fits touch → AnswerFits answer → IfOk result ReplyFits
    → IfOk result (λ reply. IsBeginning (answer_frame (answers.Reply touch.gate touch.number reply)) text)
    → IfOk result (λ reply. answer ≡ answers.Reply touch.gate touch.number reply)
one-heard (Ok reply) touch answer text whole fits fit reply_fits begins =
    let frames : answer_frame answer ++ [] ≡ answer_frame (answers.Reply touch.gate touch.number reply) ++ begins.0 =
    append-nil (answer_frame answer) ∙ sym whole ∙ begins.1 in
    (one_answer answer (answers.Reply touch.gate touch.number reply) [] begins.0 fit
    (fits.gate, fits.number, reply_fits) frames).0
one-heard (Err fault) touch answer text whole fits fit reply_fits begins = tt

-- and of a fault
pub one-fault : (answer : Answer) (code gate number : ℕ) (rest : List ℕ) → AnswerFits answer → gate < 2 ^ 16
    → number < 2 ^ 32 → answer_frame answer ++ [] ≡ answer_frame (answers.Fault code gate number) ++ rest
    → answer ≡ answers.Fault code gate number
one-fault (answers.Reply g n r) code gate number rest fit gate_fits number_fits e =
    let kinds = ap (λ (l : List ℕ). get_or l 2 0) e in absurd (omega (arith, kinds))
one-fault (answers.Holding v f) code gate number rest fit gate_fits number_fits e =
    let kinds = ap (λ (l : List ℕ). get_or l 2 0) e in absurd (omega (arith, kinds))
one-fault (answers.Fault c g n) code gate number rest fit gate_fits number_fits e =
    let same : c ≡ code = ap (λ (l : List ℕ). get_or l 3 0) e in
    (one_answer (answers.Fault c g n) (answers.Fault code gate number) [] rest fit
    (subst (λ (k : ℕ). k < 2 ^ 8) same fit.0, gate_fits, number_fits) e).0

pub fault-heard : (touch : Touch) (answer : Answer) (code : ℕ) (text : List ℕ) → text ≡ answer_frame answer
    → Fits touch → AnswerFits answer → IsBeginning (answer_frame (answers.Fault code touch.gate touch.number)) text
    → answer ≡ answers.Fault code touch.gate touch.number
fault-heard touch answer code text whole fits fit begins =
    one-fault answer code touch.gate touch.number begins.0 fit fits.gate fits.number
    (append-nil (answer_frame answer) ∙ sym whole ∙ begins.1)

module _ {D K : Type 0} {g : Ghosts D} (honest : K → Type 0) (outcome : K → List ℕ → Type 0) (alone : ℕ → Bool)
    (opened : Opened) (number : ℕ) (whole : Whole) (touch : Touch) (old new : Client D g) (old_k new_k : KeeperState K)
    (waits : waits_of old ≡ Some touch) (shown : stations.IsShownBy honest outcome opened old_k whole) where
  -- nothing was sent
  pub unsent : gates.IsShownBy number (whole.gates number) old
      → IsSettling honest outcome alone opened number whole touch (Err Unsent) old old_k
  unsent gate = record {
    last = whole;
    between = [];
    run = refl;
    told = sym (append-nil (whole.gates number).told);
    refused = sym (append-nil (whole.gates number).refused);
    gate_shown = gate;
    station_shown = shown;
  }

  -- a run so far, in which the caller was told nothing
  record IsHalfway (w : Whole) : Type 0 where
    pub between : List Whole
    pub run : IsRun alone opened.header.cards whole between w
    pub told : (w.gates number).told ≡ (whole.gates number).told
    pub refused : (w.gates number).refused ≡ (whole.gates number).refused
    pub gate_shown : gates.IsShownBy number (w.gates number) old
    pub station_shown : stations.IsShownBy honest outcome opened new_k w

  -- it was sent and committed
  halfway : (answer : Answer) → IsClientRun alone opened.header.cards number whole old (touch ∷ []) [] []
      → ((w : Whole) → stations.IsShownBy honest outcome opened old_k w → Line w.sent touch
      → IsCommitRun alone honest outcome opened w answer new_k)
      → (w : Whole) × IsHalfway w × Contains w.answers answer
  halfway answer sent commit =
      let mid = gone_in number whole sent.gate (touch ∷ []) in
      let mid_shown = beside honest outcome opened old_k whole (with_gate whole.gates number sent.gate) (touch ∷ [])
      shown in
      let by = commit mid mid_shown (contains-last whole.sent touch) in
      let then = answered_in mid by.station answer in
      let own : then.gates number ≡ sent.gate = with-own whole.gates number sent.gate in (
        then,
        record {
          between = sent.between ++ by.between;
          run = run-then alone opened.header.cards whole mid then sent.between by.between sent.run by.run;
          told = ap (λ (x : Gate). x.told) own ∙ sent.told_is ∙ append-nil (whole.gates number).told;
          refused = ap (λ (x : Gate). x.refused) own ∙ sent.refused_is ∙ append-nil (whole.gates number).refused;
          gate_shown = subst (λ (x : Gate). gates.IsShownBy number x old) (sym own) sent.shown;
          station_shown = by.shown;
        },
        contains-last mid.answers answer,
      )

  -- and then something was heard, or nothing
  over : (w : Whole) → IsHalfway w → (told : List Judged) (refused : List Refusal) (r : Result Reply NoReplyFault)
      → told ≡ told_by touch r → refused ≡ refused_by touch r
      → IsClientRun alone opened.header.cards number w new [] told refused
      → IsSettling honest outcome alone opened number whole touch r new new_k
  over w way told refused r is but heard =
      let own : with_gate w.gates number heard.gate number ≡ heard.gate = with-own w.gates number heard.gate in
      record {
        last = gone_in number w heard.gate [];
        between = way.between ++ heard.between;
        run = run-then alone opened.header.cards whole w (gone_in number w heard.gate []) way.between heard.between
            way.run heard.run;
        told = ap (λ (x : Gate). x.told) own ∙ heard.told_is ∙ ap (λ (l : List Judged). l ++ told) way.told
            ∙ ap (λ (l : List Judged). (whole.gates number).told ++ l) is;
        refused = ap (λ (x : Gate). x.refused) own ∙ heard.refused_is
            ∙ ap (λ (l : List Refusal). l ++ refused) way.refused
            ∙ ap (λ (l : List Refusal). (whole.gates number).refused ++ l) but;
        gate_shown = subst (λ (x : Gate). gates.IsShownBy number x new) (sym own) heard.shown;
        station_shown = beside honest outcome opened new_k w (with_gate w.gates number heard.gate) [] way.station_shown;
      }

  -- nothing was heard
  unheard : (w : Whole) → IsHalfway w → (fault : NoReplyFault) → refused_by touch (Err fault) ≡ [] → new ≡ old
      → IsSettling honest outcome alone opened number whole touch (Err fault) new new_k
  unheard w way fault none same =
      over w way [] [] (Err fault) refl (sym none)
      (idle-run alone opened.header.cards number w new
      (subst (gates.IsShownBy number (w.gates number)) (sym same) way.gate_shown))

  -- whatever was heard
  finish : (w : Whole) → IsHalfway w → (answer : Answer) → Contains w.answers answer
      → ((asked : List Touch) → HasAsked asked old → HasAsked asked new) → (r : Result Reply NoReplyFault)
      → ((reply : Reply) → r ≡ Ok reply → (new ≡ answered old) × (answer ≡ answers.Reply touch.gate touch.number reply))
      → ((fault : NoReplyFault) → r ≡ Err fault → new ≡ old)
      → ((code : ℕ) → r ≡ Err (Unheard (Refused code)) → answer ≡ answers.Fault code touch.gate touch.number)
      → IsSettling honest outcome alone opened number whole touch r new new_k
  finish w way answer there asked (Ok reply) ok kept refused =
      let is = ok reply refl in
      over w way (record { touch = touch; reply = reply } ∷ []) [] (Ok reply) refl refl
      (heard-run alone opened.header.cards number w old new touch reply way.gate_shown waits is.0
      (asked (w.gates number).file way.gate_shown.asked) (subst (Contains w.answers) is.1 there))
  finish w way answer there asked (Err Unsent) ok kept refused = unheard w way Unsent refl (kept Unsent refl)
  finish w way answer there asked (Err (Unheard NoAnswer)) ok kept refused =
      unheard w way (Unheard NoAnswer) refl (kept (Unheard NoAnswer) refl)
  finish w way answer there asked (Err (Unheard Stray)) ok kept refused =
      unheard w way (Unheard Stray) refl (kept (Unheard Stray) refl)
  finish w way answer there asked (Err (Unheard (Refused code))) ok kept refused =
      over w way [] (record { touch = touch; code = code } ∷ []) (Err (Unheard (Refused code))) refl refl
      (hears-run alone opened.header.cards number w old new touch (Err (Refused code)) way.gate_shown waits
      (asked (w.gates number).file way.gate_shown.asked)
      (λ reply is. no-reply (new ≡ answered old) (Refused code) reply is)
      (λ fault is. kept (Unheard (Refused code)) refl) (subst (Contains w.answers) (refused code refl) there))

  -- it was sent, committed, and heard or not
  pub settles : (result : Result Reply NoReplyFault) (answer : Answer)
      → IsClientRun alone opened.header.cards number whole old (touch ∷ []) [] []
      → ((w : Whole) → stations.IsShownBy honest outcome opened old_k w → Line w.sent touch
      → IsCommitRun alone honest outcome opened w answer new_k)
      → ((asked : List Touch) → HasAsked asked old → HasAsked asked new)
      → ((reply : Reply) → result ≡ Ok reply
      → (new ≡ answered old) × (answer ≡ answers.Reply touch.gate touch.number reply))
      → ((fault : NoReplyFault) → result ≡ Err fault → new ≡ old)
      → ((code : ℕ) → result ≡ Err (Unheard (Refused code)) → answer ≡ answers.Fault code touch.gate touch.number)
      → IsSettling honest outcome alone opened number whole touch result new new_k
  settles result answer sent commit asked ok kept refused =
      let half = halfway answer sent commit in
      finish half.0 half.1 answer half.2 asked result ok kept refused
