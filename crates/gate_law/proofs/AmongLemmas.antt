-- That the tries of a settling are a run of their gate's steps, whatever others do meanwhile.
use Rattle.std.proofs.Common.{◌≡◌, inl, inr, ℕ, Bool, List, [], ◌∷◌, ◌++◌, map, Option, Some, None}
use Rattle.std.proofs.Common.{Result, Ok, Err, refl, sym, ap, ◌∙◌, subst, append-nil, append_assoc}
use Rattle.oyster_account.specs.declared.touch.Touch.{Touch}
use Rattle.oyster_account.specs.declared.reply.Reply.{Reply}
use Rattle.oyster_account.specs.declared.reply.Judged.{Judged}
use Rattle.tap_disk.specs.declared.disk.Disk.{Ghosts}
use Rattle.gate_client.specs.declared.client.Client.{Client}
use Rattle.gate_client.specs.declared.fault.HearFault.TheVariants.{NoAnswer, Stray, Refused}
use Rattle.gate_client.specs.declared.attempt.TryFault.{TryFault}
use Rattle.gate_client.specs.declared.attempt.TryFault.TheVariants.{Unreached, Cut, Unheard}
use Rattle.gate_client.specs.declared.settling.Line.{Line}
use Rattle.gate_client.specs.declared.settling.SettleFault.{SettleFault}
use Rattle.gate_client.specs.declared.settling.SettleFault.TheVariants.{Tries}
use Rattle.gate_client.specs.Client.{waits_of}
use Rattle.gate_client.specs.SettleTexts.{IsAnswer, last_answer, last_fault}
use Rattle.gate_client.specs.Tries.{Try, no_line, over, result_of, outcome_of, ends_with, end_by, Follow}
use Rattle.gate_law.specs.Whole.{Whole, Refusal}
use Rattle.gate_law.specs.Shown.{IsShownBy}
use Rattle.gate_law.specs.ClientRuns.{told_of, refused_of}
use Rattle.gate_law.specs.Among.{heard_by, AreTriesAmong}
use Rattle.gate_law.specs.Among.{told_by, refused_by, told_at_end, IsLastRefused, IsRunAmong}
use Rattle.gate_law.proofs.TryAmongLemmas.{behind, try-among, others-alone, run-behind}

-- a fault is told as no reply
told-fault : (t : Touch) (fault : TryFault) → told_of t (heard_by (Err fault)) ≡ []
told-fault t (Unheard (Refused code)) = refl
told-fault t (Unheard Stray) = refl
told-fault t (Unheard NoAnswer) = refl
told-fault t Cut = refl
told-fault t Unreached = refl

-- a try that goes on tells none
none-told : {R W : Type 0} (t : Touch) (one : Try R W) → end_by (outcome_of one) ≡ None
    → told_of t (heard_by (result_of one)) ≡ []
none-told t no_line goes = refl
none-told t (over begun left (Ok reply)) goes = absurd cc
none-told t (over begun left (Err fault)) goes = told-fault t fault

-- the last tells what the settling returns
end-told : {R W : Type 0} (t : Touch) (one : Try R W) (result : Result (Reply × Line R W) SettleFault)
    → end_by (outcome_of one) ≡ Some result → told_of t (heard_by (result_of one)) ≡ told_at_end t result
end-told t no_line result ends = absurd cc
end-told {R = R} {W = W} t (over begun left (Ok reply)) result ends =
    let same : Ok (reply, left) ≡ result = cc in
    ap (λ (r : Result (Reply × Line R W) SettleFault). told_at_end t r) same
end-told {R = R} {W = W} t (over begun left (Err fault)) result ends =
    told-fault t fault ∙ by (last_fault fault) ends
  where
    by : (last : Option SettleFault) → ends_with {T = Reply × Line R W} last ≡ Some result → [] ≡ told_at_end t result
    by None e = absurd cc
    by (Some x) e =
        let same : Err x ≡ result = cc in
        ap (λ (r : Result (Reply × Line R W) SettleFault). told_at_end t r) same

-- the last, where it is a fault of the station, is refused
end-refused : {R W : Type 0} (t : Touch) (one : Try R W) (fault : SettleFault)
    → end_by (outcome_of one) ≡ Some (Err fault)
    → IsLastRefused t fault (refused_of t (heard_by (result_of one)))
end-refused t no_line fault ends = absurd cc
end-refused t (over begun left (Ok reply)) fault ends = absurd cc
end-refused t (over begun left (Err Unreached)) fault ends = absurd cc
end-refused t (over begun left (Err Cut)) fault ends = absurd cc
end-refused t (over begun left (Err (Unheard NoAnswer))) fault ends = absurd cc
end-refused t (over begun left (Err (Unheard Stray))) fault ends = absurd cc
end-refused {R = R} {W = W} t (over begun left (Err (Unheard (Refused code)))) fault ends = record {
  earlier = [];
  code = code;
  last = refl;
  is = by (last_answer code) ends;
}
  where
    by : (last : Option SettleFault) → ends_with {T = Reply × Line R W} last ≡ Some (Err fault) → last ≡ Some fault
    by None e = absurd cc
    by (Some x) e = let same : x ≡ fault = cc in ap (λ (y : SettleFault). Some y) same

-- what comes before the last that is refused
before-refused : (t : Touch) (fault : SettleFault) (more refused : List Refusal) → IsLastRefused t fault refused
    → IsLastRefused t fault (more ++ refused)
before-refused t fault more refused last = record {
  earlier = more ++ last.earlier;
  code = last.code;
  last = ap (λ (l : List Refusal). more ++ l) last.last
      ∙ sym (append_assoc more last.earlier (record { touch = t; code = last.code } ∷ []));
  is = last.is;
}

module _ {R W : Type 0} (remaining : R → Option (List ℕ)) (contents : W → Option (List ℕ))
    (Made : Line R W → Type 0) (t : Touch) (tries : ℕ) where
  -- what came of the tries, in their order
  abbrev pub results : List (Try R W) → List (Result Reply TryFault)
  results tried = map (λ one. result_of one) tried

  -- the gate's caller is told what the settling returns
  pub told-end : (ready : Option (Line R W)) (tried : List (Try R W))
      (result : Result (Reply × Line R W) SettleFault) → Follow remaining contents Made t tries ready tried result
      → told_by t (results tried) ≡ told_at_end t result
  told-end ready [] result is = ap (λ (r : Result (Reply × Line R W) SettleFault). told_at_end t r) (sym is)
  told-end ready (one ∷ later) result follow = elim follow.1 [
    | inl last ↦
        ap (λ (l : List (Try R W)). told_of t (heard_by (result_of one)) ++ told_by t (results l)) last.0
        ∙ append-nil (told_of t (heard_by (result_of one))) ∙ end-told t one result last.1
    | inr more ↦
        ap (λ (l : List Judged). l ++ told_by t (results later)) (none-told t one more.0)
        ∙ told-end None later result more.1
  ]

  -- where it returns a fault of the station, that is the last one that the caller is refused
  pub refused-end : (ready : Option (Line R W)) (tried : List (Try R W))
      (result : Result (Reply × Line R W) SettleFault) → Follow remaining contents Made t tries ready tried result
      → (fault : SettleFault) → result ≡ Err fault → IsAnswer fault
      → IsLastRefused t fault (refused_by t (results tried))
  refused-end ready [] result follow fault is answer =
      let same : fault ≡ Tries tries = cc in absurd (subst (λ (f : SettleFault). IsAnswer f) same answer)
  refused-end ready (one ∷ later) result follow fault is answer = elim follow.1 [
    | inl last ↦
        let here : IsLastRefused t fault (refused_of t (heard_by (result_of one))) =
        end-refused t one fault (last.1 ∙ ap (λ (r : Result (Reply × Line R W) SettleFault). Some r) is) in
        subst (λ (l : List Refusal). IsLastRefused t fault l)
        (sym (append-nil (refused_of t (heard_by (result_of one))))
        ∙ ap (λ (l : List (Try R W)). refused_of t (heard_by (result_of one)) ++ refused_by t (results l))
        (sym last.0)) here
    | inr more ↦
        before-refused t fault (refused_of t (heard_by (result_of one))) (refused_by t (results later))
        (refused-end None later result more.1 fault is answer)
  ]

  module _ {D : Type 0} {g : Ghosts D} (alone : ℕ → Bool) (cards number : ℕ) where
    -- a try that ends a settling with this result leaves the client as the settling does
    end-behind : (one : Try R W) (result : Result (Reply × Line R W) SettleFault) (client : Client D g)
        → end_by (outcome_of one) ≡ Some result → behind (result_of one) client ≡ behind result client
    end-behind no_line result client ends = absurd cc
    end-behind (over begun left (Ok reply)) result client ends =
        let same : Ok (reply, left) ≡ result = cc in
        ap (λ (r : Result (Reply × Line R W) SettleFault). behind r client) same
    end-behind (over begun left (Err fault)) result client ends = by (last_fault fault) ends
      where
        by : (last : Option SettleFault) → ends_with {T = Reply × Line R W} last ≡ Some result
            → client ≡ behind result client
        by None e = absurd cc
        by (Some x) e =
            let same : Err x ≡ result = cc in
            ap (λ (r : Result (Reply × Line R W) SettleFault). behind r client) same

    -- one that doesn't leaves it as it was
    none-behind : (one : Try R W) (client : Client D g) → end_by (outcome_of one) ≡ None
        → behind (result_of one) client ≡ client
    none-behind no_line client goes = refl
    none-behind (over begun left (Ok reply)) client goes = absurd cc
    none-behind (over begun left (Err fault)) client goes = refl

    -- the tries of a settling, among what others do
    pub tries-among : (ready : Option (Line R W)) (tried : List (Try R W))
        (result : Result (Reply × Line R W) SettleFault) (old new : Whole) (client : Client D g)
        → Follow remaining contents Made t tries ready tried result → IsShownBy number (old.gates number) client
        → waits_of client ≡ Some t → AreTriesAmong alone cards number t (results tried) old new
        → IsRunAmong alone cards number old new (behind result client) (told_by t (results tried))
        (refused_by t (results tried))
    tries-among ready [] result old new client follow shown waits among =
        let here : IsShownBy number (old.gates number) (behind result client) =
        subst (λ (r : Result (Reply × Line R W) SettleFault). IsShownBy number (old.gates number) (behind r client))
        (sym follow) shown in
        others-alone alone cards number old new (behind result client) here among
    tries-among ready (one ∷ later) result old new client follow shown waits among =
        let r = result_of one in
        let next = among.0 in
        let this : IsRunAmong alone cards number old next (behind r client) (told_of t (heard_by r))
        (refused_of t (heard_by r)) =
        try-among alone cards number t r old next client shown waits among.1 in
        elim follow.1 [
          | inl last ↦
              let left : IsShownBy number (next.gates number) (behind result client) =
              subst (λ (c : Client D g). IsShownBy number (next.gates number) c)
              (end-behind one result client last.1) this.shown in
              let none : AreTriesAmong alone cards number t [] next new =
              subst (λ (l : List (Try R W)). AreTriesAmong alone cards number t (results l) next new) last.0 among.2 in
              let rest : IsRunAmong alone cards number next new (behind result client) [] [] =
              others-alone alone cards number next new (behind result client) left none in
              let more : IsRunAmong alone cards number next new (behind result client) (told_by t (results later))
              (refused_by t (results later)) =
              subst (λ (l : List (Try R W)). IsRunAmong alone cards number next new (behind result client)
              (told_by t (results l)) (refused_by t (results l))) (sym last.0) rest in
              run-behind alone cards number old next new (behind r client) (behind result client)
              (told_of t (heard_by r)) (told_by t (results later)) (refused_of t (heard_by r))
              (refused_by t (results later)) this more
          | inr more ↦
              let left : IsShownBy number (next.gates number) client =
              subst (λ (c : Client D g). IsShownBy number (next.gates number) c)
              (none-behind one client more.0) this.shown in
              run-behind alone cards number old next new (behind r client) (behind result client)
              (told_of t (heard_by r)) (told_by t (results later)) (refused_of t (heard_by r))
              (refused_by t (results later)) this
              (tries-among None later result next new client more.1 left waits among.2)
        ]
