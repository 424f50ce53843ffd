use Rattle.std.proofs.Common.{◌≡◌, List, ℕ, Some, inl, inr, sym, subst, ◌∙◌, rules, codes}
use Rattle.oyster_account.specs.Touch.{moment_of}
use Rattle.gate_client.specs.Asking.{Begins, SaysAt}
use Rattle.gate_client.proofs.AskingLemmas.{word_cut, at_cut, not_at}
use Rattle.gate_client.proofs.asking.asked_by.Goals as goal

-- behind `at` the moment is read, and the text behind it; no act's word is `at`
pub returns-in_err-moment-clause-only : goal.returns-in_err-moment-clause-only
returns-in_err-moment-clause-only c card act asks =
    let word : c.in_ok-word.word.now ≡ codes "at" = search rules in
    elim asks [
      | inl says ↦
          let cut = word_cut c.args.now c.args.line.now card act (Some (c.in_ok-word.word, c.in_ok-word.rest))
          c.in_ok-word.ensures.cases says in
          absurd (not_at act (sym cut.0 ∙ word))
      | inr given ↦
          let cut = at_cut c.args.line.now (moment_of act) given.0 (Some (c.in_ok-word.word, c.in_ok-word.rest))
          c.in_ok-word.ensures.cases given.1 in
          absurd (c.in_err-moment.ensures.only (moment_of act) given.0
          (subst (λ (l : List ℕ). Begins l (moment_of act) given.0) (sym cut.1) given.1.begins))
    ]

pub returns-in_ok-moment-clause-only : goal.returns-in_ok-moment-clause-only
returns-in_ok-moment-clause-only c card act asks =
    let word : c.in_ok-word.word.now ≡ codes "at" = search rules in
    elim asks [
      | inl says ↦
          let cut = word_cut c.args.now c.args.line.now card act (Some (c.in_ok-word.word, c.in_ok-word.rest))
          c.in_ok-word.ensures.cases says in
          absurd (not_at act (sym cut.0 ∙ word))
      | inr given ↦
          let cut = at_cut c.args.line.now (moment_of act) given.0 (Some (c.in_ok-word.word, c.in_ok-word.rest))
          c.in_ok-word.ensures.cases given.1 in
          let same = c.in_ok-moment.ensures.only (moment_of act) given.0
          (subst (λ (l : List ℕ). Begins l (moment_of act) given.0) (sym cut.1) given.1.begins) in
          c.said_by.ensures.only card act (subst (λ (m : ℕ). SaysAt m c.in_ok-moment.said.now card act) (sym same.0)
          (subst (λ (l : List ℕ). SaysAt (moment_of act) l card act) (sym same.1) given.2))
    ]

pub returns-else-eq-clause-only : goal.returns-else-eq-clause-only
returns-else-eq-clause-only c card act asks =
    let other : c.in_ok-word.word.now ≡ codes "at" → ⊥ = search rules in
    elim asks [
      | inl says ↦ c.said_by-else-eq.ensures.only card act says
      | inr given ↦
          let cut = at_cut c.args.line.now (moment_of act) given.0 (Some (c.in_ok-word.word, c.in_ok-word.rest))
          c.in_ok-word.ensures.cases given.1 in
          absurd (other cut.0)
    ]
