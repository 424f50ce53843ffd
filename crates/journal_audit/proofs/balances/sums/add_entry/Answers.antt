use Rattle.std.proofs.Common.{◌≡◌, ◌∙◌, ◌+◌, ◌-◌, ◌<◌, ◌≤◌, ◌++◌, ◌∷◌, [], length, get_or, slice_set, sym, subst, inl}
use Rattle.std.proofs.Common.{inr, arith, rules}
use Rattle.journal_audit.specs.declared.balances.sums.Sums.{Sums}
use Rattle.journal_audit.specs.Sums.{AreSumsOf, plus, moved}
use Rattle.oyster_account.specs.declared.reply.Judged.{Judged}
use Rattle.journal_audit.proofs.SumLemmas.{AreSumsOf-none, AreSumsOf-own, counts-none, counts-not}
use Rattle.journal_audit.proofs.balances.sums.add_entry.Goals as goal

-- the touch counts for no card that there is
pub returns-then-not-counts-clause-sums : goal.returns-then-not-counts-clause-sums
returns-then-not-counts-clause-sums c history are =
    let j : Judged = record { touch = c.args.entry.now.touch; reply = c.args.entry.now.reply } in
    AreSumsOf-none history c.args.all.now.items j
    (λ place below. elim c.then-not-counts.either [
      | inl none ↦ counts-none (place + 1) j (sym c.counts.ensures ∙ none)
      | inr rest ↦ counts-not (place + 1) j (λ is. elim rest [
        | inl zero ↦ omega (arith, zero.1, is)
        | inr above ↦
            let past : c.len-cards.result < c.args.entry.now.touch.card = above.2 in
            omega (arith, past, is, below, c.len-cards.ensures)
      ])
    ]) are

-- the card's sums have the touch
pub returns-clause-sums : goal.returns-clause-sums
returns-clause-sums c history are =
    let j : Judged = record { touch = c.args.entry.now.touch; reply = c.args.entry.now.reply } in
    let few : c.args.entry.now.touch.card ≤ length c.args.all.now.items =
    omega (arith, c.if-card-cards.false, c.len-cards.ensures) in
    let more =
    AreSumsOf-own history c.args.all.now.items j c.index.result.now (sym c.counts.ensures ∙ c.if-not-counts.false)
    c.if-card-eq0.false few are in
    let read : c.index.result.now ≡ get_or c.args.all.now.items (c.args.entry.now.touch.card - 1) c.index.result.now =
    search rules in
    rw (c.plus.ensures, c.moved_by.ensures.value)
    (subst (λ (s : Sums). AreSumsOf (history ++ j ∷ [])
    (slice_set c.args.all.now.items (j.touch.card - 1) (plus s (moved j))))
    (sym read) more)
