use Rattle.std.proofs.Common.{◌++◌, [], ◌∷◌, ℕ, List, refl, ap, ◌∙◌}
use Rattle.oyster_account.specs.Scheme.{scheme_of}
use Rattle.card_statement.specs.declared.statement.Reason.{Reason}
use Rattle.card_statement.specs.declared.statement.Reason.TheVariants.{NotLeftInTime}
use Rattle.card_statement.specs.declared.statement.Incomplete.{Incomplete}
use Rattle.card_statement.specs.Gathered.{entry_rows, reason_after}
use Rattle.card_statement.proofs.GatheredLemmas.{of-missed}
use Rattle.card_statement.proofs.gathered.Gathered.end_no_leg.Goals as goal

-- The rows of the open touch in, where there is one, and of the touch out are more.
pub returns-clause-of : goal.returns-clause-of
returns-clause-of c taps of =
    let scheme = scheme_of c.args.schedule.now in
    of-missed scheme taps c.args.self.now _ of c.args.finish c.requires.late
    (c.in_ok-push.ensures.items
    ∙ ap (λ (l : List Incomplete). l
    ++ record { touch = c.args.finish; reason = c.reason_after-reason.result; pence = c.maximum.result } ∷ [])
    c.in_ok-miss_entry.ensures.rows
    ∙ ap (λ (r : Reason). c.args.self.now.incompletes.items
    ++ entry_rows scheme c.args.self.now.last NotLeftInTime c.args.self.now.entry
    ++ record { touch = c.args.finish; reason = r; pence = c.maximum.result } ∷ []) c.reason_after-reason.ensures
    ∙ ap (λ (p : ℕ). c.args.self.now.incompletes.items
    ++ entry_rows scheme c.args.self.now.last NotLeftInTime c.args.self.now.entry
    ++ record { touch = c.args.finish; reason = reason_after c.args.self.now.entry; pence = p } ∷ [])
    c.maximum.ensures.value)
    refl refl refl refl
