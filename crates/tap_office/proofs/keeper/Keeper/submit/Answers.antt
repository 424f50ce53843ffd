use Rattle.std.proofs.Common.{subst, sym, ap, ◌≡◌, ◌∙◌, length, take, List, Err}
use Rattle.reply_book.specs.declared.entry.Entry.{Entry}
use Rattle.reply_book.specs.Legal.{history_of}
use Rattle.tap_desk.specs.LogPoints.{logged_at}
use Rattle.tap_office.specs.declared.fault.SubmitFault.{SubmitFault}
use Rattle.tap_office.specs.Given.{IsLegalFor}
use Rattle.tap_office.specs.Refusal.{IsCauseAfter}
use Rattle.tap_office.proofs.RefusalLemmas.{caused}
use Rattle.tap_office.proofs.keeper.Keeper.submit.Goals as goal

-- the fault has its cause in the history, which stays, and is what the log point is of
pub returns-in-Err-clause-cause : goal.returns-in-Err-clause-cause
returns-in-Err-clause-cause g c =
    let o = g.N.Named.opened in
    let touch = c.args.touch in
    let fault = c.in-Err.fault in
    let old : List Entry = c.args.self.now.history in
    let said = c.in-Err.ensures in
    let refused = c.refused.result in
    let point : List Entry = logged_at refused.point in
    let cause : IsCauseAfter o old touch fault =
    caused o old touch fault
    (λ is. (said.conflict.0 (ap Err is)).1)
    (λ is. (said.memory (ap Err is)).1)
    (λ is. let full = said.full.0 (ap Err is) in (full.1, full.3))
    (λ is. let unknown = said.unknown_table.0 (ap Err is) in (unknown.1, unknown.2)) in
    let is : point ≡ old = c.refused.ensures.point ∙ said.kept in
    record {
      legal = subst (λ (l : List Entry). IsLegalFor o (history_of l)) (sym c.refused.ensures.point)
          c.refused.ensures.legal;
      begins = subst (λ (l : List Entry). take (length o.recovered) l ≡ o.recovered) (sym c.refused.ensures.point)
          c.refused.ensures.begins;
      cause = subst (λ (f : SubmitFault). IsCauseAfter o point touch f) (sym c.refused.ensures.fault)
          (subst (λ (l : List Entry). IsCauseAfter o l touch fault) (sym is) cause);
    }
