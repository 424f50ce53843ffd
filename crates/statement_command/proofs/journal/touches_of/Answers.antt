use Rattle.std.proofs.Common.{◌++◌, ◌+◌, ◌<◌, List, length, drop, sym, ap, ◌∙◌, subst}
use Rattle.oyster_account.specs.declared.reply.Judged.{Judged}
use Rattle.oyster_account.specs.History.{of_card}
use Rattle.reply_book.specs.Book.{entries_of}
use Rattle.reply_book.specs.Legal.{history_of}
use Rattle.statement_command.proofs.EntryLemmas.{own-next, entry-there}
use Rattle.statement_command.proofs.journal.touches_of.Goals as goal
use Rattle.statement_command.proofs.journal.touches_of.Goals.{in-Some+in_ok-add_entry, in_default}

-- there is an entry at each place, and its touch is taken if it is one of the card
pub loop-place-preserved : goal.loop-place-preserved
loop-place-preserved c =
    let entries = entries_of c.args.book.now in
    let place = c.loop-place.place in
    let below : place < length entries = subst (λ n. place < n) c.len-place-end.ensures.value c.loop-place-test.true in
    elim c.match-entry.branch [
      | in-Some+in_ok-add_entry w ↦
          ap (λ (l : List Judged). l ++ of_card c.args.card (history_of (drop (place + 1) entries)))
          (ap (λ v. v.items) w.touches-is ∙ w.in_ok-add_entry.ensures)
          ∙ own-next c.args.card entries place w.in-Some.entry c.loop-place.touches.items
          (of_card c.args.card (history_of entries)) below (sym c.entry.ensures ∙ w.in-Some.is) c.loop-place.invariant
      | in_default w ↦ absurd (entry-there entries place below (sym c.entry.ensures ∙ w.in_default.is))
    ]
