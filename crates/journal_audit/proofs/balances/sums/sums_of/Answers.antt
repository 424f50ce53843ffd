use Rattle.std.proofs.Common.{◌≡◌, ◌∙◌, ◌<◌, length, List, Some, sym, arith, subst}
use Rattle.std.specs.Prelude.{slice_get}
use Rattle.std.proofs.lemmas.Option.{slice_get_within}
use Rattle.reply_book.specs.declared.entry.Entry.{Entry}
use Rattle.reply_book.specs.Legal.{history_of}
use Rattle.reply_book.specs.Book.{entries_of}
use Rattle.journal_audit.specs.Sums.{AreSumsOf}
use Rattle.journal_audit.proofs.SumLemmas.{AreSumsOf-nothing, moved-nothing, length-nothing, all-before, history-more}
use Rattle.journal_audit.proofs.balances.sums.sums_of.Goals as goal

-- before the first touch nothing was moved
pub loop-entry-init : goal.loop-entry-init
loop-entry-init c = record {
  within = omega arith;
  cards = rw c.in_ok-all.ensures (length-nothing c.args.cards);
  sums = rw c.in_ok-all.ensures (AreSumsOf-nothing c.args.cards);
  measured = rw c.in_ok-all.ensures (omega (arith, moved-nothing c.args.cards));
}

-- the places end
pub loop-entry-smaller : goal.loop-entry-smaller
loop-entry-smaller c =
    let at : slice_get (entries_of c.args.book.now) c.loop-entry.place ≡ Some c.in-Some.entry = sym c.in-Some.ensures in
    let within : c.loop-entry.place < length (entries_of c.args.book.now) =
    slice_get_within (entries_of c.args.book.now) c.loop-entry.place c.in-Some.entry at in
    omega (arith, within)

-- the sums have one touch more
pub loop-entry-preserved : goal.loop-entry-preserved
loop-entry-preserved c =
    let at : slice_get (entries_of c.args.book.now) c.loop-entry.place ≡ Some c.in-Some.entry = sym c.in-Some.ensures in
    let within : c.loop-entry.place < length (entries_of c.args.book.now) =
    slice_get_within (entries_of c.args.book.now) c.loop-entry.place c.in-Some.entry at in
    let more = history-more (entries_of c.args.book.now) c.loop-entry.place c.in-Some.entry at in
    record {
      within = omega (arith, within);
      cards = c.add_entry.ensures.cards ∙ c.loop-entry.invariant.cards;
      sums = rw more (c.add_entry.ensures.sums _ c.loop-entry.invariant.sums);
      measured = omega (arith, c.add_entry.ensures.measured, c.loop-entry.invariant.measured);
    }

-- behind the last touch all were added
pub returns-clause-sums : goal.returns-clause-sums
returns-clause-sums c =
    subst (λ (l : List Entry). AreSumsOf (history_of l) c.loop-entry.all.items)
    (all-before (entries_of c.args.book.now) c.loop-entry.place (sym c.in_default.ensures)) c.loop-entry.invariant.sums
