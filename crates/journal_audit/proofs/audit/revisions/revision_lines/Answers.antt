use Rattle.std.proofs.Common.{◌<◌, length, option_map, sym, ◌∙◌, arith}
use Rattle.oyster_account.specs.declared.touch.Touch.{Touch}
use Rattle.oyster_account.specs.declared.touch.Act.TheVariants.{Enter}
use Rattle.reply_book.specs.Book.{entries_of}
use Rattle.reply_book.specs.Legal.{history_of}
use Rattle.journal_audit.proofs.RevisionLemmas.{revisions-next, revisions-end}
use Rattle.journal_audit.proofs.audit.revisions.revision_lines.Goals as goal

-- what the code reads past the end of the touches
abbrev no_touch : Touch
no_touch = record { gate = 0; number = 0; card = 0; act = Enter 0 0 }

-- what is told of the touch goes from what is left to the text
pub loop-place-preserved : goal.loop-place-preserved
loop-place-preserved c =
    let touches = c.args.touches.now in
    let place = c.loop-place.place in
    let within : place < length touches = omega arith in
    let known = option_map (λ given. history_of (entries_of given)) c.args.book.now in
    revisions-next known touches place no_touch c.loop-place.text.items
    c.append_told.new.text.items within
    (rw c.entry_at-known.ensures at c.in_ok-append_told.ensures)
    ∙ c.loop-place.invariant

-- behind the last touch nothing is left
pub returns : goal.returns
returns c =
    sym (revisions-end (option_map (λ given. history_of (entries_of given)) c.args.book.now) c.args.touches.now
    c.loop-place.place c.loop-place.text.items (omega (arith, c.loop-place-test.false)))
    ∙ c.loop-place.invariant
