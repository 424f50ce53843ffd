use Rattle.std.proofs.Common.{◌≡◌, ◌++◌, drop, option_map}
use Rattle.reply_book.specs.Book.{entries_of}
use Rattle.reply_book.specs.Legal.{history_of}
use Rattle.journal_audit.specs.Revisions.{revisions_text, revisions_from}
use Rattle.journal_audit.proofs.audit.revisions.revision_lines.Given as goal

-- the text and what is told of the touches from here on are all lines
abbrev pub invariant-loop-place : goal.invariant-loop-place
invariant-loop-place l =
    l.text.items
    ++ revisions_from (option_map (λ given. history_of (entries_of given)) l.book) l.place (drop l.place l.touches)
    ≡ revisions_text (option_map (λ given. history_of (entries_of given)) l.book) l.touches
