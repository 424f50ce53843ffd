use Rattle.std.proofs.Common.{◌≡◌, List, map, ap, ◌∙◌, sym, option_map, slice_get}
use Rattle.std.proofs.lemmas.Option.{slice_get-map}
use Rattle.oyster_account.specs.declared.reply.Judged.{Judged}
use Rattle.reply_book.specs.declared.entry.Entry.{Entry}
use Rattle.reply_book.specs.Book.{entries_of}
use Rattle.journal_audit.proofs.audit.revisions.entry_at.Goals as goal

-- the touch of an entry with its reply
judged : Entry → Judged
judged = λ entry. record { touch = entry.touch; reply = entry.reply }

-- the judgement of the entry is that in the history
pub returns-in-Some : goal.returns-in-Some
unfolding judged
returns-in-Some c =
    let entries : List Entry = entries_of c.in-Some.book in
    let place = c.args.place in
    let there : option_map judged c.entry.result ≡ option_map judged (slice_get entries place) =
    ap (option_map judged) c.entry.ensures in
    let same : slice_get (map judged entries) place ≡ option_map judged (slice_get entries place) =
    slice_get-map judged entries place in
    rw c.in-Some.is (there ∙ sym same)
