use Rattle.std.proofs.Common.{rules, ap, ◌∙◌}
use Rattle.std.specs.Int.{w32}
use Rattle.std.specs.Int.RustNames.{FitsSigned}
use Rattle.std.proofs.lemmas.Int.{to_z-of_z}
use Rattle.reply_book.specs.Reached.{is_reached, reply_to_revision}
use Rattle.reply_book.proofs.BookLemmas.{revision-judged}
use Rattle.reply_book.proofs.book.Book.judge_revision.Goals as goal

-- The last day reached decides.
pub returns : goal.returns
returns c =
    let fits : FitsSigned w32 c.in-Revise.day = search rules in
    c.revision_reply.ensures ∙ ap reply_to_revision (c.is_reached.ensures
    ∙ ap (is_reached c.args.self.now.last_day) (to_z-of_z w32 c.in-Revise.day fits))
    ∙ revision-judged c.args.self.now c.args.touch.now c.in-Revise.digest c.in-Revise.day c.in-Revise.moment
    c.requires.stands c.in-Revise.is
