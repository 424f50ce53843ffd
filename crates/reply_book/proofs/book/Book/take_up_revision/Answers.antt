use Rattle.std.proofs.Common.{◌≡◌, rules, refl, sym, ap, ◌∙◌, subst, true, false, ◌<ℤ◌, ◌++◌, ◌∷◌, []}
use Rattle.fare_schedule.specs.Schedule.{revisions_of}
use Rattle.std.specs.Int.{w32}
use Rattle.std.specs.Int.RustNames.{FitsSigned}
use Rattle.std.proofs.Common.{to_z, of_z, ℤ}
use Rattle.std.proofs.lemmas.Int.{to_z-of_z}
use Rattle.reply_book.specs.Reached.{is_reached, reply_to_revision}
use Rattle.reply_book.proofs.BookLemmas.{revision-judged}
use Rattle.reply_book.proofs.ApplyLemmas.{last-below, refused-reached, accepted-free, revision-refused}
use Rattle.reply_book.proofs.ApplyLemmas.{revision-accepted}
use Rattle.reply_book.proofs.book.Book.take_up_revision.Goals as goal
use Rattle.reply_book.proofs.book.Book.take_up_revision.Goals.{After-is_accepted}

-- the day as the code has it
same-day : (c : After-is_accepted) → to_z w32 (of_z w32 c.in-Revise.day) ≡ c.in-Revise.day
same-day c = let fits : FitsSigned w32 c.in-Revise.day = search rules in to_z-of_z w32 c.in-Revise.day fits

-- the reply goes by the last day reached
judged : (c : After-is_accepted)
    → c.args.reply.now ≡ reply_to_revision (is_reached c.args.self.now.last_day c.in-Revise.day)
judged c =
    c.requires.judged
    ∙ sym (revision-judged c.args.self.now c.args.touch.now c.in-Revise.digest c.in-Revise.day c.in-Revise.moment
    c.requires.stands c.in-Revise.is)

pub returns-then-not-is_accepted : goal.returns-then-not-is_accepted
returns-then-not-is_accepted c =
    let here = (goal.at.returns-then-not-is_accepted c).After-is_accepted in
    let reached : is_reached c.args.self.now.last_day c.in-Revise.day ≡ true =
    refused-reached (is_reached c.args.self.now.last_day c.in-Revise.day) c.args.reply.now (judged here)
    (sym c.is_accepted.ensures ∙ c.if-not-is_accepted.true) in
    revision-refused c.args.self.now c.args.touch.now c.args.reply.now c.in-Revise.digest c.in-Revise.day
    c.in-Revise.moment c.requires.stands c.requires.revision c.in-Revise.is reached
    (judged here ∙ ap reply_to_revision reached)

-- where it was accepted, its day was not reached
free : (c : After-is_accepted) → c.is_accepted.result ≡ true
    → is_reached c.args.self.now.last_day c.in-Revise.day ≡ false
free c accepted =
    accepted-free (is_reached c.args.self.now.last_day c.in-Revise.day) c.args.reply.now (judged c)
    (sym c.is_accepted.ensures ∙ accepted)

pub revise-requires-clause-later : goal.revise-requires-clause-later
revise-requires-clause-later c x is =
    let here = (goal.at.revise-requires-clause-later c).After-is_accepted in
    subst (λ (d : ℤ). x <ℤ d) (sym (same-day here))
    (last-below c.args.self.now c.in-Revise.day x c.requires.stands (free here c.if-not-is_accepted.false) is)

pub returns : goal.returns
returns c =
    let here = (goal.at.returns c).After-is_accepted in
    revision-accepted c.args.self.now _ c.args.touch.now c.args.reply.now c.in-Revise.digest c.in-Revise.day
    c.in-Revise.moment c.requires.stands c.requires.revision c.in-Revise.is
    (free here c.if-not-is_accepted.false)
    (judged here ∙ ap reply_to_revision (free here c.if-not-is_accepted.false)) c.revise.ensures.tables
    (λ earlier below. c.revise.ensures.before earlier (subst (λ (d : ℤ). earlier <ℤ d) (sym (same-day here)) below))
    (c.revise.ensures.revisions
    ∙ ap (λ (d : ℤ). revisions_of c.args.self.now.schedule ++ record { digest = c.in-Revise.digest; day = d } ∷ [])
    (same-day here))
    refl refl refl
