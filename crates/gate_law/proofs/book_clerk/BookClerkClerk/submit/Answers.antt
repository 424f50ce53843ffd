use Rattle.std.proofs.Common.{◌≡◌, sym, ◌∙◌, subst}
use Rattle.reply_book.specs.declared.book.Book.{Book}
use Rattle.gate_session.specs.declared.answer.Answer.{Answer}
use Rattle.gate_session.specs.declared.request.Request.TheVariants as requests
use Rattle.gate_session.specs.Answers.{AnswerFits}
use Rattle.gate_law.specs.Station.{DoesAnswer, station_of}
use Rattle.gate_law.specs.BookClerk.{answer_for, HasCause, IsGivenBy}
use Rattle.gate_law.proofs.BookClerkLemmas.{touch-done, touch-caused}
use Rattle.gate_law.proofs.book_clerk.BookClerkClerk.submit.Goals as goal

-- What comes of the touch in the book is what its station does, and the answer tells it.
pub returns : goal.returns
returns g c =
    let old : Book = c.self.inside.book in
    let new : Book = c.answer-given.new.self in
    let given = c.answer-given.result in
    let same : c.fitting.result ≡ answer_for c.args.touch given =
    c.fitting.ensures.same ∙ c.answer_for.ensures in
    let done : IsGivenBy old (requests.Touch c.args.touch) c.fitting.result new = record {
      does =
          subst (λ (a : Answer). DoesAnswer (station_of old) (requests.Touch c.args.touch) a (station_of new))
          (sym same) (touch-done old new c.args.touch 1 given c.answer-given.ensures);
      fits = subst AnswerFits (sym c.fitting.ensures.same) c.fitting.ensures.fits;
      tells =
          subst (HasCause old c.args.touch) (sym same)
          (touch-caused old new c.args.touch 1 given c.answer-given.ensures);
    } in
    subst (λ (b : Book). IsGivenBy b (requests.Touch c.args.touch) c.fitting.result new) c.self.view_is done
