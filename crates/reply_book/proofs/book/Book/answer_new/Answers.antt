use Rattle.std.proofs.Common.{◌≡◌, ◌<◌, ℕ, true, false, List, ◌++◌, ◌∷◌, [], length, Err, sym, ap, ◌∙◌, arith}
use Rattle.std.proofs.lemmas.Result.{err_from_is_err_and}
use Rattle.station_limits.specs.declared.limits.TheConstants.{HISTORY_LIMIT}
use Rattle.reply_book.specs.declared.entry.Entry.{Entry}
use Rattle.reply_book.specs.declared.answering.AnswerFault.TheVariants.{Memory}
use Rattle.reply_book.specs.Tables.{Tables}
use Rattle.reply_book.specs.Legal.{history_of, judge_after}
use Rattle.reply_book.specs.declared.book.Book.{Book}
use Rattle.reply_book.specs.Book.{entries_of, cards_of, tables_of}
use Rattle.reply_book.specs.Answering.{IsAnswered}
use Rattle.reply_book.proofs.book.Book.answer_new.Goals as goal

-- Making room failed, so there was none, and it left the book.
pub returns-in_err-stamp : goal.returns-in_err-stamp
returns-in_err-stamp c =
    let p = err_from_is_err_and c.from_residual.result c.from_residual.ensures.1 in
    let few : length (entries_of c.args.self.now) < HISTORY_LIMIT =
    omega (arith, c.len.ensures.value, c.len.ensures.limited) in
    let kept : IsAnswered c.args.self.now c.args.touch.now c.args.seat (Err Memory) c.ready.new.self = record {
      outcome = (
        record { fresh = c.requires.new; known = sym c.knows.ensures ∙ c.if-not-knows.false },
        few,
        λ room. let none : false ≡ true = c.in_err-stamp.ensures.succeeds room in cc,
      );
      entries = c.in_err-stamp.ensures.entries;
      cards = c.in_err-stamp.ensures.cards;
      tables = c.in_err-stamp.ensures.tables;
      stands = c.in_err-stamp.ensures.stands c.requires.stands;
      room = omega (arith, c.in_err-stamp.ensures.room);
    } in
    rw (p.1, p.2) kept

-- A new touch is judged and entered after the entries, which making room left as they were.
pub returns : goal.returns
returns c =
    let old : Book = c.args.self.now in
    let readied : Book = c.ready.new.self in
    let same = c.in_ok-stamp.ensures in
    let entry : Entry = record { touch = c.args.touch.now; reply = c.add-place.result.1; seat = c.args.seat } in
    record {
      outcome = record {
        judged = record { fresh = c.requires.new; known = sym c.knows.ensures ∙ c.if-not-knows.false };
        few = omega (arith, c.len.ensures.value, c.len.ensures.limited);
        behind = c.add-place.ensures.place ∙ ap (λ (es : List Entry). length es) same.entries;
        judgement =
            c.add-place.ensures.reply
            ∙ ap (λ (ts : Tables). judge_after ts (cards_of readied) (history_of (entries_of readied)) c.args.touch.now)
            same.tables
            ∙ ap (λ (n : ℕ). judge_after (tables_of old) n (history_of (entries_of readied)) c.args.touch.now)
            same.cards
            ∙ ap (λ (es : List Entry). judge_after (tables_of old) (cards_of old) (history_of es) c.args.touch.now)
            same.entries;
      };
      entries = c.add-place.ensures.entries ∙ ap (λ (es : List Entry). es ++ entry ∷ []) same.entries;
      cards = c.add-place.ensures.cards ∙ same.cards;
      tables = c.add-place.ensures.tables ∙ same.tables;
      stands = c.add-place.ensures.stands;
      room = omega (arith, c.add-place.ensures.room, same.room);
    }
