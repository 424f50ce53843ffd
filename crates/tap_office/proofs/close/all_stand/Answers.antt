use Rattle.std.proofs.Common.{subst, refl}
use Rattle.std.proofs.lemmas.List.Elements.{All-more, All-weaker}
use Rattle.std.proofs.lemmas.List.{take_all}
use Rattle.std.specs.List.{All}
use Rattle.reply_book.specs.Book.{entries_of}
use Rattle.tap_office.specs.Close.{IsReady, AreAtPlaces}
use Rattle.tap_office.proofs.close.all_stand.Goals as goal

pub loop-seat-preserved : goal.loop-seat-preserved
loop-seat-preserved g c =
    All-more (IsReady (entries_of c.args.book.now)) c.args.seats.now c.loop-seat.seat-index _ c.loop-seat-test.true
    c.loop-seat.invariant
    (subst (IsReady (entries_of c.args.book.now)) c.seat-item.is (c.if-not-stands.ensures.ready refl))

pub returns-clause-ready : goal.returns-clause-ready
returns-clause-ready g c =
    λ _. subst (All (IsReady (entries_of c.args.book.now)))
    (take_all c.loop-seat.seat-index c.args.seats.now c.loop-seat-test.false) c.loop-seat.invariant

pub returns-clause-stand : goal.returns-clause-stand
returns-clause-stand g c = (
  λ _. All-weaker (IsReady (entries_of c.args.book.now)) (AreAtPlaces (entries_of c.args.book.now))
      (λ l h. h.stands) c.args.seats.now
      (subst (All (IsReady (entries_of c.args.book.now)))
      (take_all c.loop-seat.seat-index c.args.seats.now c.loop-seat-test.false) c.loop-seat.invariant),
  λ _. refl,
)
