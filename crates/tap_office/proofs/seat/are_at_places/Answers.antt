use Rattle.std.proofs.Common.{subst, refl}
use Rattle.std.proofs.lemmas.List.Elements.{All-more}
use Rattle.std.proofs.lemmas.List.{take_all}
use Rattle.std.specs.List.{All}
use Rattle.reply_book.specs.Book.{entries_of}
use Rattle.tap_office.specs.Close.{IsAtPlace}
use Rattle.tap_office.proofs.seat.are_at_places.Goals as goal

pub loop-filed-preserved : goal.loop-filed-preserved
loop-filed-preserved c =
    All-more (IsAtPlace (entries_of c.args.book.now) c.args.number) c.args.receipts.now c.loop-filed.filed-index _
    c.loop-filed-test.true c.loop-filed.invariant (c.if-not-is_at_place.ensures.0 refl)

pub returns : goal.returns
returns c = (
  λ _. subst (All (IsAtPlace (entries_of c.args.book.now) c.args.number))
      (take_all c.loop-filed.filed-index c.args.receipts.now c.loop-filed-test.false) c.loop-filed.invariant,
  λ _. refl,
)
