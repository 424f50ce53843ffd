use Rattle.std.proofs.Common.{rules, arith, refl, ap, ◌∙◌, List, Some, inl}
use Rattle.oyster_account.specs.declared.touch.Touch.{Touch}
use Rattle.reply_book.specs.declared.entry.Entry.{Entry}
use Rattle.tap_desk.specs.LogPoints.{logged_at}
use Rattle.tap_office.specs.Receipt.{entry}
use Rattle.office_lines.proofs.PostLemmas.{filed}
use Rattle.office_lines.proofs.clerk.OfficeClerkClerk.submit.Goals as goal

-- the reply stands beside the touch in the receipt's log point, which the desk learns
pub returns-after-receipt : goal.returns-after-receipt
returns-after-receipt g c =
    let r = c.in-Ok.receipt in
    let files = c.in-Ok.ensures.files in
    let p = c.in-Ok.ensures.point in
    let before = c.args.self.now.seat.now in
    let after = c.submit.new.seat in
    let point : List Entry = logged_at r.point in (
      refl,
      refl,
      inl (record {
        point = point;
        legal = p.legal;
        begins = p.begins;
        place = r.place;
        reply = r.reply;
        seat = p.seat;
        stands = p.stands ∙ ap (λ (t : Touch). Some (entry t r.reply p.seat)) files.touch_is;
        seen = files.seen ∙ p.front_is;
        not_below = omega (arith, files.not_below, files.seen);
        goes_on = filed c.args.touch before after r files;
        learnt = c.learn.ensures.points;
        list = c.learn.ensures.list;
        is = c.reply.ensures;
      }),
      search rules,
    )
