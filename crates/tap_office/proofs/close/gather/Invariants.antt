use Rattle.std.proofs.Common.{◌≡◌, ◌+◌, ◌-◌, ◌^◌, length}
use Rattle.std.specs.List.{sum_by}
use Rattle.tap_office.specs.Seat.{SeatState}
use Rattle.tap_office.proofs.close.gather.Given as goal

abbrev pub invariant-loop-seat : goal.invariant-loop-seat
invariant-loop-seat g l =
    record {
      parts : l.share.parts + length l.seats.items ≡ length l.fn.seats.items;
      amount : l.share.amount + sum_by (λ (s : SeatState). length s.receipts) l.seats.items ≡ sum_by
          (λ (s : SeatState). length s.receipts) l.fn.seats.items;
      marks : l.mark.parts + length l.seats.items ≡ length l.fn.seats.items;
      weight : l.mark.amount + sum_by (λ (s : SeatState). 2 ^ (s.number - 1)) l.seats.items ≡ sum_by
          (λ (s : SeatState). 2 ^ (s.number - 1)) l.fn.seats.items;
    }

abbrev pub decreases-loop-seat : goal.decreases-loop-seat
decreases-loop-seat g l = length l.seats.items
