-- What contracts see of a seat (OFFICE.md, "Seats and receipts"; this project's choice).
use Rattle.std.specs.Prelude.{ℕ, ◌+◌, List, [], ◌∷◌, ◌++◌, Bool, ◌&&◌, nat_le}
use Rattle.tap_office.specs.declared.receipt.Filed.{Filed}

-- a seat's number from 1 on, the largest front that it was answered, and its receipts, oldest first
pub record SeatState : Type 0 where
  pub number : ℕ
  pub seen : ℕ
  pub receipts : List Filed

-- a seat without receipts, which was answered nothing
abbrev pub fresh_seat : ℕ → SeatState
fresh_seat number = record { number = number; seen = 0; receipts = [] }

-- the seat with a new touch's receipt put last, which is the last that it has seen
abbrev pub with_receipt : SeatState → Filed → SeatState
with_receipt seat filed = record {
  number = seat.number;
  seen = filed.place + 1;
  receipts = seat.receipts ++ filed ∷ [];
}

-- the receipts' places rise, from the lower bound on, and stay below the upper one
abbrev pub rises : ℕ → ℕ → List Filed → Bool
rises low high [] = nat_le low high
rises low high (filed ∷ later) = nat_le low filed.place && rises (filed.place + 1) high later
