-- A gate and its station, seen together: what both keep, what was written between them, and what
-- the gate's caller was told (PROTOCOL.md, "Names and repeats"; this project's choice).
use Rattle.std.specs.Prelude.{◌≡◌, ℕ, ◌==◌, Bool, true, false, not, List, [], ◌∷◌, ◌++◌, filter}
use Rattle.std.specs.Prelude.{Option, Some, None, slice_get}
use Rattle.oyster_account.specs.declared.touch.Touch.{Touch}
use Rattle.oyster_account.specs.declared.reply.Judged.{Judged}
use Rattle.reply_book.specs.declared.entry.Entry.{Entry}
use Rattle.reply_book.specs.Tables.{Tables}
use Rattle.gate_session.specs.declared.answer.Answer.{Answer}

-- the touches that the gate keeps, oldest first, one that it gave up once more right behind itself,
-- and whether the last of them waits for its reply; the touches whose frames were written to the
-- station, by this gate and by others; the station's fare tables and its history; the answers whose
-- frames it wrote; and the touches of which the gate's caller was told that they are done, each
-- with the reply that it was told
pub record Joint : Type 0 where
  pub asked : List Touch
  pub waits : Bool
  pub sent : List Touch
  pub tables : Tables
  pub history : List Entry
  pub answers : List Answer
  pub told : List Judged

-- the touches of one gate among these, in their order
abbrev pub of_gate : ℕ → List Touch → List Touch
of_gate gate touches = filter (λ touch. touch.gate == gate) touches

-- there is a touch, and this is its number
abbrev pub has_number : ℕ → Option Touch → Bool
has_number number (Some touch) = touch.number == number
has_number number None = false

-- the gate has given up the touch of this number: it keeps that touch once more, in the place of
-- the next number
abbrev pub is_given_up : List Touch → ℕ → Bool
is_given_up asked number = has_number number (slice_get asked number)

-- those of these touches that a gate with this file hasn't given up, in their order
abbrev pub not_given_up : List Touch → List Touch → List Touch
not_given_up asked touches = filter (λ touch. not (is_given_up asked touch.number)) touches

-- the touch is the last that the gate keeps, and waits
pub record IsWaiting (s : Joint) (touch : Touch) : Type 0 where
  pub earlier : List Touch
  pub last : s.asked ≡ earlier ++ touch ∷ []
  pub waits : s.waits ≡ true
