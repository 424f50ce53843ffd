-- Worked examples of what a running server prints.
use Rattle.std.proofs.Common.{◌≡◌, ℕ, true, false, [], ◌∷◌, Some, None, refl}
use Rattle.office_lines.specs.declared.ahead.TheConstants.{GATES}
use Rattle.office_lines.specs.declared.days.GateDay.{GateDay}
use Rattle.office_lines.specs.declared.notice.Notice.TheVariants.{AllTaken, Free}
use Rattle.office_lines.specs.Ahead.{told, told_at}
use Rattle.office_lines.specs.Looks.{told_at_look}

-- a touch of a gate on a fare day
abbrev pub on : ℕ → ℕ → GateDay
on gate day = record { gate = gate; day = day }

-- gate 7 touches on 2026-01-05, gate 9 in 2099, gate 7 on the next day, and gate 9 again: it is told once, when its
-- first touch is accepted
pub once : told (on 9 47118 ∷ on 7 20459 ∷ on 9 47118 ∷ on 7 20458 ∷ []) ≡ on 9 47118 ∷ []
once = refl

-- two days above the others aren't told, and three are
pub two-days : told_at (on 7 20458 ∷ on 8 20457 ∷ []) (on 7 20459) ≡ None
two-days = refl

pub three-days : told_at (on 7 20458 ∷ on 8 20457 ∷ []) (on 7 20460) ≡ Some (on 7 20460)
three-days = refl

-- a gate's number has 16 bits
pub gates : GATES ≡ 65_536
gates = refl

-- a single gate is ahead of nobody
pub alone : told (on 9 47118 ∷ on 9 20458 ∷ []) ≡ []
alone = refl

-- a gate whose touch came first is told once another gate has touched
pub later-than-first : told_at (on 9 47118 ∷ []) (on 7 20458) ≡ Some (on 9 47118)
later-than-first = refl

-- behind a gate that is ahead another one is told that is further ahead
pub two-gates : told (on 8 50000 ∷ on 7 20459 ∷ on 9 47118 ∷ on 7 20458 ∷ []) ≡ on 8 50000 ∷ on 9 47118 ∷ []
two-gates = refl

-- a gate that waits at one look alone isn't told; at two it is, and no gate at the next is told as well
pub a-moment : told_at_look (false ∷ []) true 8 ≡ None
a-moment = refl

pub taken : told_at_look (true ∷ false ∷ []) true 8 ≡ Some (AllTaken 8)
taken = refl

pub still-taken : told_at_look (true ∷ true ∷ []) true 8 ≡ None
still-taken = refl

pub free : told_at_look (true ∷ true ∷ []) false 8 ≡ Some Free
free = refl
