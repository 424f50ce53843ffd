use Rattle.std.proofs.Common.{◌≡◌, suc, drop}
use Rattle.fare_schedule.specs.Places.{place_from}
use Rattle.fare_schedule.proofs.digest.place_among.Given as goal

-- none so far has the digest
abbrev pub invariant-loop-place : goal.invariant-loop-place
invariant-loop-place l = place_from 1 l.tables l.digest ≡ place_from (suc l.place) (drop l.place l.tables) l.digest
