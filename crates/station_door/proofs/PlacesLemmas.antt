-- Why the laws of a rule's places hold.
use Rattle.std.proofs.Common.{◌≡◌, ◌≤◌, ℕ, Option, Some, arith}
use Rattle.std.proofs.lemmas.Bool.Decides.{nat_tests}
use Rattle.door_clerk.specs.declared.bucket.Bucket.{Bucket}
use Rattle.door_clerk.specs.declared.rule.Rate.{Rate as TouchRate}
use Rattle.door_clerk.specs.Bucket.{later_of, level_at, merged_bucket}
use Rattle.door_clerk.proofs.BucketLemmas.{merged-is-lower}
use Rattle.station_door.specs.Places.{PlacesState, after_leave, next_bucket}

-- one place less is taken, so not all are
pub free-again : (rate : Option TouchRate) (places : PlacesState) (left : Bucket) → 1 ≤ places.taken
    → places.taken ≤ places.most
    → next_bucket (after_leave rate places left) ≡ Some (merged_bucket rate places.bucket left)
free-again rate places left some within = grind (arith, nat_tests)

-- the merged bucket is the emptier of the two
pub left-is-most : (rate : TouchRate) (places : PlacesState) (left : Bucket) (ticks : ℕ)
    → later_of places.bucket left ≤ ticks
    → level_at rate (after_leave (Some rate) places left).bucket ticks ≤ level_at rate left ticks
left-is-most rate places left ticks since =
    let lower = merged-is-lower (Some rate) places.bucket left ticks since in
    omega (arith, lower)

pub had-is-most : (rate : TouchRate) (places : PlacesState) (left : Bucket) (ticks : ℕ)
    → later_of places.bucket left ≤ ticks
    → level_at rate (after_leave (Some rate) places left).bucket ticks ≤ level_at rate places.bucket ticks
had-is-most rate places left ticks since =
    let lower = merged-is-lower (Some rate) places.bucket left ticks since in
    omega (arith, lower)
