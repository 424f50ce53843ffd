-- Why a merged bucket is as full as the emptier of the two.
use Rattle.std.proofs.Common.{◌≡◌, ℕ, ◌+◌, ◌-◌, ◌*◌, ◌≤◌, min, ap, ◌∙◌, arith}
use Rattle.std.proofs.Common.{Option, Some, None}
use Rattle.std.proofs.Math.Nat.{add-mul}
use Rattle.door_clerk.specs.declared.rule.Rate.{Rate as TouchRate}
use Rattle.door_clerk.specs.declared.bucket.Bucket.{Bucket}
use Rattle.door_clerk.specs.declared.bucket.TheConstants.{TICKS_PER_SECOND}
use Rattle.door_clerk.specs.Bucket.{level_at, later_of, lower_at, merged_bucket, IsLowerOf}

-- what is gained in two stretches, one after the other, is what is gained in both
gained-twice : (was earlier later rate : ℕ) → was ≤ earlier → earlier ≤ later
    → (later - was) * rate ≡ (earlier - was) * rate + (later - earlier) * rate
gained-twice was earlier later rate a b =
    let whole : later - was ≡ (earlier - was) + (later - earlier) = omega arith in
    ap (λ n. n * rate) whole ∙ add-mul (earlier - was) (later - earlier) rate

-- what was more than the burst on the way is lost, whether or not it is read on the way
filled-twice : (level first second burst : ℕ)
    → min (level + (first + second)) burst ≡ min (min (level + first) burst + second) burst
filled-twice level first second burst = omega arith

-- a bucket that is read on the way gains the same
level-later : (rate : TouchRate) (bucket : Bucket) (earlier later : ℕ) → bucket.ticks ≤ earlier → earlier ≤ later
    → level_at rate bucket later
    ≡ min (level_at rate bucket earlier + (later - earlier) * rate.touches) (rate.burst * TICKS_PER_SECOND)
level-later rate bucket earlier later a b =
    ap (λ n. min (bucket.level + n) (rate.burst * TICKS_PER_SECOND))
    (gained-twice bucket.ticks earlier later rate.touches a b)
    ∙ filled-twice bucket.level ((earlier - bucket.ticks) * rate.touches) ((later - earlier) * rate.touches)
    (rate.burst * TICKS_PER_SECOND)

-- the emptier of two stays so while both gain the same
lower-gains : (one other gain burst : ℕ)
    → min (min one other + gain) burst ≡ min (min (one + gain) burst) (min (other + gain) burst)
lower-gains one other gain burst = omega arith

-- both buckets gain the same from the later of their times on
lower-later : (rate : TouchRate) (one other : Bucket) (ticks : ℕ) → later_of one other ≤ ticks
    → level_at rate (merged_bucket (Some rate) one other) ticks ≡ lower_at rate one other ticks
lower-later rate one other ticks since =
    let first = level-later rate one (later_of one other) ticks (omega arith) since in
    let second = level-later rate other (later_of one other) ticks (omega arith) since in
    let gained =
    lower-gains (level_at rate one (later_of one other)) (level_at rate other (later_of one other))
    ((ticks - later_of one other) * rate.touches) (rate.burst * TICKS_PER_SECOND) in
    omega (arith, first, second, gained)

pub merged-is-lower : (rate : Option TouchRate) (one other : Bucket)
    → IsLowerOf rate one other (merged_bucket rate one other)
merged-is-lower None one other = tt
merged-is-lower (Some rate) one other = lower-later rate one other
