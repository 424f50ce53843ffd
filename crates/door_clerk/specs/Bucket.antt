-- A token bucket in ticks: it gains one for each tick and each touch a second of its rate, up to
-- its burst, and a touch takes as many as a second has ticks (this project's choice).
use Rattle.std.specs.Prelude.{◌≡◌, ◌≤◌, ℕ, ◌+◌, ◌-◌, ◌*◌, Bool, true, nat_le, min, max}
use Rattle.std.specs.Prelude.{Option, Some, None}
use Rattle.door_clerk.specs.declared.rule.Rate.{Rate}
use Rattle.door_clerk.specs.declared.bucket.Bucket.{Bucket}
use Rattle.door_clerk.specs.declared.bucket.TheConstants.{TICKS_PER_SECOND}

-- what is in a full bucket: as much as its burst of touches takes
abbrev pub burst_of : Option Rate → ℕ
burst_of None = 0
burst_of (Some rate) = rate.burst * TICKS_PER_SECOND

-- what is in the bucket at this time: what was in it, and what it gained since, up to its burst
abbrev pub level_at : Rate → Bucket → ℕ → ℕ
level_at rate bucket ticks =
    min (bucket.level + (ticks - bucket.ticks) * rate.touches) (rate.burst * TICKS_PER_SECOND)

-- the bucket has enough for a touch
abbrev pub has_token : Option Rate → Bucket → ℕ → Bool
has_token None bucket ticks = true
has_token (Some rate) bucket ticks = nat_le TICKS_PER_SECOND (level_at rate bucket ticks)

-- the bucket after a touch at this time
abbrev pub bucket_after : Option Rate → Bucket → ℕ → Bucket
bucket_after None bucket ticks = bucket
bucket_after (Some rate) bucket ticks = record {
  level = level_at rate bucket ticks - TICKS_PER_SECOND;
  ticks = max bucket.ticks ticks;
}

-- the later of the times at which the two buckets were used last
abbrev pub later_of : Bucket → Bucket → ℕ
later_of one other = max one.ticks other.ticks

-- what is in the emptier of the two buckets at this time
abbrev pub lower_at : Rate → Bucket → Bucket → ℕ → ℕ
lower_at rate one other ticks = min (level_at rate one ticks) (level_at rate other ticks)

-- one bucket for two that began as one: what is in the emptier of them at the later of their times
abbrev pub merged_bucket : Option Rate → Bucket → Bucket → Bucket
merged_bucket None one other = one
merged_bucket (Some rate) one other = record {
  level = lower_at rate one other (later_of one other);
  ticks = later_of one other;
}

-- from the later of their times on the merged bucket is as full as the emptier of the two
abbrev pub IsLowerOf : Option Rate → Bucket → Bucket → Bucket → Type 0
IsLowerOf None one other merged = Unit {0}
IsLowerOf (Some rate) one other merged =
    (ticks : ℕ) → later_of one other ≤ ticks
    → level_at rate merged ticks ≡ lower_at rate one other ticks
