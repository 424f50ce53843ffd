-- How many connections of a rule may be open, and the bucket with which the next one begins (this
-- project's choice).
use Rattle.std.specs.Prelude.{ℕ, ◌+◌, ◌-◌, Bool, cond, nat_le, Option, Some, None}
use Rattle.door_clerk.specs.declared.bucket.Bucket.{Bucket}
use Rattle.door_clerk.specs.declared.rule.Rate.{Rate}
use Rattle.door_clerk.specs.Bucket.{burst_of, merged_bucket}

-- how many connections of a rule are open, of how many that may be, and the bucket with which the
-- next one begins
pub record PlacesState : Type 0 where
  pub taken : ℕ
  pub most : ℕ
  pub bucket : Bucket

-- how many connections of a rule are counted at most: none of a rule without a limit
abbrev pub counted_of : Option ℕ → ℕ
counted_of None = 0
counted_of (Some connections) = connections

-- the places of a rule by which nobody has entered: the bucket is full
abbrev pub fresh_places : Option ℕ → Option Rate → PlacesState
fresh_places connections rate = record {
  taken = 0;
  most = counted_of connections;
  bucket = record { level = burst_of rate; ticks = 0 };
}

-- as many connections are open as may be
abbrev pub is_full : PlacesState → Bool
is_full places = nat_le places.most places.taken

-- the bucket with which the next connection begins, if there is a place for it
abbrev pub next_bucket : PlacesState → Option Bucket
next_bucket places = cond (is_full places) None (Some places.bucket)

-- the same places, with one more connection open
abbrev pub with_one_more : PlacesState → PlacesState
with_one_more places = record {
  taken = places.taken + 1;
  most = places.most;
  bucket = places.bucket;
}

-- the places after a connection asked for one: it is open if there was a place for it
abbrev pub after_enter : PlacesState → PlacesState
after_enter places = cond (is_full places) places (with_one_more places)

-- the places after a connection has ended and left this bucket
abbrev pub after_leave : Option Rate → PlacesState → Bucket → PlacesState
after_leave rate places left = record {
  taken = places.taken - 1;
  most = places.most;
  bucket = merged_bucket rate places.bucket left;
}
