-- Worked examples, computed by the definitions: a rule of a barrier's gates, what it allows and refuses, its bucket,
-- and each law once on real values.
use Rattle.std.proofs.Common.{◌≡◌, inl, inr, ℕ, ◌+◌, pos, true, false, List, [], ◌∷◌, Some, None, refl}
use Rattle.std.proofs.Common.{◌<◌, ◌^◌, arith}
use Rattle.std.proofs.lemmas.Bool.Decides.{nat_tests}
use Rattle.std.proofs.lemmas.List.Elements.{All-nil, All-cons}
use Rattle.oyster_account.specs.declared.touch.Act.{Act}
use Rattle.oyster_account.specs.declared.touch.Act.TheVariants.{Enter, Leave, TopUp, Issue, Revise}
use Rattle.oyster_account.specs.declared.touch.Touch.{Touch}
use Rattle.gate_session.specs.declared.request.Request.{Request}
use Rattle.gate_session.specs.declared.request.Request.TheVariants as requests
use Rattle.gate_session.specs.declared.answer.Answer.{Answer}
use Rattle.gate_session.specs.declared.answer.Answer.TheVariants as answers
use Rattle.gate_session.specs.Clerk.{IsRun}
use Rattle.door_clerk.specs.declared.rule.Kinds.{Kinds}
use Rattle.door_clerk.specs.declared.rule.Rate.{Rate as TouchRate}
use Rattle.door_clerk.specs.declared.bucket.Bucket.{Bucket}
use Rattle.door_clerk.specs.declared.bucket.TheConstants.{TICKS_PER_SECOND}
use Rattle.door_clerk.specs.declared.reading.Clocks.{Clocks}
use Rattle.door_clerk.specs.declared.reading.Standing.{Standing}
use Rattle.door_clerk.specs.declared.reading.Standing.TheVariants.{Repeat, New}
use Rattle.door_clerk.specs.declared.refusal.DoorRefusal.TheVariants.{Kind, Gate, Ahead, Reserve}
use Rattle.door_clerk.specs.Rule.{Terms, allows_act, allows_gate, allows_kind, is_near, leaves_reserve}
use Rattle.door_clerk.specs.Bucket.{burst_of, has_token, level_at, bucket_after, merged_bucket}
use Rattle.door_clerk.specs.Allowed.{IsAllowed, IsBarredFor, IsTooFast, IsUnfitFor}
use Rattle.door_clerk.specs.Door.{DoorState, DoesAtDoor, IsPassed, IsStopped, IsKeptOut, door_state}
use Rattle.door_clerk.specs.Sorted.{IsPaced, IsSortedRun, touches_in}
use Rattle.door_clerk.specs.Laws.{AllowsAll, HasGate}
use Rattle.door_clerk.proofs.BucketLemmas.{merged-is-lower}
use Rattle.door_clerk.proofs.DoorLemmas.{later, repeats, second, kept, sorted, through-all, rate-kept}

-- ticks are milliseconds
a_second_has : TICKS_PER_SECOND ≡ 1_000
a_second_has = refl

-- gates 1 to 20 and 40 may send touches in and out, and enquiries
abbrev passages : Kinds
passages = record {
  enter = true;
  leave = true;
  top_up = false;
  issue = false;
  revise = false;
  enquire = true;
}

-- five touches a second for long, ten at once
abbrev five : TouchRate
five = record { touches = 5; burst = 10 }

-- a barrier's rule: a minute ahead, and the last hundred touches of the journal are for others
abbrev barrier : Terms
barrier = record {
  gates = record { first = 1; last = 20 } ∷ record { first = 40; last = 40 } ∷ [];
  kinds = passages;
  ahead = Some 60;
  rate = Some five;
  reserved = 100;
}

-- a touch in at station 3
abbrev entry : ℕ → ℕ → Touch
entry gate moment = record { gate = gate; number = 9; card = 8; act = Enter 3 moment }

-- a revision of fares
abbrev revision : Touch
revision = record { gate = 7; number = 10; card = 0; act = Revise (pos 20_000) 1_000 [] }

-- the server's clock has 1000 seconds, and the other clock 5000 ticks
abbrev now : Clocks
now = record { seconds = 1_000; ticks = 5_000 }

-- the clocks show this at each touch, and each is new
abbrev shows : Clocks → Type 0
shows clocks = clocks ≡ now

abbrev stands : Touch → Standing → Type 0
stands touch standing = standing ≡ New 101

-- ---- kinds and gate numbers

no_revision : allows_act barrier.kinds revision.act ≡ false
no_revision = refl

no_top_up : allows_act barrier.kinds (TopUp 500 1_000) ≡ false
no_top_up = refl

no_issue : allows_act barrier.kinds (Issue 1_000) ≡ false
no_issue = refl

a_touch_out : allows_act barrier.kinds (Leave 3 1_000) ≡ true
a_touch_out = refl

gates : (allows_gate barrier.gates 1 ≡ true) × (allows_gate barrier.gates 20 ≡ true)
    × (allows_gate barrier.gates 40 ≡ true)
gates = (refl, refl, refl)

no_gates : (allows_gate barrier.gates 0 ≡ false) × (allows_gate barrier.gates 21 ≡ false)
    × (allows_gate barrier.gates 39 ≡ false) × (allows_gate barrier.gates 41 ≡ false) × (allows_gate [] 1 ≡ false)
no_gates = (refl, refl, refl, refl, refl)

-- ---- moments

near : (is_near (Some 60) 1_060 1_000 (New 500) ≡ true) × (is_near (Some 60) 0 1_000 (New 500) ≡ true)
    × (is_near None 4_294_967_295 1_000 (New 500) ≡ true) × (is_near (Some 60) 4_294_967_295 1_000 Repeat ≡ true)
near = (refl, refl, refl, refl)

too_far : is_near (Some 60) 1_061 1_000 (New 500) ≡ false
too_far = refl

-- ---- the reserve

left : (leaves_reserve 100 (New 101) ≡ true) × (leaves_reserve 100 Repeat ≡ true) × (leaves_reserve 0 (New 0) ≡ true)
left = (refl, refl, refl)

not_left : (leaves_reserve 100 (New 100) ≡ false) × (leaves_reserve 100 (New 0) ≡ false)
not_left = (refl, refl)

-- ---- the bucket

abbrev level : ℕ → Bucket
level units = record { level = units; ticks = 5_000 }

full : burst_of (Some five) ≡ 10_000
full = refl

-- it gains five a tick, and no more than its burst; a clock that went back adds nothing
levels : (level_at five (level 9_000) 5_100 ≡ 9_500) × (level_at five (level 9_000) 5_300 ≡ 10_000)
    × (level_at five (level 9_000) 4_000 ≡ 9_000)
levels = (refl, refl, refl)

tokens : (has_token (Some five) (level 1_000) 5_000 ≡ true) × (has_token (Some five) (level 999) 5_000 ≡ false)
    × (has_token (Some five) (level 0) 5_199 ≡ false) × (has_token (Some five) (level 0) 5_200 ≡ true)
    × (has_token None (level 0) 5_000 ≡ true)
tokens = (refl, refl, refl, refl, refl)

-- a touch takes as much as a second has ticks
taken : (bucket_after (Some five) (level 9_000) 5_100 ≡ record { level = 8_500; ticks = 5_100 })
    × (bucket_after (Some five) (level 9_000) 4_000 ≡ level 8_000)
    × (bucket_after None (level 9_000) 5_100 ≡ level 9_000)
taken = (refl, refl, refl)

-- a connection that sent nothing since 5000 ticks, and one that took all at 6000: the bucket stays empty, whichever of
-- them ends first; one that was emptied at 5000 has 5000 at 6000, and takes nothing of what the other one has then
abbrev emptied : Bucket
emptied = record { level = 0; ticks = 6_000 }

merged : (merged_bucket (Some five) (level 10_000) emptied ≡ emptied)
    × (merged_bucket (Some five) emptied (level 10_000) ≡ emptied)
    × (merged_bucket (Some five) (level 0) (record { level = 9_000; ticks = 6_000 })
    ≡ record { level = 5_000; ticks = 6_000 })
    × (merged_bucket (Some five) (level 0) (record { level = 4_000; ticks = 6_000 })
    ≡ record { level = 4_000; ticks = 6_000 })
    × (merged_bucket None (level 0) emptied ≡ level 0)
merged = (refl, refl, refl, refl, refl)

-- a second later the merged bucket is as full as the emptier of the two: the other one would be full
merged_later : level_at five (merged_bucket (Some five) (level 0) emptied) 7_000 ≡ 5_000
merged_later = merged-is-lower (Some five) (level 0) emptied 7_000 (omega arith)

-- ---- what is allowed, and why something isn't

allowed : IsAllowed barrier (level 1_000) (entry 7 1_060) now (New 101)
allowed = record {
  named = record { kind = refl; gate = refl };
  token = refl;
  fits = record { near = refl; room = refl };
}

by_its_kind : IsBarredFor barrier revision Kind
by_its_kind = refl

by_its_gate : IsBarredFor barrier (entry 21 1_000) Gate
by_its_gate = (refl, refl)

by_the_rate : IsTooFast shows stands barrier (level 999) (entry 7 1_000)
by_the_rate = record { clocks = now; shown = refl; named = record { kind = refl; gate = refl }; token = refl }

by_its_moment : IsUnfitFor barrier 1_061 1_000 (New 0) Ahead
by_its_moment = refl

by_the_reserve : IsUnfitFor barrier 1_000 1_000 (New 100) Reserve
by_the_reserve = (refl, refl)

-- ---- a clerk that counts its requests, and answers each by its count

abbrev counted : ℕ → Answer
counted count = answers.Fault 0 0 count

abbrev gives : ℕ → Request → Answer → ℕ → Type 0
gives old request answer new = (answer ≡ counted old) × (new ≡ old + 1)

abbrev begun : DoorState ℕ
begun = door_state (level 2_000) None 0

-- ---- the laws, each on real values

-- a touch that was allowed for its room is allowed as a repeat two minutes later, when the journal is full
abbrev later_on : Clocks
later_on = record { seconds = 1_120; ticks = 125_000 }

allowed_later : IsAllowed barrier (level 0) (entry 7 1_060) later_on Repeat
allowed_later =
    later barrier (level 1_000) (level 0) (entry 7 1_060) now later_on (New 101) Repeat allowed (omega arith) tt refl

-- so is one whose moment is a thousand years ahead of the server's clock, which was set back
allowed_again : IsAllowed barrier (level 0) (entry 7 4_294_967_295) later_on Repeat
allowed_again =
    repeats barrier (level 0) (entry 7 4_294_967_295) later_on (record { kind = refl; gate = refl }) refl

-- at one touch a second an empty bucket has a token after a second
a_second_later : has_token (Some (record { touches = 1; burst = 1 })) (level 0) 6_000 ≡ true
a_second_later =
    second (record { touches = 1; burst = 1 }) (level 0) 6_000 (omega arith) (omega arith) (omega arith)

-- the revision is kept out, and the clerk has counted nothing
out : DoesAtDoor gives shows stands barrier begun (requests.Touch revision) (answers.Fault 7 7 10)
    (door_state (level 2_000) (Some Kind) 0)
out = inr (Kind, refl, record { is = refl; clerk = refl; bucket = refl; last = refl })

never : (after : Bucket) → IsPassed shows stands barrier (level 2_000) (requests.Touch revision) after → ⊥
never after is = let no : false ≡ true = is.named.kind in cc

out_is_kept : (refusal : _) × IsStopped shows stands barrier (level 2_000) (requests.Touch revision) refusal
    × IsKeptOut begun (requests.Touch revision) (answers.Fault 7 7 10) (door_state (level 2_000) (Some Kind) 0) refusal
out_is_kept =
    kept gives shows stands barrier begun (door_state (level 2_000) (Some Kind) 0) (requests.Touch revision)
    (answers.Fault 7 7 10) out never

-- a touch in, a revision and an enquiry: the clerk is given the first and the last
abbrev asked : List Request
asked = requests.Touch (entry 7 1_060) ∷ requests.Touch revision ∷ requests.Enquire 8 ∷ []

abbrev told : List Answer
told = counted 0 ∷ answers.Fault 7 7 10 ∷ counted 1 ∷ []

abbrev ended : DoorState ℕ
ended = door_state (level 1_000) None 2

run : IsRun (DoesAtDoor gives shows stands barrier) begun asked told ended
run = (
  door_state (level 1_000) None 1,
  inl (
    level 1_000,
    record {
      clocks = now;
      shown = refl;
      named = record { kind = refl; gate = refl };
      token = refl;
      fits = inr (New 101, refl, record { near = refl; room = refl });
      is = refl;
    },
    record { given = (refl, refl); bucket = refl; last = refl },
  ),
  (
    door_state (level 1_000) (Some Kind) 1,
    inr (Kind, refl, record { is = refl; clerk = refl; bucket = refl; last = refl }),
    (ended, inl (level 1_000, (refl, refl), record { given = (refl, refl); bucket = refl; last = refl }), refl),
  ),
)

run_is_sorted : IsSortedRun gives shows stands barrier begun ended asked told
run_is_sorted = sorted gives shows stands barrier asked told begun ended run

through_is : run_is_sorted.through ≡ requests.Touch (entry 7 1_060) ∷ requests.Enquire 8 ∷ []
unfolding run_is_sorted sorted run
through_is = refl

-- the one touch of these took no more than was in the bucket
run_is_paced : IsPaced five (level 2_000) (level 1_000) (touches_in run_is_sorted.through)
run_is_paced =
    rate-kept shows stands barrier five refl asked told run_is_sorted.through run_is_sorted.replies (level 2_000)
    (level 1_000) run_is_sorted.sorted

-- a rule that allows all
abbrev all : Terms
all = record {
  gates = record { first = 0; last = 65_535 } ∷ [];
  kinds = record { enter = true; leave = true; top_up = true; issue = true; revise = true; enquire = true };
  ahead = None;
  rate = None;
  reserved = 0;
}

all_kinds : (request : Request) → allows_kind all.kinds request ≡ true
all_kinds (requests.Touch touch) = of_act touch.act
  where
    of_act : (act : Act) → allows_act all.kinds act ≡ true
    of_act (Enter station moment) = refl
    of_act (Leave station moment) = refl
    of_act (TopUp pence moment) = refl
    of_act (Issue moment) = refl
    of_act (Revise day moment digest) = refl
all_kinds (requests.Enquire card) = refl

all_gates : (gate : ℕ) → gate < 2 ^ 16 → allows_gate all.gates gate ≡ true
all_gates gate few = grind (arith, nat_tests)

allows_all : AllowsAll all
allows_all = record { kinds = all_kinds; gates = all_gates; ahead = refl; rate = refl; reserved = refl }

-- by that rule the revision reaches the clerk, from whichever gate and into the last place of the journal
abbrev two : DoorState ℕ
two = door_state (level 0) None 2

open_run : IsRun (DoesAtDoor gives shows stands all) (door_state (level 0) None 0)
    (requests.Touch revision ∷ requests.Enquire 8 ∷ []) (counted 0 ∷ counted 1 ∷ []) two
open_run = (
  door_state (level 0) None 1,
  inl (
    level 0,
    record {
      clocks = now;
      shown = refl;
      named = record { kind = refl; gate = refl };
      token = refl;
      fits = inr (New 101, refl, record { near = refl; room = refl });
      is = refl;
    },
    record { given = (refl, refl); bucket = refl; last = refl },
  ),
  (two, inl (level 0, (refl, refl), record { given = (refl, refl); bucket = refl; last = refl }), refl),
)

all_reach_the_clerk : IsRun gives 0 (requests.Touch revision ∷ requests.Enquire 8 ∷ []) (counted 0 ∷ counted 1 ∷ []) 2
all_reach_the_clerk =
    (through-all gives shows stands all allows_all (requests.Touch revision ∷ requests.Enquire 8 ∷ [])
    (counted 0 ∷ counted 1 ∷ []) (door_state (level 0) None 0) two
    (All-cons HasGate (requests.Touch revision) (requests.Enquire 8 ∷ []) (omega arith)
    (All-cons HasGate (requests.Enquire 8) [] tt (All-nil HasGate))) open_run).0
