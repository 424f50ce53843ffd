-- Why the laws of a door hold.
use Rattle.std.proofs.Common.{◌≡◌, inl, inr, ℕ, ◌+◌, ◌-◌, ◌*◌, ◌≤◌, true, false, List, [], ◌∷◌}
use Rattle.std.proofs.Common.{Option, Some, None, max, refl, sym, ap, subst, ◌∙◌, arith}
use Rattle.std.specs.Prelude.{All}
use Rattle.std.proofs.lemmas.Bool.{leb-true, le-leb}
use Rattle.std.proofs.lemmas.Bool.Decides.{nat_tests}
use Rattle.std.proofs.Math.Nat.{le-mul_of_pos_right, add-mul}
use Rattle.std.proofs.lemmas.List.Elements.{All-head, All-tail}
use Rattle.oyster_account.specs.declared.touch.Touch.{Touch}
use Rattle.oyster_account.specs.Touch.{moment_of}
use Rattle.gate_session.specs.declared.request.Request.{Request}
use Rattle.gate_session.specs.declared.request.Request.TheVariants as requests
use Rattle.gate_session.specs.declared.answer.Answer.{Answer}
use Rattle.gate_session.specs.Clerk.{IsRun}
use Rattle.door_clerk.specs.declared.rule.Rate.{Rate as TouchRate}
use Rattle.door_clerk.specs.declared.bucket.Bucket.{Bucket}
use Rattle.door_clerk.specs.declared.bucket.TheConstants.{TICKS_PER_SECOND}
use Rattle.door_clerk.specs.declared.reading.Clocks.{Clocks}
use Rattle.door_clerk.specs.declared.reading.Standing.{Standing}
use Rattle.door_clerk.specs.declared.reading.Standing.TheVariants.{Repeat, New}
use Rattle.door_clerk.specs.declared.refusal.DoorRefusal.{DoorRefusal}
use Rattle.door_clerk.specs.declared.refusal.DoorRefusal.TheVariants.{Kind, Gate, Rate, Ahead, Reserve}
use Rattle.door_clerk.specs.Rule.{Terms, is_near, leaves_reserve}
use Rattle.door_clerk.specs.Bucket.{has_token, level_at, bucket_after}
use Rattle.door_clerk.specs.Allowed.{IsAllowed, IsNamed, IsUnfitFor}
use Rattle.door_clerk.specs.Door.{DoorState, DoesAtDoor, IsPassed, IsStopped, IsKeptOut}
use Rattle.door_clerk.specs.Sorted.{AreSorted, IsSortedRun, IsPaced, touches_in}
use Rattle.door_clerk.specs.Laws.{StandsAsWell, AllowsAll, HasGate}

-- ---- later

-- a moment that was near enough stays so
near-later : (ahead : Option ℕ) (moment a b : ℕ) (was is : Standing) → a ≤ b → StandsAsWell was is
    → is_near ahead moment a was ≡ true → is_near ahead moment b is ≡ true
near-later ahead moment a b was Repeat grown stands near = refl
near-later ahead moment a b Repeat (New room) grown stands near = absurd stands
near-later None moment a b (New had) (New room) grown stands near = refl
near-later (Some most) moment a b (New had) (New room) grown stands near =
    let within : moment ≤ a + most = leb-true moment (a + most) near in
    le-leb moment (b + most) (omega arith)

-- a reserve that was left is left where there is no less room
room-later : (reserved : ℕ) (before later : Standing) → StandsAsWell before later
    → leaves_reserve reserved before ≡ true → leaves_reserve reserved later ≡ true
room-later reserved before Repeat stands left = refl
room-later reserved Repeat (New room) stands left = absurd stands
room-later reserved (New had) (New room) stands left = grind (arith, nat_tests)

pub later : (terms : Terms) (bucket then : Bucket) (touch : Touch) (before after : Clocks) (was is : Standing)
    → IsAllowed terms bucket touch before was → before.seconds ≤ after.seconds → StandsAsWell was is
    → has_token terms.rate then after.ticks ≡ true → IsAllowed terms then touch after is
later terms bucket then touch before after was is allowed grown stands token = record {
  named = allowed.named;
  token = token;
  fits = record {
    near =
        near-later terms.ahead (moment_of touch.act) before.seconds after.seconds was is grown stands
        allowed.fits.near;
    room = room-later terms.reserved was is stands allowed.fits.room;
  };
}

pub repeats : (terms : Terms) (bucket : Bucket) (touch : Touch) (clocks : Clocks) → IsNamed terms touch
    → has_token terms.rate bucket clocks.ticks ≡ true → IsAllowed terms bucket touch clocks Repeat
repeats terms bucket touch clocks named token = record {
  named = named;
  token = token;
  fits = record { near = refl; room = refl };
}

-- ---- a second

-- what a rate of at least one gains in so many ticks is no less than these
gained : (since touches : ℕ) → 1 ≤ touches → since ≤ since * touches
gained since touches some = le-mul_of_pos_right {m = touches} since (omega arith)

pub second : (rate : TouchRate) (bucket : Bucket) (ticks : ℕ) → 1 ≤ rate.touches → 1 ≤ rate.burst
    → bucket.ticks + TICKS_PER_SECOND ≤ ticks → has_token (Some rate) bucket ticks ≡ true
second rate bucket ticks touches burst since =
    let more = gained (ticks - bucket.ticks) rate.touches touches in
    le-leb TICKS_PER_SECOND (level_at rate bucket ticks) (omega (arith, more))

-- ---- kept out

module _ {C : Type 0} (gives : C → Request → Answer → C → Type 0) (shows : Clocks → Type 0)
    (stands : Touch → Standing → Type 0) (terms : Terms) where
  pub kept : (old new : DoorState C) (request : Request) (answer : Answer)
      → DoesAtDoor gives shows stands terms old request answer new
      → ((after : Bucket) → IsPassed shows stands terms old.bucket request after → ⊥)
      → (refusal : DoorRefusal) × IsStopped shows stands terms old.bucket request refusal
      × IsKeptOut old request answer new refusal
  kept old new request answer (inl (after, passed, through)) never = absurd (never after passed)
  kept old new request answer (inr stopped) never = stopped

  -- ---- sorted

  -- how requests are sorted behind one after which the bucket is this
  abbrev Behind : List Request → List Answer → List Request → List Answer → Bucket → Bucket → Type 0
  Behind requests answers through replies last bucket =
      AreSorted shows stands terms bucket requests answers through replies last

  unfoldable pub sorted : (requests : List Request) (answers : List Answer) (old new : DoorState C)
      → IsRun (DoesAtDoor gives shows stands terms) old requests answers new
      → IsSortedRun gives shows stands terms old new requests answers
  sorted [] [] old new is = record {
    through = [];
    replies = [];
    sorted = (refl, refl, ap (λ (d : DoorState C). d.bucket) is);
    run = ap (λ (d : DoorState C). d.clerk) is;
  }
  sorted [] (answer ∷ answers) old new is = absurd is
  sorted (request ∷ requests) [] old new is = absurd is
  sorted (request ∷ requests) (answer ∷ answers) old new (mid, inl (after, passed, through), rest) =
      let more = sorted requests answers mid new rest in
      record {
        through = request ∷ more.through;
        replies = answer ∷ more.replies;
        sorted =
            inr (
              after,
              more.through,
              more.replies,
              passed,
              refl,
              refl,
              subst (Behind requests answers more.through more.replies new.bucket) through.bucket more.sorted,
            );
        run = (mid.clerk, through.given, more.run);
      }
  sorted (request ∷ requests) (answer ∷ answers) old new (mid, inr (refusal, stopped, out), rest) =
      let more = sorted requests answers mid new rest in
      record {
        through = more.through;
        replies = more.replies;
        sorted =
            inl (
              refusal,
              stopped,
              out.is,
              subst (Behind requests answers more.through more.replies new.bucket) out.bucket more.sorted,
            );
        run = subst (λ (c : C). IsRun gives c more.through more.replies new.clerk) out.clerk more.run;
      }

-- ---- a session

module _ {C : Type 0} {S : Type 0} {D : Type 0} {R : Type 0} (gives : C → Request → Answer → C → Type 0)
    (shows : S → Clocks → Type 0) (stands : S → Touch → Standing → Type 0) (rule : D → R) (round : D → S)
    (terms : R → Terms) (state : D → DoorState C) (does : D → Request → Answer → D → Type 0)
    (is : (old new : D) (request : Request) (answer : Answer) → does old request answer new
    → (rule new ≡ rule old) × (round new ≡ round old)
    × DoesAtDoor gives (shows (round old)) (stands (round old)) (terms (rule old)) (state old) request answer
    (state new))
  where
    -- a run by this rule, with this round the door
    abbrev RunBy : R → S → D → List Request → List Answer → D → Type 0
    RunBy r s old requests answers new =
        IsRun (DoesAtDoor gives (shows s) (stands s) (terms r)) (state old) requests answers (state new)

    -- the rule and what is round the door stay, so a run of the door is a run by them
    door-run : (requests : List Request) (answers : List Answer) (old new : D) → IsRun does old requests answers new
        → RunBy (rule old) (round old) old requests answers new
    door-run [] [] old new same = ap state same
    door-run [] (answer ∷ answers) old new run = absurd run
    door-run (request ∷ requests) [] old new run = absurd run
    door-run (request ∷ requests) (answer ∷ answers) old new (mid, done, rest) =
        let step = is old mid request answer done in
        let then = door-run requests answers mid new rest in
        let by_rule = subst (λ (r : R). RunBy r (round mid) mid requests answers new) step.0 then in
        (state mid, step.2, subst (λ (s : S). RunBy (rule old) s mid requests answers new) step.1 by_rule)

    pub door-sorted : (requests : List Request) (answers : List Answer) (old new : D)
        → IsRun does old requests answers new
        → IsSortedRun gives (shows (round old)) (stands (round old)) (terms (rule old)) (state old) (state new) requests
        answers
    door-sorted requests answers old new run =
        sorted gives (shows (round old)) (stands (round old)) (terms (rule old)) requests answers (state old)
        (state new) (door-run requests answers old new run)

-- ---- all

-- with no number of seconds any moment is near
any-near : (standing : Standing) (moment seconds : ℕ) → is_near None moment seconds standing ≡ true
any-near Repeat moment seconds = refl
any-near (New room) moment seconds = refl

-- with no reserve any touch leaves it
any-room : (standing : Standing) → leaves_reserve 0 standing ≡ true
any-room Repeat = refl
any-room (New room) = refl

-- every touch fits, however it stands
none-unfit : (terms : Terms) (moment seconds : ℕ) (standing : Standing) (refusal : DoorRefusal)
    → AllowsAll terms → IsUnfitFor terms moment seconds standing refusal → ⊥
none-unfit terms moment seconds standing Kind all is = is
none-unfit terms moment seconds standing Gate all is = is
none-unfit terms moment seconds standing Rate all is = is
none-unfit terms moment seconds standing Ahead all is =
    let no : is_near None moment seconds standing ≡ false =
    subst (λ (a : Option ℕ). is_near a moment seconds standing ≡ false) all.ahead is in
    let yes = any-near standing moment seconds in
    cc
none-unfit terms moment seconds standing Reserve all is =
    let no : leaves_reserve 0 standing ≡ false =
    subst (λ (r : ℕ). leaves_reserve r standing ≡ false) all.reserved is.1 in
    let yes = any-room standing in
    cc

module _ {C : Type 0} (gives : C → Request → Answer → C → Type 0) (shows : Clocks → Type 0)
    (stands : Touch → Standing → Type 0) (terms : Terms)
    (all : AllowsAll terms) where
  -- no request is stopped
  none-stopped : (bucket : Bucket) (request : Request) (refusal : DoorRefusal) → HasGate request
      → IsStopped shows stands terms bucket request refusal → ⊥
  none-stopped bucket (requests.Touch touch) Kind has is = let yes = all.kinds (requests.Touch touch) in cc
  none-stopped bucket (requests.Touch touch) Gate has is = let yes = all.gates touch.gate has in cc
  none-stopped bucket (requests.Touch touch) Rate has is =
      let no : true ≡ false =
      subst (λ (r : Option TouchRate). has_token r bucket is.clocks.ticks ≡ false) all.rate is.token in
      cc
  none-stopped bucket (requests.Touch touch) Ahead has is =
      none-unfit terms (moment_of touch.act) is.clocks.seconds is.standing Ahead all is.unfit
  none-stopped bucket (requests.Touch touch) Reserve has is =
      none-unfit terms (moment_of touch.act) is.clocks.seconds is.standing Reserve all is.unfit
  none-stopped bucket (requests.Enquire card) refusal has is = let yes = all.kinds (requests.Enquire card) in cc

  -- each bucket stays as it is
  bucket-same : (bucket after : Bucket) (request : Request) → IsPassed shows stands terms bucket request after
      → after ≡ bucket
  bucket-same bucket after (requests.Touch touch) is =
      subst (λ (r : Option TouchRate). after ≡ bucket_after r bucket is.clocks.ticks) all.rate is.is
  bucket-same bucket after (requests.Enquire card) is = is.1

  pub through-all : (requests : List Request) (answers : List Answer) (old new : DoorState C) → All HasGate requests
      → IsRun (DoesAtDoor gives shows stands terms) old requests answers new
      → IsRun gives old.clerk requests answers new.clerk × (new.bucket ≡ old.bucket)
  through-all [] [] old new has is = (ap (λ (d : DoorState C). d.clerk) is, ap (λ (d : DoorState C). d.bucket) is)
  through-all [] (answer ∷ answers) old new has is = absurd is
  through-all (request ∷ requests) [] old new has is = absurd is
  through-all (request ∷ requests) (answer ∷ answers) old new has (mid, inl (after, passed, through), rest) =
      let more = through-all requests answers mid new (All-tail HasGate request requests has) rest in (
        (mid.clerk, through.given, more.0),
        more.1 ∙ through.bucket ∙ bucket-same old.bucket after request passed,
      )
  through-all (request ∷ requests) (answer ∷ answers) old new has (mid, inr (refusal, stopped, out), rest) =
      absurd (none-stopped old.bucket request refusal (All-head HasGate request requests has) stopped)

-- ---- the rate

-- the sum of two stretches
stretches : (taken level first second was earlier middle later rate : ℕ) → earlier ≤ middle → middle ≤ later
    → taken + level ≤ second + (later - middle) * rate → second + first ≤ was + (middle - earlier) * rate
    → (taken + first) + level ≤ was + (later - earlier) * rate
stretches taken level first second was earlier middle later rate a b more step =
    let whole : later - earlier ≡ (later - middle) + (middle - earlier) = omega arith in
    let parts : (later - earlier) * rate ≡ (later - middle) * rate + (middle - earlier) * rate =
    ap (λ n. n * rate) whole ∙ add-mul (later - middle) (middle - earlier) rate in
    omega (arith, parts)

-- a touch takes no more than was there, and was gained since
step-paced : (rate : TouchRate) (bucket : Bucket) (ticks : ℕ) → has_token (Some rate) bucket ticks ≡ true
    → (bucket_after (Some rate) bucket ticks).level + TICKS_PER_SECOND
    ≤ bucket.level + ((bucket_after (Some rate) bucket ticks).ticks - bucket.ticks) * rate.touches
step-paced rate bucket ticks token =
    let enough : TICKS_PER_SECOND ≤ level_at rate bucket ticks =
    leb-true TICKS_PER_SECOND (level_at rate bucket ticks) token in
    let since : max bucket.ticks ticks - bucket.ticks ≡ ticks - bucket.ticks = omega arith in
    let same : (max bucket.ticks ticks - bucket.ticks) * rate.touches ≡ (ticks - bucket.ticks) * rate.touches =
    ap (λ n. n * rate.touches) since in
    omega (arith, enough, same)

module _ (shows : Clocks → Type 0) (stands : Touch → Standing → Type 0) (terms : Terms) (rate : TouchRate)
    (is_rate : terms.rate ≡ Some rate) where
  -- the clock goes on, and what was taken is no more than was there, and was gained since
  abbrev Paced : Bucket → Bucket → ℕ → Type 0
  Paced before after touches =
      (before.ticks ≤ after.ticks)
      × (touches * TICKS_PER_SECOND + after.level ≤ before.level + (after.ticks - before.ticks) * rate.touches)

  pub paced : (requests : List Request) (answers : List Answer) (through : List Request) (replies : List Answer)
      (before after : Bucket) → AreSorted shows stands terms before requests answers through replies after
      → Paced before after (touches_in through)
  paced [] [] through replies before after (none, _, same) =
      subst (λ (b : Bucket). Paced before b (touches_in through)) (sym same)
      (subst (λ (l : List Request). Paced before before (touches_in l)) (sym none) (omega arith, omega arith))
  paced [] (answer ∷ answers) through replies before after is = absurd is
  paced (request ∷ requests) [] through replies before after is = absurd is
  paced (request ∷ requests) (answer ∷ answers) through replies before after (inl (refusal, stopped, told, rest)) =
      paced requests answers through replies before after rest
  paced (requests.Enquire card ∷ requests) (answer ∷ answers) through replies before after
      (inr (mid, more, later, passed, first, _, rest)) =
      let then = paced requests answers more later mid after rest in
      subst (λ (l : List Request). Paced before after (touches_in l)) (sym first)
      (subst (λ (b : Bucket). Paced b after (touches_in more)) passed.1 then)
  paced (requests.Touch touch ∷ requests) (answer ∷ answers) through replies before after
      (inr (mid, more, later, passed, first, _, rest)) =
      let then = paced requests answers more later mid after rest in
      let token =
      subst (λ (r : Option TouchRate). has_token r before passed.clocks.ticks ≡ true) is_rate passed.token in
      let is : mid ≡ bucket_after (Some rate) before passed.clocks.ticks =
      subst (λ (r : Option TouchRate). mid ≡ bucket_after r before passed.clocks.ticks) is_rate passed.is in
      let step : mid.level + TICKS_PER_SECOND ≤ before.level + (mid.ticks - before.ticks) * rate.touches =
      subst (λ (b : Bucket). b.level + TICKS_PER_SECOND ≤ before.level + (b.ticks - before.ticks) * rate.touches)
      (sym is) (step-paced rate before passed.clocks.ticks token) in
      let goes_on : before.ticks ≤ mid.ticks =
      subst (λ (b : Bucket). before.ticks ≤ b.ticks) (sym is) (omega arith) in
      let both =
      stretches (touches_in more * TICKS_PER_SECOND) after.level TICKS_PER_SECOND mid.level before.level before.ticks
      mid.ticks after.ticks rate.touches goes_on then.0 then.1 step in
      subst (λ (l : List Request). Paced before after (touches_in l)) (sym first) (omega arith, omega (arith, both))

  pub rate-kept : (requests : List Request) (answers : List Answer) (through : List Request) (replies : List Answer)
      (before after : Bucket) → AreSorted shows stands terms before requests answers through replies after
      → IsPaced rate before after (touches_in through)
  rate-kept requests answers through replies before after is =
      let all = (paced requests answers through replies before after is).1 in
      omega (arith, all)
