-- Which touches are allowed, and for which reason one isn't (this project's choice).
use Rattle.std.specs.Prelude.{◌≡◌, ◌⊎◌, ℕ, true, false}
use Rattle.oyster_account.specs.declared.touch.Touch.{Touch}
use Rattle.oyster_account.specs.Touch.{moment_of}
use Rattle.door_clerk.specs.declared.bucket.Bucket.{Bucket}
use Rattle.door_clerk.specs.declared.reading.Clocks.{Clocks}
use Rattle.door_clerk.specs.declared.reading.Standing.{Standing}
use Rattle.door_clerk.specs.declared.refusal.DoorRefusal.{DoorRefusal}
use Rattle.door_clerk.specs.declared.refusal.DoorRefusal.TheVariants.{Kind, Gate, Rate, Ahead}
use Rattle.door_clerk.specs.declared.refusal.DoorRefusal.TheVariants.{Reserve}
use Rattle.door_clerk.specs.Rule.{Terms, allows_act, allows_gate, is_near, leaves_reserve}
use Rattle.door_clerk.specs.Bucket.{has_token, bucket_after}

-- the touch is of an allowed kind and gate number
pub record IsNamed (terms : Terms) (touch : Touch) : Type 0 where
  pub kind : allows_act terms.kinds touch.act ≡ true
  pub gate : allows_gate terms.gates touch.gate ≡ true

-- a touch of this moment that stands so is near enough, and leaves the reserve
pub record IsFitting (terms : Terms) (moment seconds : ℕ) (standing : Standing) : Type 0 where
  pub near : is_near terms.ahead moment seconds standing ≡ true
  pub room : leaves_reserve terms.reserved standing ≡ true

-- the touch is allowed when the clocks show this, and it stands so
pub record IsAllowed (terms : Terms) (bucket : Bucket) (touch : Touch) (clocks : Clocks)
    (standing : Standing) : Type 0 where
  pub named : IsNamed terms touch
  pub token : has_token terms.rate bucket clocks.ticks ≡ true
  pub fits : IsFitting terms (moment_of touch.act) clocks.seconds standing

-- this is the first reason why the touch is never allowed, whatever is read
abbrev pub IsBarredFor : Terms → Touch → DoorRefusal → Type 0
IsBarredFor terms touch Kind = allows_act terms.kinds touch.act ≡ false
IsBarredFor terms touch Gate =
    (allows_act terms.kinds touch.act ≡ true) × (allows_gate terms.gates touch.gate ≡ false)
IsBarredFor terms touch Rate = ⊥
IsBarredFor terms touch Ahead = ⊥
IsBarredFor terms touch Reserve = ⊥

-- this is the first reason why a touch of this moment isn't allowed as it stands
abbrev pub IsUnfitFor : Terms → ℕ → ℕ → Standing → DoorRefusal → Type 0
IsUnfitFor terms moment seconds standing Kind = ⊥
IsUnfitFor terms moment seconds standing Gate = ⊥
IsUnfitFor terms moment seconds standing Rate = ⊥
IsUnfitFor terms moment seconds standing Ahead =
    is_near terms.ahead moment seconds standing ≡ false
IsUnfitFor terms moment seconds standing Reserve =
    (is_near terms.ahead moment seconds standing ≡ true)
    × (leaves_reserve terms.reserved standing ≡ false)

module _ (shows : Clocks → Type 0) (stands : Touch → Standing → Type 0) (terms : Terms)
    (bucket : Bucket) (touch : Touch) where
  -- the touch fits as it stands, or however it stands
  abbrev pub Fits : Clocks → Type 0
  Fits clocks =
      ((standing : Standing) → IsFitting terms (moment_of touch.act) clocks.seconds standing)
      ⊎ ((standing : Standing) × stands touch standing
      × IsFitting terms (moment_of touch.act) clocks.seconds standing)

  -- the touch is allowed at what is read, and this is the bucket after it
  pub record IsAdmitted (after : Bucket) : Type 0 where
    pub clocks : Clocks
    pub shown : shows clocks
    pub named : IsNamed terms touch
    pub token : has_token terms.rate bucket clocks.ticks ≡ true
    pub fits : Fits clocks
    pub is : after ≡ bucket_after terms.rate bucket clocks.ticks

  -- the touch comes too fast by what the clocks show
  pub record IsTooFast : Type 0 where
    pub clocks : Clocks
    pub shown : shows clocks
    pub named : IsNamed terms touch
    pub token : has_token terms.rate bucket clocks.ticks ≡ false

  -- there is a token for the touch, but it isn't allowed as it stands, for this reason
  pub record IsUnfit (refusal : DoorRefusal) : Type 0 where
    pub clocks : Clocks
    pub shown : shows clocks
    pub named : IsNamed terms touch
    pub token : has_token terms.rate bucket clocks.ticks ≡ true
    pub standing : Standing
    pub stood : stands touch standing
    pub unfit : IsUnfitFor terms (moment_of touch.act) clocks.seconds standing refusal

  -- the touch isn't allowed, first of all for this reason
  abbrev pub IsRefusedFor : DoorRefusal → Type 0
  IsRefusedFor Kind = IsBarredFor terms touch Kind
  IsRefusedFor Gate = IsBarredFor terms touch Gate
  IsRefusedFor Rate = IsTooFast
  IsRefusedFor Ahead = IsUnfit Ahead
  IsRefusedFor Reserve = IsUnfit Reserve
