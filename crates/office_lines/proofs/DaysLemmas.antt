-- The latest touches, and what is left of them without one gate's.
use Rattle.std.proofs.Common.{◌≡◌, ℕ, ◌≤◌, Bool, true, false, cond, not, nat_eq, nat_lt, List, [], ◌∷◌, Option, Some}
use Rattle.std.proofs.Common.{None, refl, ap, sym, ◌∙◌, arith}
use Rattle.std.proofs.lemmas.Grind.{common_steps}
use Rattle.office_lines.specs.declared.days.GateDay.{GateDay}
use Rattle.office_lines.specs.Days.{later, latest, of_others, beside}

-- the second, where there is one, isn't later than the first
abbrev pub IsNotLater : Option GateDay → Option GateDay → Type 0
IsNotLater first None = Unit {0}
IsNotLater None (Some second) = ⊥
IsNotLater (Some first) (Some second) = second.day ≤ first.day

-- one touch more for the first
pub more-first : (touch : GateDay) (first second : Option GateDay) → IsNotLater first second
    → IsNotLater (Some (later first touch)) second
more-first touch first None below = tt
more-first touch None (Some second) below = absurd below
more-first touch (Some first) (Some second) below = grind (arith, common_steps)

-- and for both
pub more-both : (touch : GateDay) (first second : Option GateDay) → IsNotLater first second
    → IsNotLater (Some (later first touch)) (Some (later second touch))
more-both touch None None below = grind (arith, common_steps)
more-both touch (Some first) None below = grind (arith, common_steps)
more-both touch None (Some second) below = absurd below
more-both touch (Some first) (Some second) below = grind (arith, common_steps)

-- a touch more, which is left or not
pub more-left : (left : Bool) (touch : GateDay) (first : Option GateDay) (rest : List GateDay)
    → IsNotLater first (latest rest) → IsNotLater (Some (later first touch)) (latest (cond left (touch ∷ rest) rest))
more-left true touch first rest below = more-both touch first (latest rest) below
more-left false touch first rest below = more-first touch first (latest rest) below

-- what is left of some touches isn't later than the latest of them
pub left-below : (gate : ℕ) (touches : List GateDay) → IsNotLater (latest touches) (latest (of_others gate touches))
left-below gate [] = tt
left-below gate (touch ∷ earlier) =
    more-left (not (nat_eq touch.gate gate)) touch (latest earlier) (of_others gate earlier) (left-below gate earlier)

-- with nothing before it a touch is the latest
pub none-left : (touch : GateDay) (second : Option GateDay) → IsNotLater None second
    → Some (later second touch) ≡ Some touch
none-left touch None below = refl
none-left touch (Some second) below = absurd below

-- the touch before another one stays the latest where that one isn't later
pub stays-other : (gate : ℕ) (touch before first : GateDay) (less : Bool) → less ≡ false
    → cond less touch before ≡ first → nat_eq first.gate gate ≡ false → nat_eq before.gate gate ≡ false
stays-other gate touch before first true less is other = absurd (cc less)
stays-other gate touch before first false less is other = ap (λ (f : GateDay). nat_eq f.gate gate) is ∙ other

-- the later one of two is that of one not later and the other
pub kept-later : (touch before first : GateDay) (second : Option GateDay) (less : Bool)
    → nat_lt before.day touch.day ≡ less → IsNotLater (Some before) second → cond less touch before ≡ first
    → (less ≡ false → second ≡ Some before) → Some (later second touch) ≡ Some first
kept-later touch before first None true tested below is stays = ap Some is
kept-later touch before first (Some second) true tested below is stays =
    let still : nat_lt second.day touch.day ≡ true = grind (arith, common_steps) in
    ap (λ (b : Bool). Some (cond b touch second)) still ∙ ap Some is
kept-later touch before first second false tested below is stays =
    ap (λ o. Some (later o touch)) (stays refl) ∙ ap (λ (b : Bool). Some (cond b touch before)) tested ∙ ap Some is

-- a touch that isn't left isn't the latest one that is
pub left-out : (gate : ℕ) (touch before first : GateDay) (second : Option GateDay) (less : Bool)
    → nat_eq touch.gate gate ≡ true → cond less touch before ≡ first → nat_eq first.gate gate ≡ false
    → (nat_eq before.gate gate ≡ false → second ≡ Some before) → second ≡ Some first
left-out gate touch before first second true own is other stays = absurd (cc (own, is, other))
left-out gate touch before first second false own is other stays =
    stays (ap (λ (f : GateDay). nat_eq f.gate gate) is ∙ other) ∙ ap Some is

-- what is false is the contrary of true alone
pub not-false : (b : Bool) → false ≡ not b → b ≡ true
not-false true is = refl
not-false false is = absurd (cc is)

-- the latest touch stays the latest where it is left
pub stays-latest : (gate : ℕ) (left : Bool) (touch : GateDay) (before : Option GateDay) (rest : List GateDay)
    (first : GateDay)
    → IsNotLater before (latest rest)
    → ((other : GateDay) → before ≡ Some other → nat_eq other.gate gate ≡ false → latest rest ≡ Some other)
    → later before touch ≡ first → nat_eq first.gate gate ≡ false → left ≡ not (nat_eq touch.gate gate)
    → latest (cond left (touch ∷ rest) rest) ≡ Some first
stays-latest gate true touch None rest first below same is other kept =
    none-left touch (latest rest) below ∙ ap Some is
stays-latest gate false touch None rest first below same is other kept =
    absurd (cc (kept, other, is))
stays-latest gate true touch (Some before) rest first below same is other kept =
    kept-later touch before first (latest rest) (nat_lt before.day touch.day) refl below is
    (λ less. same before refl (stays-other gate touch before first (nat_lt before.day touch.day) less is other))
stays-latest gate false touch (Some before) rest first below same is other kept =
    left-out gate touch before first (latest rest) (nat_lt before.day touch.day)
    (not-false (nat_eq touch.gate gate) kept) is other (same before refl)

-- the latest touch is the latest of those of other gates than one that isn't its own
pub latest-beside : (gate : ℕ) (touches : List GateDay) (first : GateDay) → latest touches ≡ Some first
    → nat_eq first.gate gate ≡ false → latest (of_others gate touches) ≡ Some first
latest-beside gate [] first is other = absurd (cc is)
latest-beside gate (touch ∷ earlier) first is other =
    stays-latest gate (not (nat_eq touch.gate gate)) touch (latest earlier) (of_others gate earlier) first
    (left-below gate earlier) (latest-beside gate earlier) (cc is) other refl

-- a touch above the first one comes before it
pub above-first : (touches : List GateDay) (seen first : GateDay) → latest touches ≡ Some first
    → nat_eq first.gate seen.gate ≡ false → nat_lt first.day seen.day ≡ true → nat_eq seen.gate seen.gate ≡ true
    → (Some seen ≡ latest (seen ∷ touches)) × (Some first ≡ beside (latest (seen ∷ touches)) (seen ∷ touches))
above-first touches seen first is other less same =
    let later_is : later (latest touches) seen ≡ seen =
    ap (λ l. later l seen) is ∙ ap (λ (b : Bool). cond b seen first) less in (
      ap Some (sym later_is),
      sym (
          ap (λ (s : GateDay). latest (of_others s.gate (seen ∷ touches))) later_is
          ∙ ap (λ (b : Bool). latest (cond (not b) (seen ∷ of_others seen.gate touches)
          (of_others seen.gate touches))) same
          ∙ latest-beside seen.gate touches first is other
          ),
    )

-- a touch behind none is the only one
pub alone : (touches : List GateDay) (seen : GateDay) → latest touches ≡ None → nat_eq seen.gate seen.gate ≡ true
    → (Some seen ≡ latest (seen ∷ touches)) × (None ≡ beside (latest (seen ∷ touches)) (seen ∷ touches))
alone [] seen is same = (
  refl,
  sym (ap (λ (b : Bool). latest (cond (not b) (seen ∷ []) [])) same),
)
alone (touch ∷ earlier) seen is same = absurd (cc is)
