-- From an instant to the next change of a rule, in one year, its clock has one offset.
use Rattle.std.proofs.Common.{◌≡◌, ℕ, zero, suc, ◌+◌, ◌≤◌, ◌<◌, ◌≤ℤ◌, ◌<ℤ◌, ◌-ℤ◌, ℤ, pos, Bool, true}
use Rattle.std.proofs.Common.{false, int_lt, int_le, nat_le, if◌then◌else◌, ◌-◌, ◌*◌, ◌/◌, ◌⊎◌}
use Rattle.std.proofs.Common.{option_map, Option, Some, None, inl, inr, refl, sym, ap, ◌∙◌, arith}
use Rattle.std.proofs.lemmas.Bool.Decides.{leb_tells, nat_tests}
use Rattle.jiff_core.proofs.SignedLemmas.{signed_arith}
use Rattle.jiff_core.specs.Calendar.{days_of_years}
use Rattle.jiff_core.specs.declared.Offset.{Offset}
use Rattle.jiff_tz.specs.Year.{years_within, year_of_nanos}
use Rattle.jiff_tz.specs.PosixRule.{match_some, in_window, utc_window, transition_of}
use Rattle.jiff_tz.specs.PosixRule.{next_year, next_by, next_at, dst_at_by, offset_at}
use Rattle.jiff_tz.specs.declared.info.OffsetInfo.{OffsetInfo}
use Rattle.jiff_tz.specs.declared.posix.Dst.{Dst}
use Rattle.jiff_tz.specs.declared.posix.TimeZone.{TimeZone}
use Rattle.jiff_core.specs.Timestamp.{nanos_of_seconds}
use Rattle.jiff_tz.specs.PosixRule.{transition_view}
use Rattle.jiff_tz.specs.Zone as Zone
use Rattle.jiff_tz.specs.declared.info.Transition.{Transition}
use Rattle.jiff_tz.specs.declared.timezone.TimeZone as AnyZone
use Rattle.jiff_tz.specs.declared.timezone.TimeZone.TheVariants.{Posix}

-- two tests are the same where neither holds without the other
bool_same : (p q : Bool) → (p ≡ true → q ≡ false → ⊥) → (p ≡ false → q ≡ true → ⊥) → p ≡ q
bool_same true true f g = refl
bool_same true false f g = absurd (f refl refl)
bool_same false true f g = absurd (g refl refl)
bool_same false false f g = refl

-- where one moment comes before a change, so does the other
abbrev Keeps : ℤ → ℤ → ℤ → Type 0
Keeps n m x = n <ℤ x → m <ℤ x

-- so both come before a change or neither does
lt_same : (n m x : ℤ) → n ≤ℤ m → Keeps n m x → int_lt n x ≡ int_lt m x
lt_same n m x le keeps =
    bool_same (int_lt n x) (int_lt m x)
    (λ p q. let before : m <ℤ x = keeps (omega (arith, signed_arith, p)) in omega (arith, signed_arith, before, q))
    (λ p q. omega (arith, signed_arith, p, q, le))

le_same : (n m x : ℤ) → n ≤ℤ m → Keeps n m x → int_le x n ≡ int_le x m
le_same n m x le keeps =
    bool_same (int_le x n) (int_le x m)
    (λ p q. omega (arith, signed_arith, p, q, le))
    (λ p q. let before : m <ℤ x = keeps (omega (arith, signed_arith, p)) in omega (arith, signed_arith, before, q))

-- and both lie in the window between two changes or neither does
window_same : (w : ℤ × ℤ) (n m : ℤ) → n ≤ℤ m → Keeps n m w.0 → Keeps n m w.1 → in_window w n ≡ in_window w m
window_same w n m le first second =
    rw (lt_same n m w.0 le first, lt_same n m w.1 le second, le_same n m w.0 le first, le_same n m w.1 le second) refl

-- a transition comes at the change that it is of
abbrev change_if : Bool → ℤ → OffsetInfo → Option (ℤ × OffsetInfo)
change_if b x i = if b then Some (x, i) else None

transition-at : (tz : TimeZone) (d : Dst) (w : ℤ × ℤ) (x t : ℤ) (info : OffsetInfo)
    → transition_of tz d w x ≡ Some (t, info) → t ≡ x
transition-at tz d w x t info is = by _ _ is
  where
    by : (b : Bool) (i : OffsetInfo) → change_if b x i ≡ Some (t, info) → t ≡ x
    by true i e = sym (ap (λ (o : Option (ℤ × OffsetInfo)). match_some o t (λ p. p.0)) e)
    by false i e = absurd cc

-- and so it is of the two changes of a year, the lower and the higher
two_tests : (low high n m t : ℤ) (info : OffsetInfo) (at : ℤ → Option (ℤ × OffsetInfo))
    (later : Option (ℤ × OffsetInfo))
    → ((x : ℤ) → at x ≡ Some (t, info) → t ≡ x) → low ≤ℤ high → m <ℤ t
    → (if int_lt n low then at low else (if int_lt n high then at high else later)) ≡ Some (t, info)
    → Keeps n m low × Keeps n m high
two_tests low high n m t info at later at-is order before is = by_low (int_lt n low) refl is
  where
    by_high : (b : Bool) → int_lt n high ≡ b → int_lt n low ≡ false
        → (if b then at high else later) ≡ Some (t, info) → Keeps n m low × Keeps n m high
    by_high true q p e =
        let same = at-is high e in
        (λ h. absurd (omega (arith, signed_arith, p, h)), λ h. omega (arith, signed_arith, same, before))
    by_high false q p e =
        (λ h. absurd (omega (arith, signed_arith, p, h)), λ h. absurd (omega (arith, signed_arith, q, h)))

    by_low : (b : Bool) → int_lt n low ≡ b → (if b then at low else (if int_lt n high then at high else later))
        ≡ Some (t, info) → Keeps n m low × Keeps n m high
    by_low true p e =
        let same = at-is low e in
        (λ h. omega (arith, signed_arith, same, before), λ h. omega (arith, signed_arith, same, before, order))
    by_low false p e = by_high (int_lt n high) refl p e

-- no change of the year's window comes between
keeps : (tz : TimeZone) (d : Dst) (y n m t : ℤ) (info : OffsetInfo) → next_by tz d y n ≡ Some (t, info) → m <ℤ t
    → Keeps n m (utc_window d y tz.std_offset).0 × Keeps n m (utc_window d y tz.std_offset).1
keeps tz d y n m t info is before = by (int_le w.0 w.1) refl is
  where
    w : ℤ × ℤ
    w = utc_window d y tz.std_offset

    step : ℤ × ℤ → Option (ℤ × OffsetInfo)
    step o =
        if int_lt n o.0 then transition_of tz d w o.0
        else (if int_lt n o.1 then transition_of tz d w o.1 else next_year tz d y)

    by : (b : Bool) → int_le w.0 w.1 ≡ b → step (if b then w else (w.1, w.0)) ≡ Some (t, info)
        → Keeps n m w.0 × Keeps n m w.1
    by true p e =
        two_tests w.0 w.1 n m t info (transition_of tz d w) (next_year tz d y) (λ x. transition-at tz d w x t info)
        (omega (arith, signed_arith, p)) before e
    by false p e =
        let both = two_tests w.1 w.0 n m t info (transition_of tz d w) (next_year tz d y)
        (λ x. transition-at tz d w x t info) (omega (arith, signed_arith, p)) before e in
        (both.1, both.0)

-- so the offset stays
pub offset-stays : (tz : TimeZone) (n m t : ℤ) (info : OffsetInfo) → next_at tz n ≡ Some (t, info) → n ≤ℤ m → m <ℤ t
    → year_of_nanos n ≡ year_of_nanos m → offset_at tz m ≡ offset_at tz n
offset-stays tz n m t info is le before year = by tz.dst is
  where
    by : (o : Option Dst) → match_some o None (λ d. next_by tz d (year_of_nanos n) n) ≡ Some (t, info)
        → match_some (dst_at_by tz.std_offset o m) tz.std_offset (λ d. d.offset)
        ≡ match_some (dst_at_by tz.std_offset o n) tz.std_offset (λ d. d.offset)
    by None e = refl
    by (Some d) e =
        let both = keeps tz d (year_of_nanos n) n m t info e before in
        let same = window_same (utc_window d (year_of_nanos n) tz.std_offset) n m le both.0 both.1 in
        let years = ap (λ (y : ℤ). in_window (utc_window d y tz.std_offset) m) year in
        ap (λ (b : Bool). match_some (if b then Some d else None) tz.std_offset (λ d. d.offset)) (sym (same ∙ years))

-- ---- years

-- years are counted without going back
years_within-le : (n a : ℕ) → years_within n a ≤ n
unfolding years_within
years_within-le zero a = omega arith
years_within-le (suc n) a = by (nat_le _ a) (years_within-le n a)
  where
    by : (b : Bool) → years_within n a ≤ n → (if b then suc n else years_within n a) ≤ suc n
    by true below = omega arith
    by false below = omega arith

nat_le-true : (x y : ℕ) → x ≤ y → nat_le x y ≡ true
nat_le-true x y le = grind (arith, nat_tests)

years_within-mono : (n a b : ℕ) → a ≤ b → years_within n a ≤ years_within n b
unfolding years_within
years_within-mono zero a b h = omega arith
years_within-mono (suc n) a b h = elim (leb_tells (days_of_years (suc n)) a) [
  | inl fits ↦
      let later = nat_le-true (days_of_years (suc n)) b (omega (arith, fits.1, h)) in
      rw (fits.0, later) (omega arith)
  | inr over ↦ rw over.0 (by (nat_le _ b) (years_within-le n a) (years_within-mono n a b h))
]
  where
    by : (c : Bool) → years_within n a ≤ n → years_within n a ≤ years_within n b
        → years_within n a ≤ (if c then suc n else years_within n b)
    by true below same = omega arith
    by false below same = same

-- a moment between two of one year is of that year
pub year-between : (k l e : ℕ) → k ≤ l → l ≤ e → year_of_nanos (pos k) ≡ year_of_nanos (pos e)
    → year_of_nanos (pos k) ≡ year_of_nanos (pos l)
year-between k l e first last same =
    let count : ℕ → ℕ = λ x. x / 86_400_000_000_000 + 4_371_953 in
    let a = years_within-mono 20000 (count k) (count l) (omega (arith, first)) in
    let b = years_within-mono 20000 (count l) (count e) (omega (arith, last)) in
    let whole : pos (years_within 20000 (count k)) -ℤ pos 10000
    ≡ pos (years_within 20000 (count e)) -ℤ pos 10000 = same in
    let ends : years_within 20000 (count k) ≡ years_within 20000 (count e) = omega (arith, signed_arith, whole) in
    let alike : years_within 20000 (count k) ≡ years_within 20000 (count l) = omega (arith, a, b, ends) in
    ap (λ (n : ℕ). pos n -ℤ pos 10000) alike

-- ---- spans

-- the next change that was found is that of the moment
pub found : (tz : TimeZone) (r : Option Transition) (x : Transition) (at n : ℤ)
    → option_map transition_view r ≡ next_at tz at → r ≡ Some x → at ≡ n
    → next_at tz n ≡ Some (x.timestamp.nanosecond, x.info)
found tz r x at n said is same = ap (next_at tz) (sym same) ∙ sym said ∙ ap (option_map transition_view) is

-- a zone's offset is that of its rule
zone-offset : (rule : AnyZone.TimeZone) (tz : TimeZone) (n : ℤ) → rule ≡ Posix tz
    → Zone.offset_at rule n ≡ (offset_at tz n).seconds
unfolding Zone.offset_at
zone-offset rule tz n is = rw is refl

-- before the next change, in one year, the offset is that of the first moment
pub span-of : (rule : AnyZone.TimeZone) (tz : TimeZone) (from to moment : ℕ) (t : ℤ) (info : OffsetInfo)
    (o : Offset) → rule ≡ Posix tz
    → next_at tz (nanos_of_seconds (pos from)) ≡ Some (t, info) → (to ≡ 0) ⊎ (nanos_of_seconds (pos to) ≤ℤ t)
    → from < to
    → year_of_nanos (nanos_of_seconds (pos from)) ≡ year_of_nanos (nanos_of_seconds (pos (to - 1)))
    → o ≡ offset_at tz (nanos_of_seconds (pos from)) → from ≤ moment → moment < to
    → Zone.offset_at rule (nanos_of_seconds (pos moment)) ≡ o.seconds
span-of rule tz from to moment t info o is next end some years is-o low high =
    let n = nanos_of_seconds (pos from) in
    let m = nanos_of_seconds (pos moment) in
    let first : n ≤ℤ m = omega (arith, signed_arith, low) in
    let before : m <ℤ t = elim end [
      | inl none ↦ absurd (omega arith)
      | inr by_t ↦ omega (arith, signed_arith, by_t, high)
    ] in
    let stays = offset-stays tz n m t info next first before (year-between (from * 1_000_000_000)
    (moment * 1_000_000_000) ((to - 1) * 1_000_000_000) (omega (arith, low)) (omega (arith, high)) years) in
    zone-offset rule tz m is ∙ ap (λ (x : Offset). x.seconds) (stays ∙ sym is-o)
