-- At which moments a clock has one offset.
use Rattle.std.specs.Prelude.{◌≡◌, ◌≤◌, ◌<◌, ℕ, pos}
use Rattle.jiff.specs.Words.{offset_at, nanos_of_seconds}
use Rattle.jiff_tz.specs.declared.timezone.TimeZone.{TimeZone}
use Rattle.money_time.specs.declared.span.Span.{Span}

-- the rule's clock has the span's offset at each of its moments
abbrev pub IsSpanOf : TimeZone → Span → Type 0
IsSpanOf rule span =
    (moment : ℕ) → span.from ≤ moment → moment < span.to
    → offset_at rule (nanos_of_seconds (pos moment)) ≡ span.offset
