-- The last fare day that a history has reached (FARES.md, "Revision"; this project's choice):
-- a revision counts from a later day on.
use Rattle.std.specs.Prelude.{ℤ, pos, int_lt, Bool, false, not, Option, Some, None, if◌then◌else◌}
use Rattle.oyster_account.specs.declared.reply.Reply.{Reply}
use Rattle.oyster_account.specs.declared.verdict.Acceptance.TheVariants.{Revised}
use Rattle.oyster_account.specs.declared.verdict.Refusal.TheVariants.{BadDay}
use Rattle.oyster_account.specs.Judge.{refused, granted}
use Rattle.oyster_account.specs.declared.touch.Act.{Act}
use Rattle.oyster_account.specs.declared.touch.Act.TheVariants.{Enter, Leave, TopUp, Issue, Revise}

-- the day that an act reaches, of a moment of this fare day
abbrev pub day_reached : Act → ℤ → Option ℤ
day_reached (Enter station moment) day = Some day
day_reached (Leave station moment) day = Some day
day_reached (TopUp pence moment) day = None
day_reached (Issue moment) day = None
day_reached (Revise other moment digest) day = Some other

-- a day isn't above the last one that was reached
abbrev pub is_reached : Option ℤ → ℤ → Bool
is_reached None day = false
is_reached (Some last) day = not (int_lt last day)

-- the later of two days
abbrev pub later_day : ℤ → ℤ → ℤ
later_day last day = if int_lt last day then day else last

-- the later of the last day that was reached and a further one, where there are such
abbrev pub later_of : Option ℤ → Option ℤ → Option ℤ
later_of last None = last
later_of None (Some day) = Some day
later_of (Some last) (Some day) = Some (later_day last day)

-- the last day reached after an act that was accepted or not
abbrev pub reached_after : Option ℤ → Bool → Option ℤ → Option ℤ
reached_after last accepted day = if accepted then later_of last day else last

-- the reply to a revision of a day that was reached or not
abbrev pub reply_to_revision : Bool → Reply
reply_to_revision reached =
    if reached then refused BadDay (pos 0) else granted Revised (pos 0) (pos 0)
