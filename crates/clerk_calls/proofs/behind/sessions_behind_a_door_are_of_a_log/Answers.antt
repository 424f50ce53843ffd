use Rattle.std.proofs.Common.{inl, inr, ap}
use Rattle.office_lines.specs.Clerk.{clerk_at}
use Rattle.clerk_calls.proofs.OfficeLemmas.{door-session}
use Rattle.clerk_calls.proofs.DeskLemmas.{office-said}
use Rattle.clerk_calls.proofs.behind.sessions_behind_a_door_are_of_a_log.Goals as goal

-- the door lets through to the clerk, or keeps out
pub returns : goal.returns
returns g c = λ old new turns served bytes text is. (
  door-session old new turns served bytes text is
      (λ w. clerk_at w.door.behind.clerk.now.seat.now w.door.behind.clerk.now.desk.now) g.N.Named.opened
      (λ before after request answer does. elim (does.2) [
        | inl (bucket, passed, through) ↦ inl (through.given.1.2, through.given.1.3)
        | inr (refusal, stopped, out) ↦
            inr (out.is, ap (λ k. clerk_at k.clerk.now.seat.now k.clerk.now.desk.now) out.clerk)
      ]),
  office-said old new turns served bytes text is
      (λ w. clerk_at w.door.behind.clerk.now.seat.now w.door.behind.clerk.now.desk.now) g.N.Named.opened
      (λ before after request answer does. elim (does.2) [
        | inl (bucket, passed, through) ↦ inl (through.given.1.2, through.given.1.3)
        | inr (refusal, stopped, out) ↦
            inr (out.is, ap (λ k. clerk_at k.clerk.now.seat.now k.clerk.now.desk.now) out.clerk)
      ]),
)
