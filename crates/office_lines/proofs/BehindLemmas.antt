-- What reaches a clerk behind a door over a whole session.
use Rattle.std.proofs.Common.{◌≡◌, ◌⊎◌, inl, inr, List, [], ◌∷◌, length, ap, subst, arith}
use Rattle.gate_session.specs.declared.request.Request.{Request}
use Rattle.gate_session.specs.declared.answer.Answer.{Answer}
use Rattle.gate_session.specs.Clerk.{IsRun}
use Rattle.office_lines.specs.Behind.{HasAnsweredSome}

-- each request is answered by the clerk, or leaves it as it was: so over a run it answers some
pub run-answers : {D C : Type 0} (gives : D → Request → Answer → D → Type 0)
    (inner : C → Request → Answer → C → Type 0) (clerk_of : D → C)
    → ((x y : D) (request : Request) (answer : Answer) → gives x request answer y
    → inner (clerk_of x) request answer (clerk_of y) ⊎ (clerk_of y ≡ clerk_of x))
    → (old new : D) (handed : List Request) (replies : List Answer) → IsRun gives old handed replies new
    → HasAnsweredSome inner (clerk_of old) (clerk_of new) (length handed)
run-answers gives inner clerk_of each old new [] [] run = record {
  through = [];
  replies = [];
  run = ap clerk_of run;
  few = omega arith;
}
run-answers gives inner clerk_of each old new (request ∷ handed) (answer ∷ replies) run =
    let more = run-answers gives inner clerk_of each run.0 new handed replies run.2 in
    elim (each old run.0 request answer run.1) [
      | inl given ↦ record {
        through = request ∷ more.through;
        replies = answer ∷ more.replies;
        run = (clerk_of run.0, given, more.run);
        few = omega (arith, more.few);
      }
      | inr same ↦ record {
        through = more.through;
        replies = more.replies;
        run = subst (λ k. IsRun inner k more.through more.replies (clerk_of new)) same more.run;
        few = omega (arith, more.few);
      }
    ]
run-answers gives inner clerk_of each old new [] (answer ∷ replies) run = absurd run
run-answers gives inner clerk_of each old new (request ∷ handed) [] run = absurd run
