-- What was said at a desk, session by session, and the log by which it is right.
use Rattle.std.proofs.Common.{◌≡◌, ◌⊎◌, inl, inr, ℕ, ◌≤◌, List, [], ◌∷◌, ◌++◌, length, take, refl, sym, ap, ◌∙◌, subst}
use Rattle.std.proofs.Common.{arith, append_assoc, Option, false}
use Rattle.std.specs.List.{All}
use Rattle.std.proofs.lemmas.List.Elements.{All-head, All-tail}
use mathlib.Core.List.{IsPrefix}
use Rattle.oyster_account.specs.declared.touch.Touch.{Touch}
use Rattle.reply_book.specs.declared.entry.Entry.{Entry}
use Rattle.reply_book.specs.Tables.{Tables, is_known}
use Rattle.gate_law.specs.Whole.{IsCause}
use Rattle.tap_desk.specs.Desks.{DeskState}
use Rattle.tap_desk.specs.Listed.{BeginsWith, AreGrowing, HaveGrownTo}
use Rattle.tap_office.specs.declared.fault.SubmitFault.{SubmitFault}
use Rattle.tap_office.specs.declared.fault.SubmitFault.TheVariants.{Conflict, Halted, Memory, Full, UnknownTable}
use Rattle.tap_office.specs.Name.{Opened}
use Rattle.tap_office.specs.Given.{IsGiven, is_known_by, is_known_to}
use Rattle.tap_office.specs.Refusal.{IsCauseAfter}
use Rattle.office_lines.specs.Clerk.{code_of}
use Rattle.clerk_calls.specs.Logged.{Log, HasLearnt}
use Rattle.clerk_calls.specs.Listed.{log_by}
use Rattle.clerk_calls.specs.Turns.{Said, replies, refuses, tells, office_at, StandsBeside, IsSaidAt}
use Rattle.clerk_calls.specs.Merged.{AreMerged}
use Rattle.clerk_calls.specs.Answered.{newest, IsSaidBy, Saying, AreAnswered}
use Rattle.clerk_calls.specs.Answered.{DoSessionsFollow, HaveAnswered, count_by, DoesGrow}
use Rattle.clerk_calls.proofs.EntryLemmas.{front-of, begins-earlier, begins-before}
use Rattle.clerk_calls.proofs.MergeLemmas.{ArePut, put-none, put-list, AreRight, AreAllRight, merged-right}
use Rattle.clerk_calls.proofs.MergeLemmas.{IsSaidInTurn, in-turn}

-- ---- over sessions

pub learnt-none : (points : List (List Entry)) → HasLearnt points points
learnt-none points = ([], refl)

learnt-then : (before mid after : List (List Entry)) → HasLearnt before mid → HasLearnt mid after
    → HasLearnt before after
learnt-then before mid after first more = (
  more.0 ++ first.0,
  more.1 ∙ ap (λ (l : List (List Entry)). more.0 ++ l) first.1 ∙ sym (append_assoc more.0 first.0 before),
)

-- with what was learnt before it was said
answered-after : (opened : Opened) (before mid after : List (List Entry)) (list : List Saying) → HasLearnt before mid
    → AreAnswered opened mid list after → AreAnswered opened before list after
answered-after opened before mid after [] learnt more = learnt-then before mid after learnt more
answered-after opened before mid after (saying ∷ later) learnt more =
    (more.0, learnt-then before mid more.0 learnt more.1, more.2, more.3, more.4)

-- what was said first and then
pub answered-then : (opened : Opened) (before mid after : List (List Entry)) (first second : List Saying)
    → AreAnswered opened before first mid → AreAnswered opened mid second after
    → AreAnswered opened before (first ++ second) after
answered-then opened before mid after [] second is more = answered-after opened before mid after second is more
answered-then opened before mid after (saying ∷ later) second is more =
    (is.0, is.1, is.2, is.3, answered-then opened is.0 mid after later second is.4 more)

pub sessions-follow : DoSessionsFollow
sessions-follow opened before mid later after first second is learnt more =
    answered-then opened before mid after first second is (answered-after opened mid later after second learnt more)

-- all of it but the last
pub answered-front : (opened : Opened) (before after : List (List Entry)) (front : List Saying) (last : Saying)
    → AreAnswered opened before (front ++ last ∷ []) after → AreAnswered opened before front after
answered-front opened before after [] last is = learnt-then before is.0 after is.1 is.4
answered-front opened before after (saying ∷ front) last is =
    (is.0, is.1, is.2, is.3, answered-front opened is.0 after front last is.4)

-- a desk has learnt all along
answered-learnt : (opened : Opened) (before after : List (List Entry)) (list : List Saying)
    → AreAnswered opened before list after → HasLearnt before after
answered-learnt opened before after [] is = is
answered-learnt opened before after (saying ∷ later) is =
    learnt-then before is.0 after is.1 (answered-learnt opened is.0 after later is.4)

-- ---- points that grow

-- how long the newest point is
abbrev front : List (List Entry) → ℕ
front points = length (newest points)

-- a list begins with the newest of its points
newest-begins : (points : List (List Entry)) (list : List Entry) → BeginsWith points list
    → IsPrefix (newest points) list
newest-begins [] list begins = (list, refl)
newest-begins (point ∷ points) list begins = begins.0

front-below : (points : List (List Entry)) (list : List Entry) → BeginsWith points list → front points ≤ length list
front-below points list begins = (front-of (newest points) list (newest-begins points list begins)).1

growing-rest : (newer before : List (List Entry)) → AreGrowing (newer ++ before) → AreGrowing before
growing-rest [] before growing = growing
growing-rest (point ∷ newer) before growing = growing-rest newer before growing.1

-- the newest point is the longest
front-grows : (newer before : List (List Entry)) → AreGrowing (newer ++ before) → front before ≤ front (newer ++ before)
front-grows [] before growing = omega arith
front-grows (point ∷ newer) before growing =
    front-below before point (begins-earlier newer before point growing.0)

-- ---- by the log

module _ (opened : Opened) (tables : Tables) (given : IsGiven opened tables) (entries : List Entry) where
  abbrev log : Log
  log = log_by opened tables entries

  abbrev capacity : ℕ
  capacity = opened.header.capacity

  abbrev found : ℕ
  found = length opened.recovered

  known : (touch : Touch) → is_known_to opened touch ≡ false → is_known tables touch ≡ false
  known touch is = ap (λ (t : Option (Tables × ℕ)). is_known_by t touch) (sym given) ∙ is

  -- the cause in a log point is that in the log when it had as many entries
  cause-at : (point : List Entry) → take (length point) entries ≡ point → (touch : Touch) (fault : SubmitFault)
      → IsCauseAfter opened point touch fault → IsCause (office_at log capacity (length point)) touch (code_of fault)
  cause-at point same touch Conflict cause =
      subst (λ (l : List Entry). IsCauseAfter opened l touch Conflict) (sym same) cause
  cause-at point same touch Halted cause = tt
  cause-at point same touch Memory cause =
      subst (λ (l : List Entry). IsCauseAfter opened l touch Memory) (sym same) cause
  cause-at point same touch Full cause =
      subst (λ (l : List Entry). IsCauseAfter opened l touch Full) (sym same) cause
  cause-at point same touch UnknownTable cause =
      let there = subst (λ (l : List Entry). IsCauseAfter opened l touch UnknownTable) (sym same) cause in
      (there.0, known touch there.1)

  -- what was said is right when the log has as many entries as its log point
  right-at : (point : List Entry) (said : Said) → IsPrefix point entries → IsSaidBy opened point said → (count : ℕ)
      → IsSaidAt log capacity (count_by count point said) said
  right-at point (replies touch reply) begins is count =
      subst (λ (l : List Entry). StandsBeside l touch reply) (sym (front-of point entries begins).0) is.beside
  right-at point (refuses touch fault) begins is count =
      subst (IsCause (office_at log capacity (length point)) touch) (sym is.is)
      (cause-at point (front-of point entries begins).0 touch is.office is.cause)
  right-at point (tells answer) begins none count = none

  -- so many entries are no more than the opening found, or than this log point has
  abbrev IsBehindOf : ℕ → List Entry → Type 0
  IsBehindOf count point = (count ≤ found) ⊎ (count ≤ length point)

  no-shorter : (count : ℕ) (point : List Entry) → found ≤ length point → IsBehindOf count point → count ≤ length point
  no-shorter count point long (inl few) = omega (arith, few, long)
  no-shorter count point long (inr few) = few

  -- the history doesn't shrink to this log point, nor behind it
  grows-at : (count : ℕ) (point : List Entry) (said : Said) → IsSaidBy opened point said → IsBehindOf count point
      → (count ≤ count_by count point said) × IsBehindOf (count_by count point said) point
  grows-at count point (replies touch reply) is behind =
      (no-shorter count point is.no_shorter behind, inr (omega arith))
  grows-at count point (refuses touch fault) is behind =
      (no-shorter count point is.no_shorter behind, inr (omega arith))
  grows-at count point (tells answer) is behind = (omega arith, behind)

  -- what a desk said is right, and the history doesn't shrink on it, where its points grow and the log begins with them
  record IsSaidWell (count : ℕ) (list : List Saying) : Type 0 where
    pub right : AreRight log capacity list
    pub grows : DoesGrow count list

  said-well : (count : ℕ) (before after : List (List Entry)) (list : List Saying)
      → AreAnswered opened before list after → HaveGrownTo after entries → IsBehindOf count (newest before)
      → IsSaidWell count list
  said-well count before after [] is grown behind = record { right = tt; grows = tt }
  said-well count before after (saying ∷ later) is grown behind =
      let learnt = answered-learnt opened is.0 after later is.4 in
      let all : BeginsWith is.0 entries = begins-before is.0 after entries learnt grown.begins in
      let begins = subst (λ (l : List Entry). IsPrefix l entries) (sym is.2) (newest-begins is.0 entries all) in
      let growing = growing-rest learnt.0 is.0 (subst AreGrowing learnt.1 grown.growing) in
      let longer : front before ≤ front is.0 =
      subst (λ (l : List (List Entry)). front before ≤ front l) (sym is.1.1)
      (front-grows is.1.0 before (subst AreGrowing is.1.1 growing)) in
      let still : IsBehindOf count (newest is.0) = elim behind [
        | inl few ↦ inl few
        | inr few ↦ inr (omega (arith, few, longer))
      ] in
      let grows = grows-at count saying.point saying.said is.3 (subst (IsBehindOf count) (sym is.2) still) in
      let next = count_by count saying.point saying.said in
      let rest = said-well next is.0 after later is.4 grown (subst (IsBehindOf next) is.2 grows.1) in
      record {
        right = (
          record {
            within = (front-of saying.point entries begins).1;
            right = right-at saying.point saying.said begins is.3;
          },
          rest.right,
        );
        grows = (grows.0, rest.grows);
      }

  -- so what all desks said is right, and can be put together
  pub record AreSaidWell (lists : List (List Saying)) : Type 0 where
    pub right : AreAllRight log capacity lists
    pub put : ArePut found lists

  pub all-said-well : (lists : List (List Saying)) (desks : List DeskState) → HaveAnswered opened lists desks
      → All (λ desk. HaveGrownTo desk.points entries) desks → AreSaidWell lists
  all-said-well [] [] have grown = record { right = tt; put = put-none found }
  all-said-well [] (desk ∷ desks) have grown = absurd have
  all-said-well (list ∷ lists) [] have grown = absurd have
  all-said-well (list ∷ lists) (desk ∷ desks) have grown =
      let HasGrown : DeskState → Type 0 = λ d. HaveGrownTo d.points entries in
      let one = said-well found [] desk.points list have.0 (All-head HasGrown desk desks grown) (inl (omega arith)) in
      let rest = all-said-well lists desks have.1 (All-tail HasGrown desk desks grown) in
      record { right = (one.right, rest.right); put = put-list found list lists one.grows rest.put }

  -- and is said in turn however it is put together
  pub every-order : (lists : List (List Saying)) → AreSaidWell lists → found ≤ length entries → (order : List Saying)
      → AreMerged lists order → DoesGrow found order → IsSaidInTurn log capacity found order
  every-order lists well within order merged grows =
      in-turn log capacity found order (merged-right log capacity lists order merged well.right) grows within
