-- What a walk over a card's touches, oldest first, has gathered for its statement (FARES.md,
-- "Statement"). The definitions' lists are newest first, and the code's are oldest first.
use Rattle.std.specs.Prelude.{◌≡◌, List, [], ◌∷◌, drop, reverse, Bool, true, false, if◌then◌else◌}
use Rattle.std.specs.Prelude.{Option, Some, None}
use Rattle.std.specs.Option.{ForSome}
use Rattle.oyster_account.specs.declared.travel.Passage.{Passage}
use Rattle.oyster_account.specs.declared.journey.Journey.{Journey}
use Rattle.oyster_account.specs.Scheme.{Scheme}
use Rattle.oyster_account.specs.Travel.{Tap, In, Out, IsKnown, newest}
use Rattle.oyster_account.specs.Leg.{ends_leg}
use Rattle.oyster_account.specs.Journey.{is_change, continues, start_of, journeys}
use Rattle.oyster_account.specs.Charge.{maximum_at}
use Rattle.card_statement.specs.declared.statement.Reason.{Reason}
use Rattle.card_statement.specs.declared.statement.Reason.TheVariants.{Late, Unstarted}
use Rattle.card_statement.specs.declared.statement.Incomplete.{Incomplete}
use Rattle.card_statement.specs.declared.gathered.Entry.{Entry}
use Rattle.card_statement.specs.declared.gathered.Gathered.{Gathered}
use Rattle.card_statement.specs.Incomplete.{incompletes}

-- the newest touch, if it is a touch in
abbrev pub entry_of : Scheme → List Tap → Option Entry
entry_of scheme [] = None
entry_of scheme (In start ∷ taps) =
    Some (record { start = start; continued = continues scheme start taps })
entry_of scheme (Out finish ∷ taps) = None

-- the newest touch, if it is a touch out that ends a leg
abbrev pub end_of : Scheme → List Tap → Option Passage
end_of scheme [] = None
end_of scheme (In start ∷ taps) = None
end_of scheme (Out finish ∷ taps) =
    if ends_leg scheme (Out finish ∷ taps) then Some finish else None

-- a touch in is an interchange after this end of a leg
abbrev pub continues_from : Scheme → Option Passage → Passage → Bool
continues_from scheme None start = false
continues_from scheme (Some finish) start = is_change scheme finish start

-- the incomplete touches but for an open touch in: whether that one is incomplete isn't known yet
abbrev pub known_incompletes : Scheme → List Tap → List Incomplete
known_incompletes scheme [] = []
known_incompletes scheme (In start ∷ taps) = incompletes scheme (Some (In start)) taps
known_incompletes scheme (Out finish ∷ taps) = incompletes scheme None (Out finish ∷ taps)

-- the row of a touch in that is unfinished for this reason, after this last journey
abbrev pub entry_rows : Scheme → Option Journey → Reason → Option Entry → List Incomplete
entry_rows scheme last reason None = []
entry_rows scheme last reason (Some entry) = record {
  touch = entry.start;
  reason = reason;
  pence = maximum_at scheme (start_of entry.continued entry.start last);
} ∷ []

-- why a touch out ends no leg, after an open touch in or none
abbrev pub reason_after : Option Entry → Reason
reason_after None = Unstarted
reason_after (Some entry) = Late

-- the last journey, where a leg doesn't continue it
abbrev pub settled : Bool → Option Journey → List Journey
settled true last = []
settled false None = []
settled false (Some last) = last ∷ []

-- what was gathered is of this travel
pub record IsGathered (scheme : Scheme) (taps : List Tap) (gathered : Gathered) : Type 0 where
  pub made : gathered.journeys.items ≡ reverse (drop 1 (journeys scheme taps))
  pub last : gathered.last ≡ newest (journeys scheme taps)
  pub missed : gathered.incompletes.items ≡ reverse (known_incompletes scheme taps)
  pub entry : gathered.entry ≡ entry_of scheme taps
  pub ended : gathered.ended ≡ end_of scheme taps

-- the stations from which a further leg may start are known
pub record AreStartsKnown (scheme : Scheme) (gathered : Gathered) : Type 0 where
  pub entry : ForSome gathered.entry (λ entry. IsKnown scheme entry.start)
  pub last : ForSome gathered.last (λ journey. IsKnown scheme journey.start)
