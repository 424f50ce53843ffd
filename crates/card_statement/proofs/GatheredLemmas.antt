-- What one touch more adds to what was gathered.
use Rattle.std.proofs.Common.{◌≡◌, ℕ, Bool, true, false, not, ◌&&◌, ◌||◌, cond, List, [], ◌∷◌, ◌++◌, drop, reverse}
use Rattle.std.proofs.Common.{refl, sym}
use Rattle.std.proofs.Common.{ap, ◌∙◌, subst, Option, Some, None}
use Rattle.std.specs.Prelude.{if◌then◌else◌}
use Rattle.std.specs.Option.{ForSome}
use Rattle.std.proofs.lemmas.List.{reverse-append, reverse-reverse, append-nil}
use Rattle.std.proofs.lemmas.Grind.{reverse_onto}
use Rattle.oyster_account.specs.declared.travel.Passage.{Passage}
use Rattle.oyster_account.specs.declared.journey.Journey.{Journey}
use Rattle.oyster_account.specs.Scheme.{Scheme}
use Rattle.oyster_account.specs.Travel.{Tap, In, Out, IsKnown, newest}
use Rattle.oyster_account.specs.Leg.{is_in_time, ends_leg}
use Rattle.oyster_account.specs.Journey.{is_change, continues, start_of, journey_of, others_than, add_leg, journeys}
use Rattle.oyster_account.specs.Charge.{maximum_at, entry_charge, exit_charge}
use Rattle.card_statement.specs.declared.statement.Reason.{Reason}
use Rattle.card_statement.specs.declared.statement.Reason.TheVariants.{Open, EnteredOver, NotLeftInTime, Late}
use Rattle.card_statement.specs.declared.statement.Incomplete.{Incomplete}
use Rattle.card_statement.specs.declared.gathered.Entry.{Entry}
use Rattle.card_statement.specs.declared.gathered.Gathered.{Gathered}
use Rattle.card_statement.specs.Incomplete.{incompletes}
use Rattle.card_statement.specs.Gathered.{entry_of, end_of, continues_from, known_incompletes, entry_rows, settled}
use Rattle.card_statement.specs.Gathered.{reason_after, IsGathered}

reverse-cons : {X : Type 0} (x : X) (xs : List X) → reverse (x ∷ xs) ≡ reverse xs ++ x ∷ []
reverse-cons x xs = reverse_onto xs x []

-- the last journey is put to the others where no leg continues it
settled-all : (js : List Journey) → reverse (drop 1 js) ++ settled false (newest js) ≡ reverse js
settled-all [] = refl
settled-all (j ∷ js) = sym (reverse-cons j js)

settled-others : (continued : Bool) (js : List Journey) →
    reverse (drop 1 js) ++ settled continued (newest js) ≡ reverse (others_than continued js)
settled-others true js = append-nil (reverse (drop 1 js))
settled-others false js = settled-all js

module _ (scheme : Scheme) where
  -- a touch in continues by the end of the leg before it
  continues-ended : (b : Bool) (finish start : Passage) →
      continues_from scheme (if b then Some finish else None) start ≡ (b && is_change scheme finish start)
  continues-ended true finish start = refl
  continues-ended false finish start = refl

  continues-same : (start : Passage) (taps : List Tap) →
      continues_from scheme (end_of scheme taps) start ≡ continues scheme start taps
  continues-same start [] = refl
  continues-same start (In a ∷ taps) = refl
  continues-same start (Out b ∷ taps) = continues-ended (ends_leg scheme (Out b ∷ taps)) b start

  -- the row of an open touch in
  abbrev open_rows : Reason → List Tap → List Incomplete
  open_rows reason taps = entry_rows scheme (newest (journeys scheme taps)) reason (entry_of scheme taps)

  rows-reversed : (last : Option Journey) (reason : Reason) (entry : Option Entry) →
      reverse (entry_rows scheme last reason entry) ≡ entry_rows scheme last reason entry
  rows-reversed last reason None = refl
  rows-reversed last reason (Some entry) = refl

  known-in : (a : Passage) (taps : List Tap) →
      known_incompletes scheme (In a ∷ taps) ≡ open_rows EnteredOver taps ++ known_incompletes scheme taps
  known-in a [] = refl
  known-in a (In c ∷ taps) = refl
  known-in a (Out b ∷ taps) = refl

  known-end : (taps : List Tap) →
      incompletes scheme None taps ≡ open_rows Open taps ++ known_incompletes scheme taps
  known-end [] = refl
  known-end (In a ∷ taps) = refl
  known-end (Out b ∷ taps) = refl

  -- a touch out after a touch in adds nothing in time, and else both their rows
  abbrev late_rows : Bool → Incomplete → Incomplete → List Incomplete → List Incomplete
  late_rows true out entry rows = rows
  late_rows false out entry rows = out ∷ entry ∷ rows

  known-late : (in_time : Bool) (b a : Passage) (exit entry : ℕ) (rows : List Incomplete) →
      cond (not in_time || false)
      (record { touch = b; reason = Late; pence = cond (not in_time || false) exit 0 }
      ∷ cond (not in_time || (false || false))
      (record { touch = a; reason = NotLeftInTime; pence = cond (not in_time) entry 0 } ∷ rows) rows)
      (cond (not in_time || (false || false))
      (record { touch = a; reason = NotLeftInTime; pence = cond (not in_time) entry 0 } ∷ rows) rows)
      ≡ late_rows in_time (record { touch = b; reason = Late; pence = exit })
      (record { touch = a; reason = NotLeftInTime; pence = entry }) rows
  known-late true b a exit entry rows = refl
  known-late false b a exit entry rows = refl

  known-out_in : (b a : Passage) (taps : List Tap) →
      known_incompletes scheme (Out b ∷ In a ∷ taps)
      ≡ late_rows (is_in_time scheme a b) (record { touch = b; reason = Late; pence = exit_charge scheme b })
      (record { touch = a; reason = NotLeftInTime; pence = entry_charge scheme a taps })
      (known_incompletes scheme (In a ∷ taps))
  known-out_in b a taps =
      known-late (is_in_time scheme a b) b a (exit_charge scheme b) (entry_charge scheme a taps)
      (incompletes scheme (Some (In a)) taps)

  -- no leg ends where a touch in that may be open is too long ago
  abbrev pub IsNoEnd : Passage → Option Entry → Type 0
  IsNoEnd b entry = (open_one : Entry) → entry ≡ Some open_one → is_in_time scheme open_one.start b ≡ false

  -- the row of a touch out that ends no leg
  abbrev pub exit_row : Passage → Option Entry → Incomplete
  exit_row b entry = record { touch = b; reason = reason_after entry; pence = maximum_at scheme b }

  known-out : (b : Passage) (taps : List Tap) → IsNoEnd b (entry_of scheme taps) →
      known_incompletes scheme (Out b ∷ taps)
      ≡ exit_row b (entry_of scheme taps) ∷ (open_rows NotLeftInTime taps ++ known_incompletes scheme taps)
  known-out b [] late = refl
  known-out b (Out c ∷ taps) late = refl
  known-out b (In a ∷ taps) late =
      known-out_in b a taps
      ∙ ap (λ in_time. late_rows in_time (record { touch = b; reason = Late; pence = exit_charge scheme b })
      (record { touch = a; reason = NotLeftInTime; pence = entry_charge scheme a taps })
      (known_incompletes scheme (In a ∷ taps)))
      (late (record { start = a; continued = continues scheme a taps }) refl)

  journeys-out : (b : Passage) (taps : List Tap) → IsNoEnd b (entry_of scheme taps) →
      journeys scheme (Out b ∷ taps) ≡ journeys scheme taps
  journeys-out b [] late = refl
  journeys-out b (Out c ∷ taps) late = refl
  journeys-out b (In a ∷ taps) late =
      ap (λ in_time. cond in_time (add_leg scheme (continues scheme a taps) a b (journeys scheme taps))
      (journeys scheme taps)) (late (record { start = a; continued = continues scheme a taps }) refl)

  end-out : (b : Passage) (taps : List Tap) → IsNoEnd b (entry_of scheme taps) → end_of scheme (Out b ∷ taps) ≡ None
  end-out b [] late = refl
  end-out b (Out c ∷ taps) late = refl
  end-out b (In a ∷ taps) late =
      ap (λ in_time. if in_time then Some b else None)
      (late (record { start = a; continued = continues scheme a taps }) refl)

  module _ (taps : List Tap) (g after : Gathered) (of : IsGathered scheme taps g) where
    -- the row of an open touch in more
    pub rows-more : (reason : Reason) (items : List Incomplete) →
        items ≡ g.incompletes.items ++ entry_rows scheme g.last reason g.entry →
        items ≡ reverse (open_rows reason taps ++ known_incompletes scheme taps)
    rows-more reason items same =
        same
        ∙ ap (λ l. l ++ entry_rows scheme g.last reason g.entry) of.missed
        ∙ ap (λ last. reverse (known_incompletes scheme taps) ++ entry_rows scheme last reason g.entry) of.last
        ∙ ap (λ entry. reverse (known_incompletes scheme taps)
        ++ entry_rows scheme (newest (journeys scheme taps)) reason entry) of.entry
        ∙ ap (λ l. reverse (known_incompletes scheme taps) ++ l)
        (sym (rows-reversed (newest (journeys scheme taps)) reason (entry_of scheme taps)))
        ∙ sym (reverse-append (open_rows reason taps) (known_incompletes scheme taps))

    -- the last journey more, where a leg doesn't continue it
    made-more : (continued : Bool) (items : List Journey) →
        items ≡ g.journeys.items ++ settled continued g.last →
        items ≡ reverse (others_than continued (journeys scheme taps))
    made-more continued items same =
        same
        ∙ ap (λ l. l ++ settled continued g.last) of.made
        ∙ ap (λ last. reverse (drop 1 (journeys scheme taps)) ++ settled continued last) of.last
        ∙ settled-others continued (journeys scheme taps)

    pub of-entered : (a : Passage) (continued : Bool) → continued ≡ continues_from scheme g.ended a →
        after.incompletes.items ≡ g.incompletes.items ++ entry_rows scheme g.last EnteredOver g.entry →
        after.journeys.items ≡ g.journeys.items → after.last ≡ g.last →
        after.entry ≡ Some (record { start = a; continued = continued }) → after.ended ≡ None →
        IsGathered scheme (In a ∷ taps) after
    of-entered a continued goes_on missed made last entry ended =
        let same : continued ≡ continues scheme a taps =
        goes_on ∙ ap (λ e. continues_from scheme e a) of.ended ∙ continues-same a taps in
        record {
          made = made ∙ of.made;
          last = last ∙ of.last;
          missed = rows-more EnteredOver after.incompletes.items missed ∙ ap reverse (sym (known-in a taps));
          entry = entry ∙ ap (λ c. Some (record { start = a; continued = c })) same;
          ended = ended;
        }

    pub of-missed : (b : Passage) → IsNoEnd b g.entry →
        after.incompletes.items
        ≡ g.incompletes.items ++ entry_rows scheme g.last NotLeftInTime g.entry ++ exit_row b g.entry ∷ [] →
        after.journeys.items ≡ g.journeys.items → after.last ≡ g.last → after.entry ≡ None → after.ended ≡ None →
        IsGathered scheme (Out b ∷ taps) after
    of-missed b late missed made last entry ended =
        let no_end : IsNoEnd b (entry_of scheme taps) = subst (IsNoEnd b) of.entry late in
        let before : List Incomplete = open_rows NotLeftInTime taps ++ known_incompletes scheme taps in
        record {
          made = made ∙ of.made ∙ ap (λ js. reverse (drop 1 js)) (sym (journeys-out b taps no_end));
          last = last ∙ of.last ∙ ap newest (sym (journeys-out b taps no_end));
          missed = missed
              ∙ ap (λ l. l ++ exit_row b g.entry ∷ [])
              (rows-more NotLeftInTime (g.incompletes.items ++ entry_rows scheme g.last NotLeftInTime g.entry) refl)
              ∙ ap (λ e. reverse before ++ exit_row b e ∷ []) of.entry
              ∙ sym (reverse-cons (exit_row b (entry_of scheme taps)) before)
              ∙ ap reverse (sym (known-out b taps no_end));
          entry = entry;
          ended = ended ∙ sym (end-out b taps no_end);
        }

    -- at the end both lists are whole, and turned
    pub end-journeys : (items : List Journey) → items ≡ g.journeys.items ++ settled false g.last →
        reverse items ≡ journeys scheme taps
    end-journeys items same =
        ap reverse (made-more false items same) ∙ reverse-reverse (journeys scheme taps)

    pub end-incompletes : (items : List Incomplete) →
        items ≡ g.incompletes.items ++ entry_rows scheme g.last Open g.entry →
        reverse items ≡ incompletes scheme None taps
    end-incompletes items same =
        ap reverse (rows-more Open items same)
        ∙ reverse-reverse (open_rows Open taps ++ known_incompletes scheme taps)
        ∙ sym (known-end taps)

  -- a leg from the open touch in
  ended-in : (a b : Passage) (taps : List Tap) (g after : Gathered) → IsGathered scheme (In a ∷ taps) g →
      is_in_time scheme a b ≡ true →
      after.journeys.items ≡ g.journeys.items ++ settled (continues scheme a taps) g.last →
      after.last ≡ Some (journey_of scheme (start_of (continues scheme a taps) a g.last) b) →
      after.incompletes.items ≡ g.incompletes.items → after.entry ≡ None → after.ended ≡ Some b →
      IsGathered scheme (Out b ∷ In a ∷ taps) after
  ended-in a b taps g after of in_time made last missed entry ended =
      let js : List Journey = journeys scheme taps in
      let continued : Bool = continues scheme a taps in
      let with_leg : journeys scheme (Out b ∷ In a ∷ taps) ≡ add_leg scheme continued a b js =
      ap (λ x. cond x (add_leg scheme continued a b js) js) in_time in
      record {
        made = made-more (In a ∷ taps) g after of continued after.journeys.items made
            ∙ ap (λ l. reverse (drop 1 l)) (sym with_leg);
        last = last ∙ ap (λ l. Some (journey_of scheme (start_of continued a l) b)) of.last
            ∙ ap newest (sym with_leg);
        missed = missed ∙ of.missed ∙ ap reverse (sym (known-out_in b a taps
            ∙ ap (λ x. late_rows x (record { touch = b; reason = Late; pence = exit_charge scheme b })
            (record { touch = a; reason = NotLeftInTime; pence = entry_charge scheme a taps })
            (known_incompletes scheme (In a ∷ taps))) in_time));
        entry = entry;
        ended = ended ∙ sym (ap (λ x. if x then Some b else None) in_time);
      }

  pub of-ended : (taps : List Tap) (g after : Gathered) → IsGathered scheme taps g → (b : Passage) (one : Entry) →
      g.entry ≡ Some one → is_in_time scheme one.start b ≡ true →
      after.journeys.items ≡ g.journeys.items ++ settled one.continued g.last →
      after.last ≡ Some (journey_of scheme (start_of one.continued one.start g.last) b) →
      after.incompletes.items ≡ g.incompletes.items → after.entry ≡ None → after.ended ≡ Some b →
      IsGathered scheme (Out b ∷ taps) after
  of-ended [] g after of b one inside in_time made last missed entry ended =
      let bad : None ≡ Some one = sym of.entry ∙ inside in absurd (cc)
  of-ended (Out c ∷ taps) g after of b one inside in_time made last missed entry ended =
      let bad : None ≡ Some one = sym of.entry ∙ inside in absurd (cc)
  of-ended (In a ∷ taps) g after of b one inside in_time made last missed entry ended =
      let both : Some one ≡ Some (record { start = a; continued = continues scheme a taps }) = sym inside ∙ of.entry in
      let same : one ≡ record { start = a; continued = continues scheme a taps } = cc in
      ended-in a b taps g after of
      (subst (λ (e : Entry). is_in_time scheme e.start b ≡ true) same in_time)
      (subst (λ (e : Entry). after.journeys.items ≡ g.journeys.items ++ settled e.continued g.last) same made)
      (subst (λ (e : Entry). after.last ≡ Some (journey_of scheme (start_of e.continued e.start g.last) b)) same last)
      missed entry ended

  -- where a journey starts is known
  pub start-known : (one : Entry) (last : Option Journey) → IsKnown scheme one.start →
      ForSome last (λ journey. IsKnown scheme journey.start) →
      IsKnown scheme (start_of one.continued one.start last)
  start-known one last here there = start-by one.continued one.start last here there
    where
      start-by : (continued : Bool) (start : Passage) (last : Option Journey) → IsKnown scheme start →
          ForSome last (λ journey. IsKnown scheme journey.start) → IsKnown scheme (start_of continued start last)
      start-by true start (Some journey) here there = there journey refl
      start-by true start None here there = here
      start-by false start last here there = here
