use Rattle.std.proofs.Common.{◌≡◌, ◌≤◌, [], ◌∷◌, ◌++◌, sym, subst, length, rules}
use Rattle.std.proofs.lemmas.List.Elements.{All-append, All-cons, All-nil}
use Rattle.fare_schedule.specs.Dated.{AreAscending, ArePlaced}
use Rattle.fare_schedule.specs.declared.dated.Dated.{Dated}
use Rattle.fare_schedule.proofs.DatedLemmas.{ascending-push}
use Rattle.fare_schedule.proofs.schedule.Schedule.push.Goals as goal

-- The day is above that of the last, so above all, and the place is one of the tables.
pub invariant_of-self : goal.invariant_of-self
invariant_of-self c =
    let old = c.args.self.now in
    let items : c.push.new.self.items ≡ old.dated.items ++ c.args.dated ∷ [] = search rules in
    let last = length old.supplied.items in
    record {
      ascending = subst AreAscending (sym items)
          (ascending-push old.first old.supplied.items old.dated.items c.args.dated old.ascending c.requires.later);
      placed = subst (ArePlaced last) (sym items)
          (All-append (λ (d : Dated). d.place ≤ last) old.dated.items (c.args.dated ∷ []) old.placed
          (All-cons (λ (d : Dated). d.place ≤ last) c.args.dated [] c.requires.placed
          (All-nil (λ (d : Dated). d.place ≤ last))));
      distinct = old.distinct;
      stations = old.stations;
      limited = old.limited;
    }
