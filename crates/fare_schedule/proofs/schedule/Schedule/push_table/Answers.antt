use Rattle.std.proofs.Common.{◌≡◌, ◌<◌, [], ◌∷◌, ◌++◌, List, sym, subst, ap, ◌∙◌, arith, length, length-append, rules}
use Rattle.std.proofs.Common.{suc, not, nat_lt, false}
use Rattle.std.proofs.lemmas.Bool.Decides.{nat_tests}
use Rattle.std.specs.List.{All}
use Rattle.std.proofs.lemmas.List.Elements.{All-append, All-cons, All-nil}
use Rattle.fare_table.specs.declared.fares.Fares.{Fares}
use Rattle.fare_schedule.specs.Dated.{revisions_by}
use Rattle.fare_schedule.specs.InForce.{in_force}
use Rattle.fare_schedule.specs.Places.{AreDistinct}
use Rattle.fare_schedule.specs.Stations.{HaveSameStations}
use Rattle.fare_schedule.proofs.DatedLemmas.{revisions-kept}
use Rattle.fare_schedule.proofs.InForceLemmas.{on-supplied}
use Rattle.fare_schedule.proofs.PlaceLemmas.{distinct-push}
use Rattle.fare_schedule.proofs.StationLemmas.{same-by-test}
use Rattle.fare_schedule.specs.declared.schedule.TheConstants.{TABLE_LIMIT}
use Rattle.fare_schedule.proofs.schedule.Schedule.push_table.Goals as goal

-- Where there aren't as many as a schedule may have, there may be one more.
few-more : (supplied : List Fares) → not (nat_lt (suc (length supplied)) TABLE_LIMIT) ≡ false
    → suc (length supplied) < TABLE_LIMIT
few-more supplied few = grind (arith, nat_tests, few)

-- The table has another digest than each, and the stations of the first, as the test says.
pub invariant_of-self : goal.invariant_of-self
invariant_of-self c =
    let old = c.args.self.now in
    let items : c.push.new.self.items ≡ old.supplied.items ++ c.args.table ∷ [] = search rules in
    record {
      ascending = old.ascending;
      placed = λ k d below. omega (
        arith,
        old.placed k d below,
        ap length items,
        length-append old.supplied.items (c.args.table ∷ []),
      );
      distinct =
          subst (λ (tables : List Fares). AreDistinct (old.first ∷ tables)) (sym items)
          (distinct-push (old.first ∷ old.supplied.items) c.args.table old.distinct c.requires.other);
      stations =
          subst (All (HaveSameStations old.first)) (sym items)
          (All-append (HaveSameStations old.first) old.supplied.items (c.args.table ∷ []) old.stations
          (All-cons (HaveSameStations old.first) c.args.table []
          (same-by-test old.first c.args.table c.requires.stations) (All-nil (HaveSameStations old.first))));
      limited = omega (
        arith,
        few-more old.supplied.items c.requires.few,
        ap length items,
        length-append old.supplied.items (c.args.table ∷ []),
      );
    }

-- No revision names the further table.
pub returns-clause-revisions : goal.returns-clause-revisions
returns-clause-revisions c =
    let old = c.args.self.now in
    let items : c.push.new.self.items ≡ old.supplied.items ++ c.args.table ∷ [] = search rules in
    ap (λ (tables : List Fares). revisions_by old.first tables old.dated.items) items
    ∙ revisions-kept old.first c.args.table old.supplied.items old.dated.items old.placed

-- So it is in force on no day.
pub returns-clause-on : goal.returns-clause-on
returns-clause-on c day =
    let old = c.args.self.now in
    let items : c.push.new.self.items ≡ old.supplied.items ++ c.args.table ∷ [] = search rules in
    ap (λ (tables : List Fares). in_force old.first tables (revisions_by old.first tables old.dated.items) day) items
    ∙ on-supplied old.first c.args.table old.supplied.items old.dated.items old.distinct c.requires.other old.placed day
