use Rattle.std.proofs.Common.{is_some, sym, ap, ◌∙◌}
use Rattle.fare_schedule.specs.Places.{table_at}
use Rattle.fare_schedule.specs.Schedule.{tables_of}
use Rattle.fare_schedule.proofs.PlaceLemmas.{digest-found, place-some, table-found}
use Rattle.fare_schedule.proofs.schedule.Schedule.place.Goals as goal

-- A digest has a place where it has a table.
pub returns-in-Some-clause-found : goal.returns-in-Some-clause-found
returns-in-Some-clause-found c =
    ap is_some (sym c.in-Some.is ∙ c.place_of.ensures.value) ∙ place-some 0
    (tables_of c.args.self.now) c.args.digest.now

pub returns-in-None-clause-found : goal.returns-in-None-clause-found
returns-in-None-clause-found c =
    ap is_some (sym c.in-None.is ∙ c.place_of.ensures.value) ∙ place-some 0
    (tables_of c.args.self.now) c.args.digest.now

-- The table at the place found has the digest.
pub returns-in-Some-clause-back : goal.returns-in-Some-clause-back
returns-in-Some-clause-back c =
    let self = c.args.self.now in
    digest-found (tables_of self) c.args.digest.now (table_at self.first self.supplied.items c.in-Some.place)
    (table-found self.first self.supplied.items c.args.digest.now c.in-Some.place
    (sym c.place_of.ensures.value ∙ c.in-Some.is))
