use Rattle.std.proofs.Common.{◌≡◌, ◌<ℤ◌, ℤ, ℕ, List, [], ◌∷◌, ◌++◌, None, Some, is_some, option_map, false}
use Rattle.std.proofs.Common.{sym, ap, ◌∙◌, rules}
use Rattle.std.specs.List.{last_or}
use Rattle.std.specs.Int.{w32}
use Rattle.std.specs.Int.RustNames.{FitsSigned}
use Rattle.std.proofs.lemmas.Int.{to_z-of_z}
use Rattle.std.proofs.lemmas.List.Elements.{All-nil}
use Rattle.fare_table.specs.Fares.{digest_of}
use Rattle.fare_table.specs.declared.fares.Fares.{Fares}
use Rattle.fare_schedule.specs.InForce.{Revision, table_of, in_force}
use Rattle.fare_schedule.specs.Places.{table_at}
use Rattle.fare_schedule.specs.Schedule.{tables_of, revisions_of}
use Rattle.fare_schedule.proofs.InForceLemmas.{last-in-force, last-push, on-same}
use Rattle.fare_schedule.proofs.PlaceLemmas.{digest-found, place-some, table-found}
use Rattle.fare_schedule.proofs.schedule.Schedule.revise.Goals as goal

-- A digest that has a table has a place.
pub unreachable-requires : goal.unreachable-requires
unreachable-requires c =
    let none : is_some (table_of (tables_of c.args.self.now) c.args.digest.now) ≡ false =
    sym (place-some 0 (tables_of c.args.self.now) c.args.digest.now)
    ∙ ap is_some (sym c.place_of.ensures.value ∙ c.in_default.is) in
    cc (none, c.requires.known)

-- The table at the place found has the digest.
pub returns-clause-revisions : goal.returns-clause-revisions
returns-clause-revisions c =
    let old = c.args.self.now in
    let digest : List ℕ = c.args.digest.now in
    let fits : FitsSigned w32 c.args.day = search rules in
    let made : List ℕ → ℤ → Revision = λ digest day. record { digest = digest; day = day } in
    let table : Fares = table_at old.first old.supplied.items c.in-Some.place in
    let has : digest_of table ≡ digest =
    digest-found (tables_of old) digest table
    (table-found old.first old.supplied.items digest c.in-Some.place (sym c.place_of.ensures.value ∙ c.in-Some.is)) in
    c.push.ensures.revisions
    ∙ ap (λ day. revisions_of old ++ made (digest_of table) day ∷ []) (to_z-of_z w32 c.args.day fits)
    ∙ ap (λ digest. revisions_of old ++ made digest c.args.day ∷ []) has

-- It is the last revision.
pub returns-clause-last : goal.returns-clause-last
returns-clause-last c =
    let made : Revision = record { digest = c.args.digest.now; day = c.args.day } in
    ap (λ revisions. option_map (λ (r : Revision). r.day) (last_or None revisions)) (returns-clause-revisions c)
    ∙ last-push (revisions_of c.args.self.now) made

-- And so it counts from its day on.
pub returns-clause-revised : goal.returns-clause-revised
returns-clause-revised c later above =
    let old = c.args.self.now in
    let digest : List ℕ = c.args.digest.now in
    let made : Revision = record { digest = digest; day = c.args.day } in
    let table : Fares = table_at old.first old.supplied.items c.in-Some.place in
    let found : table_of (tables_of old) digest ≡ Some table =
    table-found old.first old.supplied.items digest c.in-Some.place (sym c.place_of.ensures.value ∙ c.in-Some.is) in
    let counts : in_force old.first old.supplied.items (revisions_of old ++ made ∷ []) later ≡ table =
    last-in-force old.first table old.supplied.items (revisions_of old) [] made later above
    (All-nil (λ (r : Revision). later <ℤ r.day)) found in
    found
    ∙ ap Some (sym (on-same old c.push.new.self (revisions_of old ++ made ∷ []) later c.push.ensures.tables
    (returns-clause-revisions c) ∙ counts))
