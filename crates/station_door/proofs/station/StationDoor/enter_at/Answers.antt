use Rattle.std.proofs.Common.{◌≡◌, ◌<◌, List, Some, length, slice_get, option_map, refl, ap, subst, ◌∙◌, arith}
use Rattle.std.proofs.lemmas.List.{length-map}
use Rattle.std.proofs.lemmas.Option.{slice_get-map, slice_get_read}
use Rattle.door_file.specs.Rule.{Entry, entry_of}
use Rattle.station_door.proofs.station.StationDoor.enter_at.Goals as goal

-- the rule is the one at this place, and only one with a limit is refused
pub returns-in-None-clause-err : goal.returns-in-None-clause-err
returns-in-None-clause-err g c =
    let rule = c.index-rules-place.result in
    let rules = c.rules.result.now in
    let as_many = ap length c.rules.ensures in
    let within : c.args.place < length rules = omega (arith, as_many, length-map rules entry_of, c.requires) in
    let at = slice_get_read rules (length rules) c.args.place rule refl within c.index-rules-place.is in
    record {
      is = refl;
      entry = entry_of rule;
      there =
          subst (λ (all : List Entry). slice_get all c.args.place ≡ Some (entry_of rule)) c.rules.ensures
          (slice_get-map entry_of rules c.args.place ∙ ap (option_map entry_of) at);
      limit = c.take.ensures c.in-None.is;
    }
