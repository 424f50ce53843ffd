use Rattle.std.proofs.Common.{sym, ◌∙◌}
use Rattle.std.specs.Str.{bytes_eq}
use Rattle.door_file.specs.Rule.{Entry, entry_of}
use Rattle.door_file.proofs.PlaceLemmas.{position-map}
use Rattle.door_file.proofs.door.Door.place_of_name.Goals as goal

pub returns : goal.returns
returns c =
    rw c.as_slice.ensures.value at c.find_place.ensures
    ∙ sym (position-map entry_of (λ (rule : Entry). bytes_eq rule.name c.args.name.now) c.args.self.now.rules.items)
