use Rattle.std.proofs.Common.{refl, ap, ◌∙◌, get_or, false}
use Rattle.std.proofs.lemmas.List.{get_or-replicate}
use Rattle.office_lines.specs.declared.ahead.TheConstants.{GATES}
use Rattle.office_lines.proofs.ahead.Ahead.new.Goals as goal

pub returns : goal.returns
returns c = record {
  days = record { first = refl; second = refl };
  told = λ gate within.
      ap (λ l. get_or l gate false) (c.in_ok-told.ensures.items_if_clones_equal (λ y is. is))
      ∙ get_or-replicate GATES gate false false within;
}
