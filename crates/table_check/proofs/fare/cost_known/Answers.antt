use Rattle.std.proofs.Common.{◌≡◌, map, sym, ap, ◌∙◌}
use Rattle.fare_table.specs.Fare.{Content, stamp_of, fare_of}
use Rattle.fare_table.specs.Fares.{content_of}
use Rattle.fare_table.specs.declared.fare.Fare.{Fare}
use Rattle.oyster_account.specs.Scheme.{scheme_by}
use Rattle.oyster_account.specs.Charge.{least}
use Rattle.table_check.specs.Fare.{capped_by, passage_by}
use Rattle.table_check.proofs.FareLemmas.{travel_charge-alone}
use Rattle.table_check.proofs.fare.cost_known.Goals as goal

-- the fare is that of the window of the touch in, and the charge what the caps make of it
pub returns : goal.returns
returns c =
    let content : Content = content_of c.args.fares.now in
    let price : Fare = fare_of content c.args.from c.args.to (stamp_of content c.args.moment).window in
    let fare_is : c.fare-fare.result ≡ price =
    c.fare-fare.ensures.value ∙ ap (λ stamp. fare_of content c.args.from c.args.to stamp.window) c.stamp-stamp.ensures
    in
    let charge_is : c.charge.result ≡ least price.pence (map (capped_by price) content.caps) =
    c.charge.ensures
    ∙ ap (λ (fare : Fare). least fare.pence (map (capped_by fare) c.caps.result.now)) fare_is
    ∙ ap (λ caps. least price.pence (map (capped_by price) caps)) c.caps.ensures.value in
    record {
      charge = λ finish is.
          travel_charge-alone (scheme_by content) (passage_by content c.args.from c.args.moment)
          (passage_by content c.args.to finish) is ∙ sym charge_is;
      fare = fare_is;
      stamp = c.stamp-stamp.ensures;
    }
