use Rattle.std.proofs.Common.{sym, ◌∙◌, ap, refl}
use Rattle.std.proofs.lemmas.Result.{err_from_is_err_and}
use Rattle.sha2.specs.Sha256.{sha256}
use Rattle.toml.specs.View.{table_view}
use Rattle.toml_reading.specs.First.{first}
use Rattle.fare_table.proofs.FaultsLemmas.{in_twice, in_prices, in_zone, in_dates, in_none, agreement-lists, not_low}
use Rattle.fare_table.proofs.LimitsLemmas.{lists-limits}
use Rattle.fare_table.proofs.SinglesLemmas.{lists-singles}
use Rattle.fare_table.proofs.fares.Fares.read.Goals as goal

pub returns-in_err-lists-clause-fault : goal.returns-in_err-lists-clause-fault
returns-in_err-lists-clause-fault c =
    let p = err_from_is_err_and c.from_residual-in_err-lists.result c.from_residual-in_err-lists.ensures.1 in
    rw (p.1, p.2)
    (λ other. in_twice c.args.text.now
    (table_view c.in_ok-tree.tree) c.in_ok-tree.ensures.ok _ c.in_ok-tree.ensures.no_fault
    (c.in_err-lists.ensures.fault other))

pub returns-in-Some-clause-fault : goal.returns-in-Some-clause-fault
returns-in-Some-clause-fault c = λ _.
    let ms = table_view c.in_ok-tree.tree in
    let same = agreement-lists ms c.in_ok-lists.lists c.of-rates.result c.in_ok-lists.ensures.ok c.of-rates.ensures in
    in_prices c.args.text.now ms c.in_ok-tree.ensures.ok _ c.in_ok-tree.ensures.no_fault c.in_ok-lists.ensures.no_fault
    (ap first (sym same) ∙ sym c.in-Some.ensures)

pub returns-in_err-zone-clause-fault : goal.returns-in_err-zone-clause-fault
returns-in_err-zone-clause-fault c =
    let ms = table_view c.in_ok-tree.tree in
    let same = agreement-lists ms c.in_ok-lists.lists c.of-rates.result c.in_ok-lists.ensures.ok c.of-rates.ensures in
    let p = err_from_is_err_and c.from_residual-in_err-zone.result c.from_residual-in_err-zone.ensures.1 in
    rw (p.1, p.2)
    (λ _. in_zone c.args.text.now ms c.in_ok-tree.ensures.ok _
    c.in_ok-tree.ensures.no_fault c.in_ok-lists.ensures.no_fault
    (ap first (sym same) ∙ sym c.in_default.ensures) (rw c.text_at.ensures at c.in_err-zone.ensures.fault))

pub returns-in_err-holidays-clause-fault : goal.returns-in_err-holidays-clause-fault
returns-in_err-holidays-clause-fault c =
    let ms = table_view c.in_ok-tree.tree in
    let same = agreement-lists ms c.in_ok-lists.lists c.of-rates.result c.in_ok-lists.ensures.ok c.of-rates.ensures in
    let p = err_from_is_err_and c.from_residual-in_err-holidays.result c.from_residual-in_err-holidays.ensures.1 in
    rw (p.1, p.2)
    (λ other. in_dates c.args.text.now ms c.in_ok-tree.ensures.ok _
    c.in_ok-tree.ensures.no_fault c.in_ok-lists.ensures.no_fault
    (ap first (sym same) ∙ sym c.in_default.ensures) (rw c.text_at.ensures at c.in_ok-zone.ensures.no_fault)
    (rw c.rows_at.ensures at (c.in_err-holidays.ensures.fault other)))

pub returns-in_err-zone_text-clause-fault : goal.returns-in_err-zone_text-clause-fault
returns-in_err-zone_text-clause-fault c =
    let p = err_from_is_err_and c.from_residual-in_err-zone_text.result c.from_residual-in_err-zone_text.ensures.1 in
    rw (p.1, p.2) (λ other. absurd (other refl))

pub invariant_of-result-clause-within_limits : goal.invariant_of-result-clause-within_limits
invariant_of-result-clause-within_limits c =
    lists-limits (table_view c.in_ok-tree.tree) c.in_ok-lists.lists c.of-rates.result
    c.in_ok-tree.ensures.no_fault c.in_ok-lists.ensures.ok c.of-rates.ensures

pub invariant_of-result-clause-has_singles : goal.invariant_of-result-clause-has_singles
invariant_of-result-clause-has_singles c =
    lists-singles (table_view c.in_ok-tree.tree) c.in_ok-lists.lists c.of-rates.result
    c.in_ok-tree.ensures.no_fault c.in_ok-lists.ensures.ok (sym c.in_default.ensures)

pub invariant_of-result-clause-within_maximum : goal.invariant_of-result-clause-within_maximum
invariant_of-result-clause-within_maximum c =
    let lists = c.in_ok-lists.lists in
    not_low c.of-rates.result lists.stations lists.singles.items lists.pairs lists.interchanges
    (sym c.in_default.ensures)

pub returns-clause-no_fault : goal.returns-clause-no_fault
returns-clause-no_fault c =
    let ms = table_view c.in_ok-tree.tree in
    let same = agreement-lists ms c.in_ok-lists.lists c.of-rates.result c.in_ok-lists.ensures.ok c.of-rates.ensures in
    in_none c.args.text.now ms c.in_ok-tree.ensures.ok c.in_ok-tree.ensures.no_fault c.in_ok-lists.ensures.no_fault
    (ap first (sym same) ∙ sym c.in_default.ensures) (rw c.text_at.ensures at c.in_ok-zone.ensures.no_fault)
    (rw c.rows_at.ensures at c.in_ok-holidays.ensures.no_fault)

pub returns-clause-ok : goal.returns-clause-ok
returns-clause-ok c = record {
  tree = table_view c.in_ok-tree.tree;
  parsed = c.in_ok-tree.ensures.ok;
  content = record {
    zone = rw c.text_at.ensures at c.in_ok-zone.ensures.ok;
    rates = c.of-rates.ensures;
    holidays = rw c.rows_at.ensures at c.in_ok-holidays.ensures.ok;
    stations = c.in_ok-lists.ensures.ok.stations;
    singles = c.in_ok-lists.ensures.ok.singles;
    pairs = c.in_ok-lists.ensures.ok.pairs;
    caps = c.in_ok-lists.ensures.ok.caps;
    interchanges = c.in_ok-lists.ensures.ok.interchanges;
  };
  zone_text = c.in_ok-zone_text.ensures;
  digest = c.digest-digest.ensures ∙ ap sha256 c.as_bytes.ensures.value;
}
