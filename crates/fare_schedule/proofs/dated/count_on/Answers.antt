use Rattle.std.proofs.Common.{arith, rules}
use Rattle.std.proofs.lemmas.List.Sorted.{IsPartitionPoint-from_clause}
use Rattle.fare_schedule.specs.Dated.{is_until}
use Rattle.fare_schedule.proofs.DatedLemmas.{partitioned}
use Rattle.fare_schedule.proofs.dated.count_on.Goals as goal

-- Those whose day is at most it stand in front of all others.
pub returns-else-is_count-clause-counted : goal.returns-else-is_count-clause-counted
returns-else-is_count-clause-counted c =
    let parted = partitioned c.args.day c.args.dated.now c.requires.ascending in
    let point =
    IsPartitionPoint-from_clause (is_until c.args.day) _ _ c.partition_point.ensures.partitioned parted
    (λ a r q k. search rules) in
    record {
      first = λ place other below. point.0 place other (omega arith) below;
      others = λ place other le below. point.1 place other le below;
    }
