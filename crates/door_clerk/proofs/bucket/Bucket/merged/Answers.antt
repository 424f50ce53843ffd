use Rattle.std.proofs.Common.{◌≡◌, rules, sym, subst}
use Rattle.door_clerk.specs.declared.bucket.Bucket.{Bucket}
use Rattle.door_clerk.specs.Bucket.{merged_bucket, IsLowerOf}
use Rattle.door_clerk.proofs.BucketLemmas.{merged-is-lower}
use Rattle.door_clerk.proofs.bucket.Bucket.merged.Goals as goal

-- what is returned is the merged bucket, of which it holds
pub returns-in-Some-clause-lower : goal.returns-in-Some-clause-lower
returns-in-Some-clause-lower c =
    let made : Bucket = record { level = c.min-level.result; ticks = c.max-ticks.result } in
    let same : made ≡ merged_bucket c.args.rate c.args.self.now c.args.other.now = search rules in
    subst (IsLowerOf c.args.rate c.args.self.now c.args.other.now) (sym same)
    (merged-is-lower c.args.rate c.args.self.now c.args.other.now)
