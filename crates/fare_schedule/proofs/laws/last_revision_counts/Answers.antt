use Rattle.fare_schedule.proofs.InForceLemmas.{last-in-force, first-in-force, has-its-digest}
use Rattle.fare_schedule.proofs.laws.last_revision_counts.Goals as goal

-- The last revision that counts is in force.
pub returns-clause-last : goal.returns-clause-last
returns-clause-last c = last-in-force

-- Without one the first table is.
pub returns-clause-first : goal.returns-clause-first
returns-clause-first c = first-in-force

-- A table is found by its digest.
pub returns-clause-digest : goal.returns-clause-digest
returns-clause-digest c = has-its-digest
