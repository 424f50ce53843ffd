-- The value of the limit that a definition takes from the code, and which of some revisions counts, by computing.
use Rattle.std.proofs.Common.{◌≡◌, ℕ, pos, negsuc, List, [], ◌∷◌, None, Some, refl}
use Rattle.fare_schedule.specs.InForce.{Revision, last_on}
use Rattle.fare_schedule.specs.declared.schedule.TheConstants.{TABLE_LIMIT}

-- a schedule has at most 16 tables
at_most_16_tables : TABLE_LIMIT ≡ 16
at_most_16_tables = refl

-- a revision from a day on; a digest of one number stands for one of 32
abbrev revised : ℕ → ℕ → Revision
revised number from = record { digest = number ∷ []; day = pos from }

-- to one table from 20095 on, to another from 20100 on, and back from 20101 on
abbrev revisions : List Revision
revisions = revised 1 20095 ∷ revised 2 20100 ∷ revised 1 20101 ∷ []

before_all : last_on revisions (pos 20094) ≡ None
before_all = refl

before_1970 : last_on revisions (negsuc 0) ≡ None
before_1970 = refl

on_its_own_day : last_on revisions (pos 20095) ≡ Some (revised 1 20095)
on_its_own_day = refl

on_the_day_before_the_next : last_on revisions (pos 20099) ≡ Some (revised 1 20095)
on_the_day_before_the_next = refl

on_the_day_of_the_next : last_on revisions (pos 20100) ≡ Some (revised 2 20100)
on_the_day_of_the_next = refl

after_all : last_on revisions (pos 20102) ≡ Some (revised 1 20101)
after_all = refl
