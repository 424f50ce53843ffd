-- What became of a disk on which a journal was to be made (COMMANDS.md, "serve"; this
-- project's choice).
use Rattle.std.specs.Prelude.{◌≡◌, ℕ, List, []}
use Rattle.journal_service.specs.declared.making.Unprepared.{Unprepared}
use Rattle.journal_service.specs.declared.making.Unprepared.TheVariants.{Unseen, Unmade}

-- the making failed on the disk
abbrev pub IsUnmade : {D : Type 0} → Unprepared D → Type 0
IsUnmade (Unseen fault disk) = ⊥
IsUnmade (Unmade fault disk) = Unit {0}

-- where the making failed, the disk held nothing before
abbrev pub WasEmpty : {D : Type 0} → (D → Type 0) → List ℕ → Unprepared D → Type 0
WasEmpty honest before (Unseen fault disk) = Unit {0}
WasEmpty honest before (Unmade fault disk) = honest disk → before ≡ []
