-- What a reader gave and a writer took between two moments, where their bytes are known; where they
-- aren't, it is some bytes of which the same is said.
use Rattle.std.specs.Prelude.{◌≡◌, ℕ, List, [], ◌<◌, ◌++◌, Option, Result, Ok, Err}
use Rattle.std.specs.Io.KnownBytes.{Appends, Consumes}
use Rattle.text_io.specs.declared.write.WriteFault.{WriteFault}

-- the text begins the whole
abbrev pub IsBeginning : List ℕ → List ℕ → Type 0
IsBeginning text whole = (later : List ℕ) × (whole ≡ text ++ later)

-- the text begins the whole, and some of the whole is missing
pub record IsCutShort (text whole : List ℕ) : Type 0 where
  pub missing : List ℕ
  pub parts : whole ≡ text ++ missing
  pub some : missing ≡ [] → ⊥

-- between two moments a writer took some text, of which this is said
pub record Wrote (before after : Option (List ℕ)) (Says : List ℕ → Type 0) : Type 0 where
  pub text : List ℕ
  pub appended : Appends before after text
  pub says : Says text

-- between two moments a reader gave some bytes and a writer took some text, of which this is said
pub record Ran (unread left : Option (List ℕ)) (before after : Option (List ℕ))
    (Says : List ℕ → List ℕ → Type 0) : Type 0 where
  pub bytes : List ℕ
  pub text : List ℕ
  pub consumed : Consumes unread left bytes
  pub appended : Appends before after text
  pub says : Says bytes text

-- how many bytes a write took: some, where it didn't fail and took some
abbrev pub IsSizeTaken : {E : Type 0} → Result ℕ E → Result ℕ WriteFault → Type 0
IsSizeTaken (Ok taken) (Ok size) = (size ≡ taken) × (0 < taken)
IsSizeTaken (Ok taken) (Err fault) = taken ≡ 0
IsSizeTaken (Err error) (Ok size) = ⊥
IsSizeTaken (Err error) (Err fault) = Unit {0}
