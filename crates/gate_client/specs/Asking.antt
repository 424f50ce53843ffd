-- Which lines ask for a touch (COMMANDS.md, "gate_send"; this project's choice).
use Rattle.std.specs.Prelude.{◌≡◌, ◌⊎◌, ℕ, ◌<◌, ◌^◌, List, ◌∷◌, ◌++◌, codes}
use Rattle.std.specs.Str.Parse.{IsNumeral, digits_value}
use Rattle.oyster_account.specs.declared.touch.Act.{Act}
use Rattle.oyster_account.specs.declared.touch.Act.TheVariants.{Enter, Leave, TopUp, Issue, Revise}
use Rattle.oyster_account.specs.Touch.{moment_of}

-- digits alone are this number, which has so many bits at most
pub record IsNumber (bits : ℕ) (text : List ℕ) (n : ℕ) : Type 0 where
  pub digits : IsNumeral 10 text
  pub value : digits_value 10 text ≡ n
  pub fits : n < 2 ^ bits

-- a word, and behind a space the rest
abbrev pub spaced : List ℕ → List ℕ → List ℕ
spaced word rest = word ++ 32 ∷ rest

-- a text begins with this number of 32 bits, and has the rest behind a space
pub record Begins (text : List ℕ) (n : ℕ) (rest : List ℕ) : Type 0 where
  pub digits : List ℕ
  pub parts : text ≡ spaced digits rest
  pub number : IsNumber 32 digits n

-- a text is a card's number, and behind a space one of so many bits
pub record HasPair (text : List ℕ) (card bits n : ℕ) : Type 0 where
  pub last : List ℕ
  pub begins : Begins text card last
  pub number : IsNumber bits last n

-- the word that asks for an act
abbrev pub word_of : Act → List ℕ
word_of (Enter station moment) = codes "in"
word_of (Leave station moment) = codes "out"
word_of (TopUp pence moment) = codes "top-up"
word_of (Issue moment) = codes "issue"
word_of (Revise day moment digest) = codes "revision"

-- what stands behind the word: the card, and the station or the pence; none asks for a revision
abbrev pub SaysBehind : List ℕ → ℕ → Act → Type 0
SaysBehind rest card (Enter station moment) = HasPair rest card 16 station
SaysBehind rest card (Leave station moment) = HasPair rest card 16 station
SaysBehind rest card (TopUp pence moment) = HasPair rest card 32 pence
SaysBehind rest card (Issue moment) = IsNumber 32 rest card
SaysBehind rest card (Revise day moment digest) = ⊥

-- a text says this act of this card, at this moment: `issue 3`, `in 3 17`, `out 3 21`, `top-up 3
-- 1000`
pub record SaysAt (moment : ℕ) (text : List ℕ) (card : ℕ) (act : Act) : Type 0 where
  pub rest : List ℕ
  pub parts : text ≡ spaced (word_of act) rest
  pub behind : SaysBehind rest card act
  pub at_moment : moment_of act ≡ moment

-- a line has `at` and this moment in front of this text: `at 1736149800 in 3 17`
pub record HasMoment (line : List ℕ) (moment : ℕ) (text : List ℕ) : Type 0 where
  pub rest : List ℕ
  pub parts : line ≡ spaced (codes "at") rest
  pub begins : Begins rest moment text

-- a line asks for this act of this card where the clock is at this moment: the act's moment stands
-- in front, or is the clock's
abbrev pub Asks : ℕ → List ℕ → ℕ → Act → Type 0
Asks now line card act = SaysAt now line card act
    ⊎ ((text : List ℕ) × HasMoment line (moment_of act) text × SaysAt (moment_of act) text card act)
