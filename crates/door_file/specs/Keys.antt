-- The keys of a door's file: the text of each, what it holds, and the words of the kinds of request
-- (the keys and their ranges are this project's choice).
use Rattle.std.specs.Prelude.{codes, ℕ, List, [], ◌∷◌}
use Rattle.door_file.specs.declared.key.Key.{Key}
use Rattle.door_file.specs.declared.key.Key.TheVariants as key
use Rattle.door_file.specs.declared.key.Shape.{Shape}
use Rattle.door_file.specs.declared.key.Shape.TheVariants.{Rules, Name, Gates, Kinds, Whole}
use Rattle.door_file.specs.declared.key.TheConstants.{MOST_AHEAD, MOST_RATE, MOST_BURST}
use Rattle.door_file.specs.declared.key.TheConstants.{MOST_RESERVED, MOST_CONNECTIONS}
use Rattle.door_file.specs.declared.kind.Kind.{Kind}
use Rattle.door_file.specs.declared.kind.Kind.TheVariants as kind

-- the text that is in the file for a key
abbrev pub text_of : Key → List ℕ
text_of key.Rule = codes "rule"
text_of key.Name = codes "name"
text_of key.Gates = codes "gates"
text_of key.Kinds = codes "kinds"
text_of key.Ahead = codes "ahead"
text_of key.Rate = codes "rate"
text_of key.Burst = codes "burst"
text_of key.Reserved = codes "reserved"
text_of key.Connections = codes "connections"

-- what a key holds
abbrev pub shape_of : Key → Shape
shape_of key.Rule = Rules
shape_of key.Name = Name
shape_of key.Gates = Gates
shape_of key.Kinds = Kinds
shape_of key.Ahead = Whole 0 MOST_AHEAD
shape_of key.Rate = Whole 1 MOST_RATE
shape_of key.Burst = Whole 1 MOST_BURST
shape_of key.Reserved = Whole 0 MOST_RESERVED
shape_of key.Connections = Whole 1 MOST_CONNECTIONS

-- the keys of a rule, in their order
abbrev pub rule_keys : List Key
rule_keys =
    key.Name ∷ key.Gates ∷ key.Kinds ∷ key.Ahead ∷ key.Rate ∷ key.Burst ∷ key.Reserved
    ∷ key.Connections ∷ []

-- the keys of the file itself
abbrev pub file_keys : List Key
file_keys = key.Rule ∷ []

-- the word that is in the file for a kind of request
abbrev pub word_of : Kind → List ℕ
word_of kind.Enter = codes "in"
word_of kind.Leave = codes "out"
word_of kind.TopUp = codes "top-up"
word_of kind.Issue = codes "issue"
word_of kind.Revise = codes "revise"
word_of kind.Enquire = codes "enquiry"

-- all kinds of request, in their order
abbrev pub all_kinds : List Kind
all_kinds =
    kind.Enter ∷ kind.Leave ∷ kind.TopUp ∷ kind.Issue ∷ kind.Revise ∷ kind.Enquire ∷ []
