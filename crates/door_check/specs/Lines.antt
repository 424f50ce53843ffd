-- The lines that `check --door` prints of a door: one for each rule, and their number (COMMANDS.md,
-- "check"; this project's choice).
use Rattle.std.specs.Prelude.{ℕ, ◌+◌, ◌==◌, nat_lt, Bool, ◌||◌, List, [], ◌∷◌, ◌++◌, codes, map}
use Rattle.std.specs.Prelude.{length, Option, Some, None, if◌then◌else◌}
use Rattle.std.specs.Fmt.{decimal}
use Rattle.door_clerk.specs.Rule.{Terms}
use Rattle.door_clerk.specs.declared.rule.GateRange.{GateRange}
use Rattle.door_clerk.specs.declared.rule.Kinds.{Kinds}
use Rattle.door_clerk.specs.declared.rule.Rate.{Rate}
use Rattle.door_file.specs.Keys.{word_of}
use Rattle.door_file.specs.Rule.{Entry}
use Rattle.door_file.specs.declared.kind.Kind.{Kind}
use Rattle.door_file.specs.declared.kind.Kind.TheVariants as kinds

-- a control character of ASCII
abbrev pub is_control : ℕ → Bool
is_control byte = nat_lt byte 0x20 || byte == 0x7f

-- what is printed for a byte of a name: a question mark for a control character
abbrev pub shown : ℕ → ℕ
shown byte = if is_control byte then 63 else byte

-- a range of gates: the number of one gate, or the first and the last
abbrev pub printed_range : GateRange → List ℕ
printed_range range =
    if range.first == range.last then decimal range.first
    else decimal range.first ++ (codes "-" ++ decimal range.last)

-- the ranges, with a space before each
abbrev pub printed_ranges : List GateRange → List ℕ
printed_ranges [] = []
printed_ranges (range ∷ ranges) = codes " " ++ (printed_range range ++ printed_ranges ranges)

-- the gates of a rule, and nothing for a rule without gates
abbrev pub printed_gates : List GateRange → List ℕ
printed_gates [] = []
printed_gates (range ∷ ranges) = codes " gates" ++ (printed_ranges (range ∷ ranges) ++ codes ";")

-- a kind of request that is allowed: a space and its word
abbrev pub printed_word : Bool → Kind → List ℕ
printed_word allowed kind = if allowed then codes " " ++ word_of kind else []

-- the kinds of request that are allowed, in the order of the file's words
abbrev pub printed_kinds : Kinds → List ℕ
printed_kinds allowed =
    printed_word allowed.enter kinds.Enter
    ++ (printed_word allowed.leave kinds.Leave
    ++ (printed_word allowed.top_up kinds.TopUp
    ++ (printed_word allowed.issue kinds.Issue
    ++ (printed_word allowed.revise kinds.Revise
    ++ printed_word allowed.enquire kinds.Enquire))))

-- a number of a rule, and nothing where the rule leaves it out
abbrev pub printed_limit : List ℕ → Option ℕ → List ℕ
printed_limit name None = []
printed_limit name (Some number) = codes "; " ++ (name ++ (codes " " ++ decimal number))

-- the rate of a rule with its burst, and nothing where the rule leaves it out
abbrev pub printed_rate : Option Rate → List ℕ
printed_rate None = []
printed_rate (Some rate) =
    codes "; rate " ++ (decimal rate.touches ++ (codes " burst " ++ decimal rate.burst))

-- no number for 0 reserved places, which is what a rule has that leaves them out
abbrev pub some_reserved : ℕ → Option ℕ
some_reserved places = if places == 0 then None else Some places

-- what a rule allows: its gates, its kinds of request and its limits
abbrev pub printed_terms : Terms → Option ℕ → List ℕ
printed_terms terms connections =
    codes ":" ++ (printed_gates terms.gates
    ++ (printed_kinds terms.kinds
    ++ (printed_limit (codes "ahead") terms.ahead
    ++ (printed_rate terms.rate
    ++ (printed_limit (codes "reserved") (some_reserved terms.reserved)
    ++ (printed_limit (codes "connections") connections ++ codes "\n"))))))

-- the line of a rule, with its number in the file, from 1
abbrev pub rule_line : ℕ → Entry → List ℕ
rule_line number rule =
    (codes "rule " ++ (decimal number ++ codes " "))
    ++ (map shown rule.name ++ printed_terms rule.terms rule.connections)

-- the lines of rules, the first of which has the number behind this one
abbrev pub lines_behind : ℕ → List Entry → List ℕ
lines_behind number [] = []
lines_behind number (rule ∷ rules) =
    rule_line (number + 1) rule ++ lines_behind (number + 1) rules

-- the lines of a door: one for each rule, and how many rules there are
abbrev pub door_lines : List Entry → List ℕ
door_lines rules =
    lines_behind 0 rules ++ (codes "rules " ++ (decimal (length rules) ++ codes "\n"))
