-- What a statement needs of a card's accepted touches, and that judged touches have it
-- (FARES.md, "Accepted and refused").
use Rattle.std.specs.Prelude.{◌≡◌, ℕ, true, List, [], ◌∷◌, ◌++◌}
use Rattle.std.specs.List.{All}
use Rattle.oyster_account.specs.declared.touch.Act.{Act}
use Rattle.oyster_account.specs.declared.touch.Act.TheVariants.{Enter, Leave, TopUp, Issue, Revise}
use Rattle.oyster_account.specs.declared.reply.Judged.{Judged}
use Rattle.oyster_account.specs.Touch.{is_of}
use Rattle.oyster_account.specs.History.{accepted, counts_for, is_accepted}
use Rattle.oyster_account.specs.Scheme.{Scheme}
use Rattle.oyster_account.specs.Travel.{IsKnown, travel}
use Rattle.oyster_account.specs.Order.{IsInOrder}
use Rattle.oyster_account.specs.Judge.{judge}

-- the station of a touch in or out is known on its fare day
abbrev pub IsActKnown : Scheme → Act → Type 0
IsActKnown scheme (Enter station moment) =
    IsKnown scheme (record { station = station; stamp = scheme.stamp moment })
IsActKnown scheme (Leave station moment) =
    IsKnown scheme (record { station = station; stamp = scheme.stamp moment })
IsActKnown scheme (TopUp pence moment) = Unit {0}
IsActKnown scheme (Issue moment) = Unit {0}
IsActKnown scheme (Revise day moment digest) = Unit {0}

-- that of each touch that counts for the card is
abbrev pub AreStationsKnown : Scheme → ℕ → List Judged → Type 0
AreStationsKnown scheme card judged =
    All (λ one. counts_for card one ≡ true → IsActKnown scheme one.touch.act) judged

-- an act that is accepted has a known station
abbrev pub IsAcceptedKnown : Type 0
IsAcceptedKnown =
    (scheme : Scheme) (acts : List Act) (act : Act)
    → is_accepted (judge scheme acts act) ≡ true → IsActKnown scheme act

-- each touch of the card, oldest first, has the reply of the rules after those before it
abbrev pub AreReplied : Scheme → ℕ → List Judged → List Judged → Type 0
AreReplied scheme card before [] = Unit {0}
AreReplied scheme card before (one ∷ judged) =
    (is_of card one.touch ≡ true
    → one.reply ≡ judge scheme (accepted card before) one.touch.act)
    × AreReplied scheme card (before ++ one ∷ []) judged

-- a history with the replies of the rules has what a statement of the card needs
abbrev pub IsHistoryReady : Type 0
IsHistoryReady =
    (scheme : Scheme) (card : ℕ) (judged : List Judged) → AreReplied scheme card [] judged
    → IsInOrder (travel scheme (accepted card judged)) × AreStationsKnown scheme card judged
