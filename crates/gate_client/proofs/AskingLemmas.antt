-- Texts that are cut at their first space.
use Rattle.std.proofs.Common.{◌≡◌, ℕ, suc, zero, ◌<◌, List, [], ◌∷◌, length, get_or, Option, Some, None, IfSome, false}
use Rattle.std.proofs.Common.{true, refl, ap, ◌∙◌, arith, slice_index, codes}
use Rattle.std.specs.Prelude.{◌==◌, ◌≢◌, option_map}
use Rattle.std.specs.Option.{MatchOption}
use Rattle.std.specs.Str.Parse.{IsNumeral}
use Rattle.std.proofs.lemmas.Str.Parse.{digit_at}
use Rattle.std.proofs.lemmas.Str.Pattern.{IsSplitOnceResult, split_after, split_parts}
use denote.Ref.{Bor}
use Rattle.oyster_account.specs.declared.touch.Act.{Act}
use Rattle.oyster_account.specs.declared.touch.Act.TheVariants.{Enter, Leave, TopUp, Issue, Revise}
use Rattle.oyster_account.specs.Touch.{moment_of}
use Rattle.gate_client.specs.declared.asking.Asked.{Asked}
use Rattle.gate_client.specs.Asking.{Begins, IsNumber, spaced, word_of, SaysBehind, SaysAt, HasMoment}
use Rattle.gate_client.specs.Enquiring.{Enquires}

-- no byte is a space
abbrev pub IsFree : List ℕ → Type 0
IsFree [] = Unit {0}
IsFree (byte ∷ bytes) = ((byte == 32) ≡ false) × IsFree bytes

-- so none is at any place
pub free_at : (xs : List ℕ) → IsFree xs → (i : ℕ) → i < length xs → get_or xs i 0 ≢ 32
free_at [] free i within is = absurd (omega (arith, within))
free_at (x ∷ xs) free zero within is =
    let space : (x == 32) ≡ true = ap (λ (n : ℕ). n == 32) is in
    let other : (x == 32) ≡ false = free.0 in absurd cc
free_at (x ∷ xs) free (suc i) within is = free_at xs free.1 i (omega (arith, within)) is

-- no digit is a space
pub digits_free : (ds : List ℕ) → IsNumeral 10 ds → (i : ℕ) → i < length ds → get_or ds i 0 ≢ 32
digits_free ds numeral i within is =
    let low = (digit_at ds i numeral.1 within).0 in absurd (omega (arith, low, is))

-- nor is a byte of a word that asks for an act
pub word_free : (act : Act) → IsFree (word_of act)
word_free (Enter station moment) = (refl, (refl, tt))
word_free (Leave station moment) = (refl, (refl, (refl, tt)))
word_free (TopUp pence moment) = (refl, (refl, (refl, (refl, (refl, (refl, tt))))))
word_free (Issue moment) = (refl, (refl, (refl, (refl, (refl, tt)))))
word_free (Revise day moment digest) = (refl, (refl, (refl, (refl, (refl, (refl, (refl, (refl, tt))))))))

-- no such word is `at`
pub not_at : (act : Act) → word_of act ≡ codes "at" → ⊥
not_at (Enter station moment) is =
    let bad : 105 ≡ 97 = ap (λ (l : List ℕ). slice_index l 0) is in absurd (omega (arith, bad))
not_at (Leave station moment) is =
    let bad : 111 ≡ 97 = ap (λ (l : List ℕ). slice_index l 0) is in absurd (omega (arith, bad))
not_at (TopUp pence moment) is =
    let bad : 116 ≡ 97 = ap (λ (l : List ℕ). slice_index l 0) is in absurd (omega (arith, bad))
not_at (Issue moment) is =
    let bad : 105 ≡ 97 = ap (λ (l : List ℕ). slice_index l 0) is in absurd (omega (arith, bad))
not_at (Revise day moment digest) is =
    let bad : 114 ≡ 97 = ap (λ (l : List ℕ). slice_index l 0) is in absurd (omega (arith, bad))

-- a text that begins with a number is cut behind it
pub number_cut : (text : List ℕ) (n : ℕ) (rest : List ℕ) (r : Option (Bor (List ℕ) × Bor (List ℕ)))
    → IsSplitOnceResult 32 text r → (begins : Begins text n rest)
    → MatchOption r ⊥ (λ x. (x.0.now ≡ begins.digits) × (x.1.now ≡ rest))
number_cut text n rest r cut begins =
    split_after 32 text begins.digits rest r cut (omega arith) begins.parts
    (digits_free begins.digits begins.number.digits)

-- a text that says an act is cut behind its word
pub word_cut : (moment : ℕ) (text : List ℕ) (card : ℕ) (act : Act) (r : Option (Bor (List ℕ) × Bor (List ℕ)))
    → IsSplitOnceResult 32 text r → (says : SaysAt moment text card act)
    → MatchOption r ⊥ (λ x. (x.0.now ≡ word_of act) × (x.1.now ≡ says.rest))
word_cut moment text card act r cut says =
    split_after 32 text (word_of act) says.rest r cut (omega arith) says.parts (free_at (word_of act) (word_free act))

-- a line with a moment is cut behind `at`
pub at_cut : (line : List ℕ) (moment : ℕ) (text : List ℕ) (r : Option (Bor (List ℕ) × Bor (List ℕ)))
    → IsSplitOnceResult 32 line r → (has : HasMoment line moment text)
    → MatchOption r ⊥ (λ x. (x.0.now ≡ codes "at") × (x.1.now ≡ has.rest))
at_cut line moment text r cut has =
    split_after 32 line (codes "at") has.rest r cut (omega arith) has.parts (free_at (codes "at") (refl, (refl, tt)))

-- what a word and what stands behind it ask for, the whole text says
pub said : (moment : ℕ) (text word rest : List ℕ) (r : Option Asked) → text ≡ spaced word rest
    → IfSome r (λ asked. word ≡ word_of asked.act) → IfSome r (λ asked. SaysBehind rest asked.card asked.act)
    → IfSome r (λ asked. moment_of asked.act ≡ moment)
    → IfSome r (λ asked. SaysAt moment text asked.card asked.act)
said moment text word rest None parts is behind when = tt
said moment text word rest (Some asked) parts is behind when = record {
  rest = rest;
  parts = parts ∙ ap (λ (w : List ℕ). spaced w rest) is;
  behind = behind;
  at_moment = when;
}

-- an act of a card
abbrev pub asked : ℕ → Act → Asked
asked card act = record { card = card; act = act }

-- the same numbers make the same act of the same card
pub same_asked : (make : ℕ → Act) (card n other m : ℕ)
    → ◌≡◌ {A = Option (ℕ × ℕ)} (Some (card, n)) (Some (other, m))
    → Some (asked card (make n)) ≡ Some (asked other (make m))
same_asked make card n other m = ap (λ (o : Option (ℕ × ℕ)). option_map (λ pair. asked pair.0 (make pair.1)) o)

-- a text in two parts around its first space
pub parts_of : (text : List ℕ) (word rest : Bor (List ℕ)) → IsSplitOnceResult 32 text (Some (word, rest))
    → text ≡ spaced word.now rest.now
parts_of text word rest cut = (split_parts 32 text (Some (word, rest)) cut (omega arith)).0

-- a number behind the word `enquire` is that of the card
pub number_behind : (text word rest : List ℕ) (r : Option ℕ) → text ≡ spaced word rest → word ≡ codes "enquire"
    → IfSome r (IsNumber 32 rest) → IfSome r (Enquires text)
number_behind text word rest None parts is number = tt
number_behind text word rest (Some card) parts is number = record {
  rest = rest;
  parts = parts ∙ ap (λ (w : List ℕ). spaced w rest) is;
  number = number;
}
