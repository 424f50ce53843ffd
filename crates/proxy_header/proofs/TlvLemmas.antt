-- A byte list is one row of TLVs at most.
use Rattle.std.proofs.Common.{◌≡◌, ℕ, ◌+◌, ◌≤◌, ◌/◌, ◌%◌, Bool, true, false, cond, List, [], ◌∷◌, ◌++◌, length, get_or}
use Rattle.std.proofs.Common.{drop, refl, sym, ap, subst, ◌∙◌, append_assoc, arith}
use Rattle.std.specs.Prelude.{flat_map, nat_eq}
use Rattle.std.proofs.lemmas.Bool.{eq-eqb, ne_eqb}
use Rattle.std.proofs.lemmas.List.{append-nil, length-append}
use Rattle.std.proofs.lemmas.List.Concat.{flat_map-cons, flat_map-append}
use Rattle.std.proofs.lemmas.List.Elements.{All-nil, All-cons, All-append, All-head, All-tail}
use Rattle.proxy_header.specs.Tlvs.{TypeLengthValue, tlv_bytes, TlvFits, IsRow, values_of}
use Rattle.proxy_header.proofs.ListLemmas.{same_parts}

-- ---- one TLV

-- no TLV begins another
pub one_tlv : (a b : TypeLengthValue) (x y : List ℕ) → TlvFits a → TlvFits b → tlv_bytes a ++ x ≡ tlv_bytes b ++ y
    → (a ≡ b) × (x ≡ y)
one_tlv a b x y fa fb e =
    let kinds : a.kind ≡ b.kind = ap (λ (l : List ℕ). get_or l 0 0) e in
    let high : length a.value / 256 % 256 ≡ length b.value / 256 % 256 = ap (λ (l : List ℕ). get_or l 1 0) e in
    let low : length a.value % 256 ≡ length b.value % 256 = ap (λ (l : List ℕ). get_or l 2 0) e in
    let len : length a.value ≡ length b.value = omega arith in
    let tails : a.value ++ x ≡ b.value ++ y = ap (drop 3) e in
    let parts = same_parts a.value b.value x y len tails in
    let of : ℕ → List ℕ → TypeLengthValue = λ kind value. record { kind = kind; value = value } in
    (ap (λ (kind : ℕ). of kind a.value) kinds ∙ ap (λ (value : List ℕ). of b.kind value) parts.0, parts.1)

-- ---- rows

-- a row's bytes begin with its first TLV
row_begins : (bytes : List ℕ) (tlv : TypeLengthValue) (tlvs : List TypeLengthValue) (rest : List ℕ)
    → IsRow bytes (tlv ∷ tlvs) rest → bytes ≡ tlv_bytes tlv ++ (flat_map tlv_bytes tlvs ++ rest)
row_begins bytes tlv tlvs rest row = row.parts ∙ ap (λ (l : List ℕ). l ++ rest) (flat_map-cons tlv_bytes tlv tlvs)
    ∙ append_assoc (tlv_bytes tlv) (flat_map tlv_bytes tlvs) rest

row_after : (bytes : List ℕ) (tlv : TypeLengthValue) (tlvs : List TypeLengthValue) (rest : List ℕ)
    → IsRow bytes (tlv ∷ tlvs) rest → IsRow (flat_map tlv_bytes tlvs ++ rest) tlvs rest
row_after bytes tlv tlvs rest row = record { parts = refl; fits = All-tail TlvFits tlv tlvs row.fits }

-- one more TLV of the row
pub row_step : (bytes rest after : List ℕ) (tlvs : List TypeLengthValue) (tlv : TypeLengthValue) → IsRow bytes tlvs rest
    → TlvFits tlv → rest ≡ tlv_bytes tlv ++ after → IsRow bytes (tlvs ++ tlv ∷ []) after
row_step bytes rest after tlvs tlv row fits e = record {
  parts = row.parts ∙ ap (λ (l : List ℕ). flat_map tlv_bytes tlvs ++ l) (e ∙ ap (λ (l : List ℕ). l ++ after)
      (sym (append-nil (tlv_bytes tlv)))) ∙ sym (append_assoc (flat_map tlv_bytes tlvs) (tlv_bytes tlv ++ []) after)
      ∙ ap (λ (l : List ℕ). l ++ after) (sym (flat_map-append tlv_bytes tlvs (tlv ∷ [])));
  fits = All-append TlvFits tlvs (tlv ∷ []) row.fits (All-cons TlvFits tlv [] fits (All-nil TlvFits));
}

-- what the bytes begin with is the beginning of each row that they are
pub row_split : (bytes rest : List ℕ) (passed all : List TypeLengthValue) → IsRow bytes passed rest
    → IsRow bytes all []
    → (others : List TypeLengthValue) × (all ≡ passed ++ others) × IsRow rest others []
row_split bytes rest [] all row whole = (all, refl, subst (λ (l : List ℕ). IsRow l all []) row.parts whole)
row_split bytes rest (tlv ∷ passed) [] row whole =
    let e : [] ≡ tlv_bytes tlv ++ (flat_map tlv_bytes passed ++ rest) =
    sym whole.parts ∙ row_begins bytes tlv passed rest row in
    absurd cc
row_split bytes rest (tlv ∷ passed) (first ∷ all) row whole =
    let same = one_tlv first tlv (flat_map tlv_bytes all ++ []) (flat_map tlv_bytes passed ++ rest)
    (All-head TlvFits first all whole.fits) (All-head TlvFits tlv passed row.fits)
    (sym (row_begins bytes first all [] whole) ∙ row_begins bytes tlv passed rest row) in
    let inner : IsRow (flat_map tlv_bytes passed ++ rest) all [] =
    subst (λ (l : List ℕ). IsRow l all []) same.1 (row_after bytes first all [] whole) in
    let found = row_split (flat_map tlv_bytes passed ++ rest) rest passed all (row_after bytes tlv passed rest row)
    inner in (
      found.0,
      ap (λ (t : TypeLengthValue). t ∷ all) same.0 ∙ ap (λ (l : List TypeLengthValue). tlv ∷ l) found.1,
      found.2,
    )

-- bytes are one row at most
pub one_row : (bytes : List ℕ) (a b : List TypeLengthValue) → IsRow bytes a [] → IsRow bytes b [] → a ≡ b
one_row bytes a b p q = let found = row_split bytes [] a b p q in
    sym (found.1 ∙ ap (λ (l : List TypeLengthValue). a ++ l) (none found.0 found.2) ∙ append-nil a)
  where
    none : (others : List TypeLengthValue) → IsRow [] others [] → others ≡ []
    none [] row = refl
    none (tlv ∷ others) row = let e = row_begins [] tlv others [] row in absurd cc

-- bytes that don't begin with a TLV are no row
pub no_row : (bytes : List ℕ) (tlvs : List TypeLengthValue) → (bytes ≡ [] → ⊥)
    → ((tlv : TypeLengthValue) (rest : List ℕ) → TlvFits tlv → bytes ≡ tlv_bytes tlv ++ rest → ⊥)
    → IsRow bytes tlvs [] → ⊥
no_row bytes [] some never row = some row.parts
no_row bytes (tlv ∷ tlvs) some never row = never tlv (flat_map tlv_bytes tlvs ++ [])
    (All-head TlvFits tlv tlvs row.fits) (row_begins bytes tlv tlvs [] row)

-- ---- values

-- a value more, or not, at the front of two lists
chosen : (b : Bool) (value : List ℕ) (all first later : List (List ℕ)) → all ≡ first ++ later
    → cond b (value ∷ all) all ≡ cond b (value ∷ first) first ++ later
chosen true value all first later e = ap (λ (l : List (List ℕ)). value ∷ l) e
chosen false value all first later e = e

pub values_of-append : (kind : ℕ) (a b : List TypeLengthValue)
    → values_of kind (a ++ b) ≡ values_of kind a ++ values_of kind b
values_of-append kind [] b = refl
values_of-append kind (tlv ∷ a) b = chosen (nat_eq tlv.kind kind) tlv.value (values_of kind (a ++ b))
    (values_of kind a) (values_of kind b) (values_of-append kind a b)

pub values_of-same : (kind : ℕ) (tlv : TypeLengthValue) (tlvs : List TypeLengthValue) → tlv.kind ≡ kind
    → values_of kind (tlv ∷ tlvs) ≡ tlv.value ∷ values_of kind tlvs
values_of-same kind tlv tlvs e =
    ap (λ (b : Bool). cond b (tlv.value ∷ values_of kind tlvs) (values_of kind tlvs)) (eq-eqb tlv.kind kind e)

pub values_of-other : (kind : ℕ) (tlv : TypeLengthValue) (tlvs : List TypeLengthValue) → (tlv.kind ≡ kind → ⊥)
    → values_of kind (tlv ∷ tlvs) ≡ values_of kind tlvs
values_of-other kind tlv tlvs ne =
    ap (λ (b : Bool). cond b (tlv.value ∷ values_of kind tlvs) (values_of kind tlvs)) (ne_eqb tlv.kind kind ne)

-- a row that begins with a TLV of this type has its value
begins_value : (kind : ℕ) (bytes after : List ℕ) (tlv : TypeLengthValue) (tlvs : List TypeLengthValue) → TlvFits tlv
    → bytes ≡ tlv_bytes tlv ++ after → tlv.kind ≡ kind → IsRow bytes tlvs []
    → (others : List TypeLengthValue) × (values_of kind tlvs ≡ tlv.value ∷ values_of kind others)
begins_value kind bytes after tlv [] fits e is row = let none = sym row.parts ∙ e in absurd cc
begins_value kind bytes after tlv (first ∷ tlvs) fits e is row =
    let same = one_tlv first tlv (flat_map tlv_bytes tlvs ++ []) after (All-head TlvFits first tlvs row.fits) fits
    (sym (row_begins bytes first tlvs [] row) ∙ e) in (
      tlvs,
      ap (λ (t : TypeLengthValue). values_of kind (t ∷ tlvs)) same.0 ∙ values_of-same kind tlv tlvs is,
    )

-- a value that was found before makes two
pub second_value : (kind : ℕ) (bytes rest after : List ℕ) (passed all : List TypeLengthValue) (tlv : TypeLengthValue)
    → IsRow bytes passed rest → TlvFits tlv → rest ≡ tlv_bytes tlv ++ after → tlv.kind ≡ kind
    → 1 ≤ length (values_of kind passed) → IsRow bytes all [] → length (values_of kind all) ≤ 1 → ⊥
second_value kind bytes rest after passed all tlv row fits e is some whole few =
    let split = row_split bytes rest passed all row whole in
    let more = begins_value kind rest after tlv split.0 fits e is split.2 in
    let joined : values_of kind all ≡ values_of kind passed ++ (tlv.value ∷ values_of kind more.0) =
    ap (values_of kind) split.1 ∙ values_of-append kind passed split.0
    ∙ ap (λ (l : List (List ℕ)). values_of kind passed ++ l) more.1 in
    let sizes : length (values_of kind all)
    ≡ length (values_of kind passed) + length (tlv.value ∷ values_of kind more.0) =
    ap length joined ∙ length-append (values_of kind passed) (tlv.value ∷ values_of kind more.0) in
    omega arith
