use Rattle.std.proofs.Common.{◌≡◌, ◌≤◌, ℕ, List, [], ◌∷◌, ◌++◌, length, refl, sym, ap, ◌∙◌, arith}
use Rattle.std.proofs.Common.{Option, Some, None, true, false, Bor}
use Rattle.std.specs.Prelude.{option_copied, option_to_list, is_some, nat_eq}
use Rattle.std.proofs.lemmas.Bool.{false≢true}
use Rattle.std.proofs.lemmas.List.{append-nil}
use Rattle.proxy_header.specs.Tlvs.{TypeLengthValue, values_of}
use Rattle.proxy_header.proofs.TlvLemmas.{row_split, row_step, no_row, second_value, values_of-append}
use Rattle.proxy_header.proofs.TlvLemmas.{values_of-same, values_of-other}
use Rattle.proxy_header.proofs.tlv.only_value.Goals as goal

-- a value that was found before, or not
some_found : (found : Option (Bor (List ℕ))) (values : List (List ℕ)) → values ≡ option_to_list (option_copied found)
    → is_some found ≡ true → 1 ≤ length values
some_found None values e is = absurd cc
some_found (Some value) values e is = let len = ap length e in omega arith

none_found : (found : Option (Bor (List ℕ))) (values : List (List ℕ)) → values ≡ option_to_list (option_copied found)
    → is_some found ≡ false → values ≡ []
none_found None values e is = e
none_found (Some value) values e is = absurd cc

pub returns-in_default-clause-err : goal.returns-in_default-clause-err
returns-in_default-clause-err c = (
  refl,
  λ tlvs whole few.
      let passed = c.loop-rest.invariant in
      let split = row_split c.args.bytes.now c.loop-rest.rest.now passed.0 tlvs passed.1 whole in
      no_row c.loop-rest.rest.now split.0
      (λ none. let empty = ap (λ (l : List ℕ). nat_eq (length l) 0) none in
      false≢true (c.loop-rest-test.ensures ∙ empty)) c.in_default.ensures.none split.2,
)

pub returns-then-is_some-clause-err : goal.returns-then-is_some-clause-err
returns-then-is_some-clause-err c = (
  refl,
  λ tlvs whole few.
      let passed = c.loop-rest.invariant in
      let tlv : TypeLengthValue = record { kind = c.in-Some.tlv_kind; value = c.in-Some.value.now } in
      let some = some_found c.loop-rest.found (values_of c.args.kind passed.0) passed.2 (sym c.if-is_some.ensures) in
      second_value c.args.kind c.args.bytes.now c.loop-rest.rest.now c.in-Some.after.now passed.0 tlvs tlv passed.1
      c.in-Some.ensures.found.0 c.in-Some.ensures.found.1 c.if-tlv_kind-kind.true some whole few,
)

pub loop-rest-preserved-else-is_some : goal.loop-rest-preserved-else-is_some
loop-rest-preserved-else-is_some c =
    let passed = c.loop-rest.invariant in
    let tlv : TypeLengthValue = record { kind = c.in-Some.tlv_kind; value = c.in-Some.value.now } in
    let none = none_found c.loop-rest.found (values_of c.args.kind passed.0) passed.2 (sym c.if-is_some.ensures) in (
      passed.0 ++ tlv ∷ [],
      row_step c.args.bytes.now c.loop-rest.rest.now c.in-Some.after.now passed.0 tlv passed.1
          c.in-Some.ensures.found.0 c.in-Some.ensures.found.1,
      values_of-append c.args.kind passed.0 (tlv ∷ [])
          ∙ ap (λ (l : List (List ℕ)). l ++ values_of c.args.kind (tlv ∷ []))
          none ∙ values_of-same c.args.kind tlv [] c.if-tlv_kind-kind.true,
    )

pub loop-rest-preserved : goal.loop-rest-preserved
loop-rest-preserved c =
    let passed = c.loop-rest.invariant in
    let tlv : TypeLengthValue = record { kind = c.in-Some.tlv_kind; value = c.in-Some.value.now } in (
      passed.0 ++ tlv ∷ [],
      row_step c.args.bytes.now c.loop-rest.rest.now c.in-Some.after.now passed.0 tlv passed.1
          c.in-Some.ensures.found.0 c.in-Some.ensures.found.1,
      values_of-append c.args.kind passed.0 (tlv ∷ [])
          ∙ ap (λ (l : List (List ℕ)). values_of c.args.kind passed.0 ++ l)
          (values_of-other c.args.kind tlv [] c.if-tlv_kind-kind.false)
          ∙ append-nil (values_of c.args.kind passed.0) ∙ passed.2,
    )
