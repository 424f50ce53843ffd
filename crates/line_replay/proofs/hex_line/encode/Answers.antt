use Rattle.std.proofs.Common.{◌≡◌, ℕ, List, [], ◌∷◌, ◌++◌, ◌+◌, ◌*◌, ◌-◌, ◌/◌, ◌%◌, take, drop, slice_index, refl, ap}
use Rattle.std.proofs.Common.{◌∙◌, arith}
use Rattle.hex.specs.Hex.{lower_digits, encode_lower}
use Rattle.hex.proofs.Pairs.{encode_step, encode_done}
use Rattle.line_replay.proofs.DigitLemmas.{put-pair}
use Rattle.line_replay.proofs.hex_line.encode.Goals as goal

-- the two digits of the byte stand behind those of the bytes before it
pub bytes-preserved : goal.bytes-preserved
bytes-preserved c =
    let place = c.bytes.place in
    let bytes = c.args.bytes.now in
    let digits = c.bytes.digits in
    let first = slice_index lower_digits (slice_index bytes place / 16) in
    let second = slice_index lower_digits (slice_index bytes place % 16) in
    let two : (2 * place + 2) - 2 * place ≡ 2 = omega arith in
    let pair : c.copy_from_slice.new.self ≡ first ∷ second ∷ [] = c.copy_from_slice.ensures.after
    ∙ c.digits_of-pair.ensures in
    let put = ap (λ (l : List ℕ). take (2 * place) digits ++ (l ++ drop ((2 * place + 2) - 2 * place) (drop
    (2 * place) digits))) pair
    ∙ put-pair digits (2 * place) ((2 * place + 2) - 2 * place) first second two (omega arith) in
    ap (λ (l : List ℕ). take (2 * (place + 1)) l ++ encode_lower (drop (place + 1) bytes)) put
    ∙ encode_step lower_digits bytes digits place first second (omega arith) (omega arith) refl refl c.bytes.invariant

pub returns : goal.returns
returns c = encode_done lower_digits _ _ c.bytes.place (omega arith) (omega arith) c.bytes.invariant
