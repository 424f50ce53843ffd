use Rattle.std.proofs.Common.{◌≡◌, ℕ, ◌*◌, ◌<◌, ◌++◌, [], ◌∷◌, List, length, take, drop, ap, ◌∙◌, arith}
use Rattle.std.proofs.lemmas.List.{length-append, length-drop, length-take-le, take-append-le, take_more_set}
use Rattle.line_replay.proofs.HexLineLemmas.{encode_lower-take}
use Rattle.line_replay.proofs.hex_line.write_line.Goals as goal

pub slice_bounds-encode-end-3 : goal.slice_bounds-encode-end-3
slice_bounds-encode-end-3 c = omega (arith, length-take-le 44 c.args.line.now (omega (arith, c.requires.room)))

pub encode-requires : goal.encode-requires
encode-requires c =
    omega (arith, c.told-frame, length-take-le 44 c.args.line.now (omega (arith, c.requires.room)))

-- the digits of the bytes that count stand in front of those of all, and a line feed is put behind them
pub returns-clause-line : goal.returns-clause-line
returns-clause-line c =
    let size = c.args.size in
    let digits = c.encode.new.digits in
    let rest : List ℕ = drop 44 c.args.line.now in
    let made : length digits ≡ 44 =
    omega (arith, c.encode.auto.digits, length-take-le 44 c.args.line.now (omega (arith, c.requires.room))) in
    let within : 2 * size < length (digits ++ rest) =
    omega (arith, length-append digits rest, length-drop 44 c.args.line.now, c.requires.size, c.requires.room, made) in
    take_more_set (digits ++ rest) (2 * size) 10 within
    ∙ ap (λ (l : List ℕ). l ++ 10 ∷ [])
    (take-append-le (2 * size) digits rest (omega (arith, c.requires.size, made))
    ∙ ap (take (2 * size)) c.encode.ensures ∙ encode_lower-take size c.args.frame.now)
