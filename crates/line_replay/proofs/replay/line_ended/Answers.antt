use Rattle.std.proofs.Common.{◌<◌, ◌++◌, length, sym, ◌∙◌, arith}
use Rattle.std.proofs.lemmas.List.{length-append}
use Rattle.line_replay.proofs.HexLineLemmas.{request_of_line-long, request_of_line-empty}
use Rattle.line_replay.proofs.replay.line_ended.Goals as goal

pub returns-then-len-bytes-gt-LINE_LIMIT : goal.returns-then-len-bytes-gt-LINE_LIMIT
returns-then-len-bytes-gt-LINE_LIMIT c =
    let line = c.args.begun.now.items ++ c.args.bytes.now in
    let long : 128 < length line =
    omega (
      arith,
      c.if-len-bytes-gt-LINE_LIMIT.true,
      c.len.ensures,
      c.args.begun.now.ok.0,
      length-append
          c.args.begun.now.items c.args.bytes.now,
    ) in
    request_of_line-empty ∙ sym (request_of_line-long line long)
