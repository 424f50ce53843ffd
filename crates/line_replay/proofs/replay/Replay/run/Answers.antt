use Rattle.std.proofs.Common.{◌≡◌, ℕ, take, refl, subst, ap, ◌∙◌, arith}
use Rattle.line_replay.specs.declared.fault.LineReplayFault.TheVariants.{Run}
use Rattle.text_io.specs.declared.fault.RunFault.TheVariants.{Memory, Read}
use Rattle.line_replay.specs.Progress.{output_from}
use Rattle.line_replay.proofs.OutputLemmas.{on_ok-any}
use Rattle.line_replay.proofs.RunLemmas.{Ran-nothing, Ran-begins, Ran-unread, Ran-over, Ran-more, Ran-end, Ran-stopped}
use Rattle.line_replay.proofs.RunLemmas.{passed-is, front-same}
use Rattle.std.proofs.lemmas.List.{length-take}
use Rattle.std.proofs.Common.{Ok}
use Rattle.std.specs.Io.KnownBytes.{Consumes}
use Rattle.line_replay.proofs.replay.Replay.run.Goals as goal
use Rattle.line_replay.proofs.replay.Replay.run.Goals.{After-deref}
use Rattle.line_replay.proofs.replay.Replay.run.Given.{Over}

pub returns-in_err-piece-clause-written : goal.returns-in_err-piece-clause-written
returns-in_err-piece-clause-written g c =
    Ran-nothing (output_from c.args.self.now) (g.R.Read.remaining c.args.reader.now)
    (g.W.Write.contents c.args.writer.now) c.from_residual.result (Run Memory)
    c.from_residual.ensures.1 refl

pub loop-init : goal.loop-init
loop-init g c = record {
  ran = Ran-begins c.args.self.now (g.R.Read.remaining c.args.reader.now) (g.W.Write.contents c.args.writer.now);
  kept = c.requires.kept;
  answered = omega (arith, c.requires.new);
  room = c.in_ok-piece.ensures.len;
}

-- a read that failed gave nothing
pub returns-in_err-size-clause-written : goal.returns-in_err-size-clause-written
returns-in_err-size-clause-written g c =
    Ran-unread (output_from c.args.self.now) c.loop.self _ _ _ _ _ c.from_residual-in_err-size.result
    c.loop.invariant.ran c.in_err-size.ensures.err.1
    (passed-is c.from_residual-in_err-size.result (Run c.in_err-size.field-0.0) (Run Read)
    c.from_residual-in_err-size.ensures.1 (ap Run c.in_err-size.ensures.err.0))

-- the end of the input ends the last line
pub returns-then-size-eq0-clause-written : goal.returns-then-size-eq0-clause-written
returns-then-size-eq0-clause-written g c =
    Ran-end (output_from c.args.self.now) c.loop.self _ _ _ _ _ _
    (take c.in_ok-size.size c.read_piece.new.piece) c.end.result c.loop.invariant.ran c.in_ok-size.ensures.ok.1
    (ap (λ (n : ℕ). take n c.read_piece.new.piece) c.if-size-eq0.true) c.end.ensures

pub returns-then-size-eq0-clause-end : goal.returns-then-size-eq0-clause-end
returns-then-size-eq0-clause-end g c =
    let none : c.in_ok-size.size ≡ 0 = c.if-size-eq0.true in
    on_ok-any c.end.result
    (c.in_ok-size.ensures.end (ap Ok none) (omega (arith, c.deref_mut.ensures.len, c.loop.invariant.room)))

-- the piece that is taken is what the read gave
given : (g : Over) (c : After-deref g)
    → Consumes (g.R.Read.remaining c.loop.reader) (g.R.Read.remaining c.read_piece.new.reader)
    (take c.in_ok-size.size c.deref.result.now)
given g c =
    let same = front-same c.read_piece.new.piece _ c.deref.result.now _ c.in_ok-size.size
    (c.read_piece.auto.piece ∙ c.deref_mut.ensures.len) c.deref.ensures.value in
    subst (Consumes (g.R.Read.remaining c.loop.reader) (g.R.Read.remaining c.read_piece.new.reader)) same
    c.in_ok-size.ensures.ok.1

pub returns-in_err-answer_piece-clause-written : goal.returns-in_err-answer_piece-clause-written
returns-in_err-answer_piece-clause-written g c =
    Ran-stopped (output_from c.args.self.now) c.loop.self _ _ _ _ _ _
    (take c.in_ok-size.size c.deref.result.now) c.in_err-answer_piece.field-0.0
    c.from_residual-in_err-answer_piece.result c.loop.invariant.ran
    (given g (goal.at.returns-in_err-answer_piece-clause-written g c).After-deref)
    c.from_residual-in_err-answer_piece.ensures.1 c.in_err-answer_piece.ensures.err

pub loop-preserved : goal.loop-preserved
loop-preserved g c = record {
  ran = Ran-more (output_from c.args.self.now) c.loop.self c.answer_piece.new.self _ _ _ _ _ _
      (take c.in_ok-size.size c.deref.result.now) c.loop.invariant.ran
      (given g (goal.at.loop-preserved g c).After-deref) c.in_ok-answer_piece.ensures.ok;
  kept = c.in_ok-answer_piece.ensures.kept;
  answered = omega (
    arith,
    c.in_ok-answer_piece.ensures.answered,
    length-take {A = ℕ},
    c.in_ok-size.ensures.ok.0,
    c.read_piece.auto.piece,
    c.deref_mut.ensures.len,
    c.loop.invariant.room,
  );
  room = c.loop.invariant.room;
}

-- one read too many
pub returns-clause-written : goal.returns-clause-written
returns-clause-written g c = Ran-over (output_from c.args.self.now) c.loop.self _ _ _ _ c.loop.invariant.ran
