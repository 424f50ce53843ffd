use Rattle.std.proofs.Common.{◌++◌, take, Ok, refl, sym, ap, subst, ◌∙◌, arith}
use Rattle.std.specs.Io.KnownBytes.{Consumes}
use Rattle.std.proofs.KnownBytes.{Consumes-trans, Consumes-kept}
use Rattle.text_io.specs.declared.fault.RunFault.TheVariants.{Memory}
use Rattle.text_io.specs.Reading.{IsReadFault}
use Rattle.text_io.proofs.ReadLemmas.{left-unread, Consumes-none, Consumes-end}
use Rattle.text_io.proofs.read.read_all.Goals as goal

pub loop-init : goal.loop-init
loop-init g c = record {
  taken = Consumes-none (g.R.Read.remaining c.args.reader.now) c.new-bytes.result.items c.new-bytes.ensures.items;
  room = refl;
}

-- a read that failed gave nothing
pub returns-in_err-size-clause-err : goal.returns-in_err-size-clause-err
returns-in_err-size-clause-err g c =
    left-unread (g.R.Read.remaining c.args.reader.now) (g.R.Read.remaining c.read_piece.new.reader) c.loop.bytes.items
    c.from_residual.result c.in_err-size.field-0.0
    c.from_residual.ensures.1
    (Consumes-kept (g.R.Read.remaining c.args.reader.now) (g.R.Read.remaining c.loop.reader)
    (g.R.Read.remaining c.read_piece.new.reader) c.loop.bytes.items c.loop.invariant.taken
    c.in_err-size.ensures.err.1)
    (subst IsReadFault (sym c.in_err-size.ensures.err.0) tt)

pub returns-then-size-eq0-clause-ok : goal.returns-then-size-eq0-clause-ok
returns-then-size-eq0-clause-ok g c =
    Consumes-end (g.R.Read.remaining c.args.reader.now) (g.R.Read.remaining c.loop.reader)
    (g.R.Read.remaining c.read_piece.new.reader) c.loop.bytes.items c.read_piece.new.piece c.in_ok-size.size
    c.loop.invariant.taken c.in_ok-size.ensures.ok.1 c.if-size-eq0.true

pub returns-then-size-eq0-clause-end : goal.returns-then-size-eq0-clause-end
returns-then-size-eq0-clause-end g c = c.in_ok-size.ensures.end (ap Ok c.if-size-eq0.true)
    (omega (arith, c.loop.invariant.room))

pub returns-in_err-extend_from_slice-clause-err : goal.returns-in_err-extend_from_slice-clause-err
returns-in_err-extend_from_slice-clause-err g c =
    left-unread (g.R.Read.remaining c.args.reader.now) (g.R.Read.remaining c.read_piece.new.reader)
    (c.loop.bytes.items ++ take c.in_ok-size.size c.read_piece.new.piece)
    c.from_residual-in_err-extend_from_slice.result Memory c.from_residual-in_err-extend_from_slice.ensures.1
    (Consumes-trans (g.R.Read.remaining c.args.reader.now) (g.R.Read.remaining c.loop.reader)
    (g.R.Read.remaining c.read_piece.new.reader) c.loop.bytes.items
    (take c.in_ok-size.size c.read_piece.new.piece) c.loop.invariant.taken c.in_ok-size.ensures.ok.1) tt

pub loop-preserved : goal.loop-preserved
loop-preserved g c = record {
  taken = subst (Consumes (g.R.Read.remaining c.args.reader.now) (g.R.Read.remaining c.read_piece.new.reader))
      (sym c.in_ok-extend_from_slice.ensures.items)
      (Consumes-trans (g.R.Read.remaining c.args.reader.now) (g.R.Read.remaining c.loop.reader)
      (g.R.Read.remaining c.read_piece.new.reader) c.loop.bytes.items
      (take c.in_ok-size.size c.read_piece.new.piece) c.loop.invariant.taken c.in_ok-size.ensures.ok.1);
  room = c.read_piece.auto.piece ∙ c.loop.invariant.room;
}
