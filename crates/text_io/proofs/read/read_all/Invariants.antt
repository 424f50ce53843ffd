use Rattle.std.proofs.Common.{◌≡◌, length}
use Rattle.std.specs.Io.KnownBytes.{Consumes}
use Rattle.text_io.proofs.read.read_all.Given as goal

-- the bytes so far are those that were read
abbrev pub invariant-loop : goal.invariant-loop
invariant-loop g l = record {
  taken : Consumes (g.R.Read.remaining l.initial.reader) (g.R.Read.remaining l.reader) l.bytes.items;
  room : length l.block ≡ 1024;
}
