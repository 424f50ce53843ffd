use Rattle.std.proofs.Common.{◌≡◌, ℕ, ◌+◌, ◌-◌, ◌≤◌, List, ◌++◌, Option, Result, Ok, Err, length, take}
use Rattle.std.proofs.Common.{sym, ap, subst, ◌∙◌, arith, rules, length-take-le}
use Rattle.std.proofs.Math.Seq.{take-append-add}
use Rattle.std.proofs.lemmas.List.{take-append-le}
use Rattle.std.specs.Io.{ReadsAtMost}
use Rattle.std.specs.Io.KnownBytes.{Consumes, ReadConsumes}
use Rattle.std.proofs.KnownBytes.{Consumes-trans}
use borrow.Rule.Slice.PartMut.{put_mid, post_of}
use Rattle.proxy_header.specs.Reading.{IsSizeRead}
use Rattle.proxy_header.proofs.fill.fill.Goals as goal

-- what stands in a piece up to the place behind a read
take_read : (at room size : ℕ) (piece read : List ℕ) → at ≤ length piece → size ≤ length read
    → take (at + size) (put_mid at room piece read) ≡ take at piece ++ take size read
take_read at room size piece read within fits =
    ap (λ (n : ℕ). take (n + size) (put_mid at room piece read)) (sym (length-take-le at piece within))
    ∙ take-append-add (take at piece) (read ++ post_of at room piece) size
    ∙ ap (λ (l : List ℕ). take at piece ++ l) (take-append-le size read (post_of at room piece) fits)

-- what a read gave
gave : {E : Type 0} (old new : Option (List ℕ)) (buf : List ℕ) (read : Result ℕ E) (size : ℕ)
    → IsSizeRead read (Ok size) → ReadsAtMost read buf → ReadConsumes old new read buf
    → (size ≤ length buf) × Consumes old new (take size buf)
gave old new buf (Ok given) size is bound bytes =
    (omega (arith, is.0, bound), subst (λ (n : ℕ). Consumes old new (take n buf)) (sym is.0) bytes.0)
gave old new buf (Err error) size is bound bytes = absurd is

pub loop-at-preserved : goal.loop-at-preserved
loop-at-preserved g c =
    let at = c.loop-at.at in
    let size = c.in_ok-at.field-0 in
    let piece = c.loop-at.piece in
    let room = length piece - at in
    let within = c.loop-at.invariant.within in
    let now = gave _ _ _ c.read.result size c.in_ok-at.ensures c.read.ensures.bound c.read.ensures.bytes in
    let same : length (put_mid at room piece c.read.new.buf) ≡ length piece = search rules in
    record {
      within = omega (arith, now.0, same, c.read.auto.buf);
      room = same ∙ c.loop-at.invariant.room;
      taken = subst (Consumes _ _) (sym (take_read at room size piece c.read.new.buf within now.0))
          (Consumes-trans _ _ _ _ _ c.loop-at.invariant.taken now.1);
    }
