use Rattle.std.proofs.Common.{◌≡◌, ◌+◌, ◌-◌, ◌≤◌, ◌<◌, ℕ, List, [], ◌++◌, Option, Result, Ok, Err, length, take, drop}
use Rattle.std.proofs.Common.{take-add, take-append-drop, append-nil, subst, sym, ap, ◌∙◌, arith}
use Rattle.std.specs.Prelude.{IfErr}
use Rattle.std.specs.Io.{WritesAtMost}
use Rattle.std.proofs.lemmas.List.{length-drop, length-take, take_rest}
use Rattle.std.specs.Io.KnownBytes.{Appends, WriteAppends}
use Rattle.std.proofs.KnownBytes.{Appends-kept, Appends-nil, Appends-trans}
use Rattle.text_io.specs.declared.write.WriteFault.{WriteFault}
use Rattle.text_io.specs.Writing.{IsCutShort, IsSizeTaken}
use Rattle.text_io.proofs.write.write_whole.Goals as goal

-- what a write took
took : {E : Type 0} (old new : Option (List ℕ)) (buf : List ℕ) (write : Result ℕ E) (size : ℕ)
    → IsSizeTaken write (Ok size) → WritesAtMost write buf → WriteAppends old new write buf
    → (size ≤ length buf) × Appends old new (take size buf)
took old new buf (Ok taken) size is bound bytes =
    (omega (arith, is.0, bound), subst (λ (n : ℕ). Appends old new (take n buf)) (sym is.0) bytes)
took old new buf (Err error) size is bound bytes = absurd is

-- a write that failed took nothing
took_none : {E : Type 0} (old new : Option (List ℕ)) (buf : List ℕ) (write : Result ℕ E) (fault : WriteFault)
    → IsSizeTaken write (Err fault) → WriteAppends old new write buf → Appends old new []
took_none old new buf (Ok taken) fault none bytes = subst (λ (n : ℕ). Appends old new (take n buf)) none bytes
took_none old new buf (Err error) fault is bytes = Appends-kept old old new [] (Appends-nil old) bytes

-- what this write took stands behind what was written
more : (text : List ℕ) (at size : ℕ) → take at text ++ take size (take (length text - at) (drop at text)) ≡ take
    (at + size) text
more text at size = ap (λ (l : List ℕ). take at text ++ take size l) (take_rest text at) ∙ sym (take-add at size text)

-- what lies behind a place within the text is missing
cut : (text : List ℕ) (at : ℕ) → at < length text → IsCutShort (take at text) text
cut text at within = record {
  missing = drop at text;
  parts = sym (take-append-drop at text);
  some = λ none. let gone = ap length none in omega (arith, gone, length-drop at text);
}

any_fault : {P : Type 0} (result : Result Unit WriteFault) → P → IfErr result (λ _. P)
any_fault (Ok done) p = tt
any_fault (Err fault) p = p

pub returns-in_err-at-clause-err : goal.returns-in_err-at-clause-err
returns-in_err-at-clause-err g c = any_fault c.from_residual.result (record {
  text = take c.loop-at.at c.args.text.now;
  appended = subst (Appends _ _) (append-nil (take c.loop-at.at c.args.text.now))
      (Appends-trans _ _ _ _ _ c.loop-at.invariant.written (took_none _ _ _ c.write.result _ c.in_err-at.ensures
      c.write.ensures.bytes));
  says = cut c.args.text.now c.loop-at.at c.loop-at-test.true;
})

pub loop-at-preserved : goal.loop-at-preserved
loop-at-preserved g c =
    let size = c.in_ok-at.field-0 in
    let now = took _ _ _ c.write.result size c.in_ok-at.ensures c.write.ensures.bound c.write.ensures.bytes in
    record {
      within = omega (arith, now.0, length-take {A = ℕ}, length-drop {A = ℕ});
      written = subst (Appends _ _) (more c.args.text.now c.loop-at.at size)
          (Appends-trans _ _ _ _ _ c.loop-at.invariant.written now.1);
    }
