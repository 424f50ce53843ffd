-- Worked examples of log points that grow.
use Rattle.std.proofs.Common.{ℕ, pos, [], ◌∷◌, refl, ap, ◌≡◌}
use Rattle.oyster_account.specs.declared.touch.Act.TheVariants.{Issue}
use Rattle.reply_book.specs.declared.entry.Entry.{Entry}
use Rattle.tap_desk.specs.Listed.{AreGrowing, HaveGrownTo}

-- gate 7 issues this card
abbrev issue : ℕ → Entry
issue card = record {
  touch = record { gate = 7; number = card; card = card; act = Issue 1_736_149_800 };
  reply = record { verdict = 8; change = pos 0; balance = pos 0 };
  seat = 1;
}

-- the list of no entry, that of one, the same again, and that of two grew in this order
grows : AreGrowing ((issue 1 ∷ issue 2 ∷ []) ∷ (issue 1 ∷ []) ∷ (issue 1 ∷ []) ∷ [] ∷ [])
grows = (
  ((issue 2 ∷ [], refl), ((issue 2 ∷ [], refl), ((issue 1 ∷ issue 2 ∷ [], refl), tt))),
  ((([], refl), ((issue 1 ∷ [], refl), tt)), (((issue 1 ∷ [], refl), tt), (tt, tt))),
)

-- up to that of three
grows_on : HaveGrownTo ((issue 1 ∷ []) ∷ [] ∷ []) (issue 1 ∷ issue 2 ∷ issue 3 ∷ [])
grows_on = record {
  begins = ((issue 2 ∷ issue 3 ∷ [], refl), ((issue 1 ∷ issue 2 ∷ issue 3 ∷ [], refl), tt));
  growing = (((issue 1 ∷ [], refl), tt), (tt, tt));
}

-- a shorter list doesn't come after a longer one, though both begin a third
no_shorter : AreGrowing ([] ∷ (issue 1 ∷ []) ∷ []) → ⊥
no_shorter grown = absurd (cc (grown.0.0.1))

-- nor does a list of another entry
no_other : AreGrowing ((issue 2 ∷ issue 1 ∷ []) ∷ (issue 1 ∷ []) ∷ []) → ⊥
no_other grown =
    let same : issue 1 ≡ issue 2 = cc (grown.0.0.1) in
    let cards : 1 ≡ 2 = ap (λ (e : Entry). e.touch.card) same in
    absurd (cc cards)
