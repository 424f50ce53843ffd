use Rattle.std.proofs.Common.{arith, true, List, ◌≡◌, ◌+◌, ◌-◌, ◌^◌, length, ap, ◌∙◌, subst, sym, refl}
use Rattle.std.specs.List.{All, sum_by}
use Rattle.reply_book.specs.declared.book.Book.{Book}
use Rattle.reply_book.specs.declared.entry.Entry.{Entry}
use Rattle.tap_desk.specs.Desks.{DeskState}
use Rattle.tap_desk.specs.Listed.{HaveGrownTo}
use Rattle.reply_book.specs.Book.{entries_of}
use Rattle.tap_office.specs.Seat.{SeatState}
use Rattle.tap_office.specs.Keeper.{IsHaltedByDisk}
use Rattle.tap_office.specs.Close.{AreAtPlaces, IsReady, IsEnd}
use Rattle.tap_office.proofs.SettlingLemmas.{settled}
use Rattle.tap_office.proofs.KeeperLemmas.{is_end, moved}
use Rattle.tap_office.proofs.keeper.Keeper.close.Goals as goal

-- the audits of both ledgers give the two sums
pub returns-clause-settles : goal.returns-clause-settles
returns-clause-settles g c =
    let inside = c.self.inside in
    let counted = c.self.invariant.2 in
    let opened = g.N.Named.opened in
    let ls = c.args.seats.items in
    let made : inside.seats ≡ opened.seats = counted.seats in
    let all : length ls ≡ opened.seats = omega (arith, made, c.len.ensures, c.if-len-made.false) in
    let ready : All (IsReady (entries_of inside.book)) ls =
    subst (All (IsReady (entries_of inside.book))) c.deref.ensures.value (c.if-not-all_stand.ensures.ready refl) in
    let counts : c.gather-all.result.0.amount ≡ inside.ledger.total = c.audit.ensures.whole (c.gather-all.ensures.parts
    ∙ (all ∙ counted.shares)) in
    let signs : c.gather-all.result.1.amount ≡ inside.numbers.amount =
    c.audit-2.ensures.whole (c.gather-all.ensures.marks ∙ (all ∙ sym counted.numbers)) in
    let sum : sum_by (λ (l : SeatState). 2 ^ (l.number - 1)) ls + 1 ≡ 2 ^ opened.seats =
    ap (λ n. n + 1) (sym c.gather-all.ensures.weight ∙ signs) ∙ counted.powers in
    let grown : length (entries_of inside.book) ≡ length opened.recovered + sum_by
    (λ (l : SeatState). length l.receipts) ls =
    counted.grown ∙ ap (λ n. length opened.recovered + n) (sym counts ∙ c.gather-all.ensures.amount) in
    settled opened.recovered
    (entries_of inside.book) opened.seats ls counted.begins counted.none_filed all ready sum grown

-- what is published is the history
pub returns-clause-learnt : goal.returns-clause-learnt
returns-clause-learnt g c =
    let all : c.are_in-has_all.result ≡ true = cc in
    subst (λ (l : List Entry). All (λ (desk : DeskState). HaveGrownTo desk.points l) c.args.desks.now)
    c.self.invariant.1.list (c.are_in-has_all.ensures all)

-- what the lock kept
pub returns-clause-rest : goal.returns-clause-rest
returns-clause-rest g c =
    is_end g.N.Named.opened c.self.inside.book c.self.inside.halted c.self.inside.journal
    c.self.invariant.0 g.met.D.Disk.content_is_outcome c.close-disk.result c.close-disk.ensures
    c.self.invariant.2.begins

pub returns-then-len-made-clause-rest : goal.returns-then-len-made-clause-rest
returns-then-len-made-clause-rest g c =
    let same = c.unclosed.ensures in
    moved (λ book halted disk. IsEnd g.D.Disk.honest g.D.Disk.content g.D.Disk.outcome g.N.Named.opened
    book halted disk)
    _ _ _ _ _ _ same.1 same.3 same.2
    (is_end g.N.Named.opened c.self.inside.book c.self.inside.halted c.self.inside.journal
    c.self.invariant.0 g.met.D.Disk.content_is_outcome c.close-disk.result c.close-disk.ensures
    c.self.invariant.2.begins)

pub returns-then-not-all_stand-clause-rest : goal.returns-then-not-all_stand-clause-rest
returns-then-not-all_stand-clause-rest g c =
    let same = c.unclosed-then-not-all_stand.ensures in
    moved (λ book halted disk. IsEnd g.D.Disk.honest g.D.Disk.content g.D.Disk.outcome g.N.Named.opened
    book halted disk)
    _ _ _ _ _ _ same.1 same.3 same.2
    (is_end g.N.Named.opened c.self.inside.book c.self.inside.halted c.self.inside.journal
    c.self.invariant.0 g.met.D.Disk.content_is_outcome c.close-disk.result c.close-disk.ensures
    c.self.invariant.2.begins)

pub returns-then-not-has_all-clause-rest : goal.returns-then-not-has_all-clause-rest
returns-then-not-has_all-clause-rest g c =
    let same = c.unclosed-then-not-has_all.ensures in
    moved (λ book halted disk. IsEnd g.D.Disk.honest g.D.Disk.content g.D.Disk.outcome g.N.Named.opened
    book halted disk)
    _ _ _ _ _ _ same.1 same.3 same.2
    (is_end g.N.Named.opened c.self.inside.book c.self.inside.halted c.self.inside.journal
    c.self.invariant.0 g.met.D.Disk.content_is_outcome c.close-disk.result c.close-disk.ensures
    c.self.invariant.2.begins)

-- all stand
pub returns-clause-mismatch : goal.returns-clause-mismatch
returns-clause-mismatch g c =
    subst (All (AreAtPlaces (entries_of c.self.inside.book))) c.deref.ensures.value
    (c.if-not-all_stand.ensures.stand.0 refl)

-- or not
pub returns-then-not-all_stand-clause-mismatch : goal.returns-then-not-all_stand-clause-mismatch
returns-then-not-all_stand-clause-mismatch g c =
    let made : c.self.inside.seats ≡ g.N.Named.opened.seats = c.self.invariant.2.seats in
    let same = c.unclosed-then-not-all_stand.ensures in (
      λ _. (
        omega (arith, made, c.len.ensures, c.if-len-made.false),
        λ all.
            let stood = c.if-not-all_stand.ensures.stand.1
            (subst (All (AreAtPlaces (entries_of c.self.inside.book))) (sym c.deref.ensures.value)
            (subst (λ b. All (AreAtPlaces (entries_of b)) c.args.seats.items) same.1 all)) in
            absurd cc,
      ),
      λ _. same.0,
    )

-- a desk has learnt something else where all stand
pub returns-then-not-has_all-clause-mismatch : goal.returns-then-not-has_all-clause-mismatch
returns-then-not-has_all-clause-mismatch g c =
    let same = c.unclosed-then-not-has_all.ensures in (
      λ is. absurd cc,
      λ both.
          absurd (both.1 (subst (λ b. All (AreAtPlaces (entries_of b)) c.args.seats.items) (sym same.1)
          (subst (All (AreAtPlaces (entries_of c.self.inside.book))) c.deref.ensures.value
          (c.if-not-all_stand.ensures.stand.0 refl)))),
    )

-- a keeper that is halted was halted by its disk
pub returns-clause-failed : goal.returns-clause-failed
returns-clause-failed g c =
    subst (λ d. IsHaltedByDisk c.self.inside.halted (g.D.Disk.failed_calls d)) (sym c.close-disk.ensures)
    c.self.invariant.0.failed

pub returns-then-len-made-clause-failed : goal.returns-then-len-made-clause-failed
returns-then-len-made-clause-failed g c =
    let same = c.unclosed.ensures in
    moved (λ (book : Book) halted disk. IsHaltedByDisk halted (g.D.Disk.failed_calls disk)) _ _ _ _ _ _
    same.1 same.3 same.2
    (subst (λ d. IsHaltedByDisk c.self.inside.halted (g.D.Disk.failed_calls d)) (sym c.close-disk.ensures)
    c.self.invariant.0.failed)

pub returns-then-not-all_stand-clause-failed : goal.returns-then-not-all_stand-clause-failed
returns-then-not-all_stand-clause-failed g c =
    let same = c.unclosed-then-not-all_stand.ensures in
    moved (λ (book : Book) halted disk. IsHaltedByDisk halted (g.D.Disk.failed_calls disk)) _ _ _ _ _ _
    same.1 same.3 same.2
    (subst (λ d. IsHaltedByDisk c.self.inside.halted (g.D.Disk.failed_calls d)) (sym c.close-disk.ensures)
    c.self.invariant.0.failed)

pub returns-then-not-has_all-clause-failed : goal.returns-then-not-has_all-clause-failed
returns-then-not-has_all-clause-failed g c =
    let same = c.unclosed-then-not-has_all.ensures in
    moved (λ (book : Book) halted disk. IsHaltedByDisk halted (g.D.Disk.failed_calls disk)) _ _ _ _ _ _
    same.1 same.3 same.2
    (subst (λ d. IsHaltedByDisk c.self.inside.halted (g.D.Disk.failed_calls d)) (sym c.close-disk.ensures)
    c.self.invariant.0.failed)
