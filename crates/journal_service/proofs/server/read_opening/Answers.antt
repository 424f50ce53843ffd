use Rattle.std.proofs.Common.{◌≡◌, ℕ, List, length, subst}
use Rattle.std.specs.Prelude.{IfSome, Option, Some, None}
use Rattle.reply_book.specs.Legal.{touches_of}
use Rattle.tap_journal.specs.declared.layout.Format.TheVariants.{Second}
use Rattle.tap_journal.specs.Alone.{open_behind}
use Rattle.tap_journal.specs.Image.{Image}
use Rattle.tap_journal.specs.Layout.{Header}
use Rattle.oyster_account.specs.declared.touch.Touch.{Touch}
use Rattle.journal_audit.specs.Behind.{AreFew, HasFewBehind}
use Rattle.journal_service.proofs.server.read_opening.Goals as goal

-- where they were counted, and are few, so many are behind the journal's end
few_known : (behind : Option ℕ) (h : Header) (touches : List Touch) (bytes : List ℕ) → Image h touches bytes
    → AreFew behind
    → IfSome behind (λ counted. counted ≡ open_behind Second h.capacity (length touches) bytes) → HasFewBehind bytes
few_known (Some counted) h touches bytes image few is = (
  counted,
  record { format = Second; header = h; touches = touches; image = image; counted = is },
  few,
)
few_known None h touches bytes image few is = absurd few

-- the journal that was read has at most two open slots behind its end
pub returns-in_ok-look_behind-in-Ok : goal.returns-in_ok-look_behind-in-Ok
returns-in_ok-look_behind-in-Ok g c strict honest =
    few_known c.in-Ok.opening.behind c.in-Ok.opening.header (touches_of c.in-Ok.opening.recovered)
    (g.D.Disk.content c.args.disk) (c.in-Ok.ensures.found honest)
    (subst AreFew c.behind.ensures (c.in_ok-look_behind-in-Ok.ensures.strict strict)) (c.in-Ok.ensures.behind honest)
