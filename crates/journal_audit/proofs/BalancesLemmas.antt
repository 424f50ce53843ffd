-- How a fault of a part is that of the whole.
use Rattle.std.proofs.Common.{◌≡◌, ◌⊎◌, ℕ, List, [], Option, Some, Err, inl, inr, refl, sym, subst, ap, ◌∙◌}
use Rattle.std.specs.Prelude.{All}
use Rattle.reply_book.specs.Tables.{Tables}
use Rattle.tap_journal.specs.declared.fault.Refused.{Refused}
use Rattle.tap_journal.specs.declared.fault.JournalFault.TheVariants.{Memory as MemoryRefused}
use Rattle.tap_journal.specs.Alone.{HasCauseAlone}
use Rattle.tap_journal.specs.Found.{found_alone}
use Rattle.fare_table.specs.Fares.{digest_of}
use Rattle.journal_audit.specs.declared.fault.AuditFault.{AuditFault}
use Rattle.journal_audit.specs.declared.fault.AuditFault.TheVariants.{Memory, Write, Journal, Header as OtherHeader}
use Rattle.journal_audit.specs.declared.fault.AuditFault.TheVariants.{Seal, Gate, Card, Place, Balance}
use Rattle.journal_audit.specs.Balances.{HasRefused, HasWritten, HasRows, AreBalances, HasPlace, touches_before}
use Rattle.journal_audit.specs.Balances.{HasRefusedTouches, AreTouchesOf}
use Rattle.journal_audit.specs.declared.balances.row.Row.{Row}
use Rattle.journal_audit.specs.declared.balances.totals.Totals.{Totals}
use Rattle.journal_audit.specs.Totals.{totals_of, AreTotalsBalanced}
use Rattle.journal_audit.specs.BalancesLines.{text_of_rows}
use Rattle.journal_audit.specs.BalancesRows.{rows_of, IsBalanced}
use Rattle.oyster_account.specs.declared.reply.Judged.{Judged}
use Rattle.reply_book.specs.Legal.{book}
use Rattle.reply_book.specs.Names.{AreNamedOnce}
use Rattle.reply_book.specs.Tables.{AreKnown}
use Rattle.journal_audit.specs.Audit.{IsJournal, IsRefusedAlone}
use Rattle.journal_audit.proofs.AuditLemmas.{none-memory}
use Rattle.journal_audit.proofs.AccountLemmas.{rows-account}
use Rattle.oyster_account.specs.declared.touch.Touch.{Touch}
use Rattle.tap_journal.specs.declared.layout.Format.{Format}
use Rattle.tap_journal.specs.Layout.{Header}

-- the fault of a reading alone is that of the balances, by the digest of the first table
pub refused-alone : (tables : Tables) (at : Option ℕ) (bytes digest : List ℕ) (refused : Refused)
    → digest ≡ digest_of tables.first
    → (refused.cause ≡ MemoryRefused) ⊎ HasCauseAlone (Some digest) bytes refused.cause
    → refused.found ≡ found_alone (Some digest) bytes refused.cause → HasRefused tables at bytes (Journal refused)
refused-alone tables at bytes digest refused same (inl memory) found =
    inl (none-memory refused (Some digest) bytes memory found)
refused-alone tables at bytes digest refused same (inr alone) found =
    inr (inl (subst (λ (d : List ℕ). IsRefusedAlone (Some d) bytes refused) same (alone, found)))

-- and that of entering the touches
pub refused-touches : (tables : Tables) (at : Option ℕ) (bytes : List ℕ) (h : Header) (touches : List Touch)
    (fault : AuditFault) → AreTouchesOf tables at bytes h touches → HasRefusedTouches tables h.cards touches fault
    → HasRefused tables at bytes fault
refused-touches tables at bytes h touches Memory journal refused = tt
refused-touches tables at bytes h touches Write journal refused = absurd refused
refused-touches tables at bytes h touches (Journal fault) journal (inl memory) = inl memory
refused-touches tables at bytes h touches (Journal fault) journal (inr cause) =
    inr (inr (record { h = h; touches = touches; journal = journal; not_entered = cause }))
refused-touches tables at bytes h touches (OtherHeader fault) journal refused = absurd refused
refused-touches tables at bytes h touches (Seal fault) journal refused = absurd refused
refused-touches tables at bytes h touches (Gate fault) journal refused = absurd refused
refused-touches tables at bytes h touches (Card card cards) journal refused = absurd refused
refused-touches tables at bytes h touches (Place count) journal refused = absurd refused
refused-touches tables at bytes h touches (Balance card) journal refused = absurd refused

-- where bytes are refused nothing is written
pub refused-nothing : (tables : Tables) (at : Option ℕ) (bytes : List ℕ) (fault : AuditFault)
    → HasRefused tables at bytes fault → HasWritten tables at bytes [] (Err fault)
refused-nothing tables at bytes Memory refused = refl
refused-nothing tables at bytes Write refused = absurd refused
refused-nothing tables at bytes (Journal fault) refused = (refl, refused)
refused-nothing tables at bytes (OtherHeader fault) refused = absurd refused
refused-nothing tables at bytes (Seal fault) refused = absurd refused
refused-nothing tables at bytes (Gate fault) refused = absurd refused
refused-nothing tables at bytes (Card card cards) refused = absurd refused
refused-nothing tables at bytes (Place count) refused = (refl, refused)
refused-nothing tables at bytes (Balance card) refused = absurd refused

-- ---- the rows after the touches that were entered

pub rows-told : (tables own : Tables) (cards : ℕ) (touches : List Touch) (history : List Judged) (rows : List Row)
    → own ≡ tables → history ≡ book tables cards touches → AreNamedOnce touches → AreKnown tables touches
    → rows ≡ rows_of own cards history → All IsBalanced rows → HasRows tables cards touches rows
rows-told tables own cards touches history rows same are once known is balanced =
    record {
      entered = (once, known);
      are =
          is ∙ ap (λ (t : Tables). rows_of t cards history) same ∙ ap (λ (h : List Judged). rows_of tables cards h) are;
      balanced = balanced;
    }

-- ---- the whole

pub balances-told : (tables : Tables) (at : Option ℕ) (bytes : List ℕ) (format : Format) (h : Header)
    (all seen touches : List Touch) (rows shown summed : List Row) (text : List ℕ) (totals : Totals)
    → IsJournal (Some tables) bytes format h all → seen ≡ all → HasPlace at seen → touches ≡ touches_before at seen
    → HasRows tables h.cards touches rows → shown ≡ rows → summed ≡ rows → text ≡ text_of_rows shown
    → totals ≡ totals_of summed → AreTotalsBalanced totals → AreBalances tables at bytes text totals
balances-told tables at bytes format h all seen touches rows shown summed text totals journal same there before has
    shows sums lines are balanced =
    record {
      h = h;
      touches = touches;
      journal = record {
        format = format;
        all = seen;
        journal = subst (λ (l : List Touch). IsJournal (Some tables) bytes format h l) (sym same) journal;
        there = there;
        before = before;
      };
      entered = has.entered;
      rows = subst (All IsBalanced) has.are has.balanced;
      accounts =
          rows-account tables h.cards (book tables h.cards touches) (subst (All IsBalanced) has.are has.balanced);
      lines = lines ∙ ap text_of_rows (shows ∙ has.are);
      sums = are ∙ ap totals_of (sums ∙ has.are);
      balanced = balanced;
    }
