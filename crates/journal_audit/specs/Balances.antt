-- What is told of the cards after the touches of a journal, and why some bytes are refused (this
-- project's choice).
use Rattle.std.specs.Prelude.{◌≡◌, ◌⊎◌, ◌≤◌, ◌<◌, ℕ, List, [], length, take, Option, Some, None}
use Rattle.std.specs.Prelude.{Result, Ok, Err, All}
use Rattle.oyster_account.specs.declared.touch.Touch.{Touch}
use Rattle.reply_book.specs.Legal.{book}
use Rattle.reply_book.specs.Tables.{Tables}
use Rattle.tap_journal.specs.declared.fault.Refused.{Refused}
use Rattle.tap_journal.specs.declared.layout.Format.{Format}
use Rattle.tap_journal.specs.Layout.{Header}
use Rattle.text_io.specs.Writing.{IsBeginning}
use Rattle.journal_audit.specs.Audit.{IsJournal, IsRefusedAlone}
use Rattle.journal_audit.specs.Touches.{digest_named, no_memory, AreEntered, HasTouchCause}
use Rattle.journal_audit.specs.declared.fault.AuditFault.{AuditFault}
use Rattle.journal_audit.specs.declared.fault.AuditFault.TheVariants.{Memory, Write, Journal, Seal}
use Rattle.journal_audit.specs.declared.fault.AuditFault.TheVariants.{Header as OtherHeader, Gate}
use Rattle.journal_audit.specs.declared.fault.AuditFault.TheVariants.{Card}
use Rattle.journal_audit.specs.declared.fault.AuditFault.TheVariants.{Place, Balance}
use Rattle.journal_audit.specs.declared.balances.row.Row.{Row}
use Rattle.journal_audit.specs.declared.balances.totals.Totals.{Totals}
use Rattle.journal_audit.specs.BalancesRows.{rows_of, IsBalanced}
use Rattle.journal_audit.specs.Account.{IsByAccount}
use Rattle.journal_audit.specs.Totals.{totals_of, AreTotalsBalanced}
use Rattle.journal_audit.specs.BalancesLines.{text_of_rows}

-- the touches before a place, where one is named, and else all
abbrev pub touches_before : Option ℕ → List Touch → List Touch
touches_before None touches = touches
touches_before (Some place) touches = take place touches

-- there are as many touches as stand before the place, where one is named
abbrev pub HasPlace : Option ℕ → List Touch → Type 0
HasPlace None touches = Unit {0}
HasPlace (Some place) touches = place ≤ length touches

-- the bytes are a journal of the first table with this header, and these are its touches up to the
-- place
pub record AreTouchesOf (tables : Tables) (at : Option ℕ) (bytes : List ℕ) (h : Header)
    (touches : List Touch) : Type 0 where
  pub format : Format
  pub all : List Touch
  pub journal : IsJournal (Some tables) bytes format h all
  pub there : HasPlace at all
  pub before : touches ≡ touches_before at all

-- the rows of the cards that were issued, after these touches
abbrev pub rows_after : Tables → ℕ → List Touch → List Row
rows_after tables cards touches = rows_of tables cards (book tables cards touches)

-- the touches can be entered, and these are the rows after them, each balanced
pub record HasRows (tables : Tables) (cards : ℕ) (touches : List Touch) (rows : List Row)
    : Type 0 where
  pub entered : AreEntered (Some tables) touches
  pub are : rows ≡ rows_after tables cards touches
  pub balanced : All IsBalanced rows

-- the bytes are a journal whose touches up to the place can be entered; the text and the totals are
-- those of the rows after them, and each row is balanced and by the account of its own card alone
pub record AreBalances (tables : Tables) (at : Option ℕ) (bytes text : List ℕ) (totals : Totals)
    : Type 0 where
  pub h : Header
  pub touches : List Touch
  pub journal : AreTouchesOf tables at bytes h touches
  pub entered : AreEntered (Some tables) touches
  pub rows : All IsBalanced (rows_after tables h.cards touches)
  pub accounts : All (IsByAccount tables (book tables h.cards touches))
      (rows_after tables h.cards touches)
  pub lines : text ≡ text_of_rows (rows_after tables h.cards touches)
  pub sums : totals ≡ totals_of (rows_after tables h.cards touches)
  pub balanced : AreTotalsBalanced totals

-- the bytes are a journal with a touch before the place that can't be entered, for this cause
pub record IsNoBook (tables : Tables) (at : Option ℕ) (bytes : List ℕ) (refused : Refused)
    : Type 0 where
  pub h : Header
  pub touches : List Touch
  pub journal : AreTouchesOf tables at bytes h touches
  pub not_entered : HasTouchCause tables h.cards touches refused.found refused.cause

-- memory was refused, or this is the first cause for which the bytes are no journal of the first
-- table, or for which its touches before the place can't be entered, with what was found beside it
abbrev pub IsRefused : Tables → Option ℕ → List ℕ → Refused → Type 0
IsRefused tables at bytes refused = (refused ≡ no_memory)
    ⊎ IsRefusedAlone (digest_named (Some tables)) bytes refused ⊎ IsNoBook tables at bytes refused

-- the bytes are a journal of so many touches, and they are fewer than stand before the place
pub record IsBehind (tables : Tables) (at : Option ℕ) (bytes : List ℕ) (count : ℕ) : Type 0 where
  pub format : Format
  pub h : Header
  pub touches : List Touch
  pub place : ℕ
  pub journal : IsJournal (Some tables) bytes format h touches
  pub named : at ≡ Some place
  pub fewer : length touches < place
  pub all : count ≡ length touches

-- there are fewer touches than stand before the place that is named: so many
abbrev pub IsTooFar : Option ℕ → List Touch → AuditFault → Type 0
IsTooFar at touches Memory = ⊥
IsTooFar at touches Write = ⊥
IsTooFar at touches (Journal fault) = ⊥
IsTooFar at touches (OtherHeader fault) = ⊥
IsTooFar at touches (Seal fault) = ⊥
IsTooFar at touches (Gate fault) = ⊥
IsTooFar at touches (Card card cards) = ⊥
IsTooFar at touches (Place count) = (place : ℕ) × (at ≡ Some place) × (length touches < place)
    × (count ≡ length touches)
IsTooFar at touches (Balance card) = ⊥

-- there was no memory, or a touch can't be entered; after touches that can each row is balanced
abbrev pub HasRefusedTouches : Tables → ℕ → List Touch → AuditFault → Type 0
HasRefusedTouches tables cards touches Memory = Unit {0}
HasRefusedTouches tables cards touches Write = ⊥
HasRefusedTouches tables cards touches (Journal refused) = (refused ≡ no_memory)
    ⊎ HasTouchCause tables cards touches refused.found refused.cause
HasRefusedTouches tables cards touches (OtherHeader fault) = ⊥
HasRefusedTouches tables cards touches (Seal fault) = ⊥
HasRefusedTouches tables cards touches (Gate fault) = ⊥
HasRefusedTouches tables cards touches (Card card count) = ⊥
HasRefusedTouches tables cards touches (Place count) = ⊥
HasRefusedTouches tables cards touches (Balance card) = ⊥

-- why these bytes are refused: the first cause, or there was no memory. No card is ever told that
-- doesn't hold what was paid in less what was charged
abbrev pub HasRefused : Tables → Option ℕ → List ℕ → AuditFault → Type 0
HasRefused tables at bytes Memory = Unit {0}
HasRefused tables at bytes Write = ⊥
HasRefused tables at bytes (Journal fault) = IsRefused tables at bytes fault
HasRefused tables at bytes (OtherHeader fault) = ⊥
HasRefused tables at bytes (Seal fault) = ⊥
HasRefused tables at bytes (Gate fault) = ⊥
HasRefused tables at bytes (Card card cards) = ⊥
HasRefused tables at bytes (Place count) = IsBehind tables at bytes count
HasRefused tables at bytes (Balance card) = ⊥

-- what a fault leaves written: nothing, but where a write failed a beginning of the text
abbrev pub HasEnded : Tables → Option ℕ → List ℕ → List ℕ → AuditFault → Type 0
HasEnded tables at bytes text Memory = text ≡ []
HasEnded tables at bytes text Write = (whole : List ℕ) × (totals : Totals)
    × AreBalances tables at bytes whole totals × IsBeginning text whole
HasEnded tables at bytes text (Journal fault) = (text ≡ []) × IsRefused tables at bytes fault
HasEnded tables at bytes text (OtherHeader fault) = ⊥
HasEnded tables at bytes text (Seal fault) = ⊥
HasEnded tables at bytes text (Gate fault) = ⊥
HasEnded tables at bytes text (Card card cards) = ⊥
HasEnded tables at bytes text (Place count) = (text ≡ []) × IsBehind tables at bytes count
HasEnded tables at bytes text (Balance card) = ⊥

-- where there was no fault, the text and the totals are the balances
abbrev pub HasWritten : Tables → Option ℕ → List ℕ → List ℕ → Result Totals AuditFault → Type 0
HasWritten tables at bytes text (Ok totals) = AreBalances tables at bytes text totals
HasWritten tables at bytes text (Err fault) = HasEnded tables at bytes text fault
