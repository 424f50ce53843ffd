-- The tables of some words: with one more behind them, and where one isn't taken.
use Rattle.std.proofs.Common.{◌≡◌, ◌+◌, ◌<◌, ℕ, List, [], ◌∷◌, ◌++◌, map, take, drop, length, get_or, Result, Ok, Err}
use Rattle.std.proofs.Common.{sym, ap, ◌∙◌, arith}
use Rattle.std.specs.Prelude.{IfErr, IsErrAnd}
use Rattle.std.proofs.lemmas.List.{map-append, take_more, take-append-drop, append_assoc, length-map, length-take-le}
use Rattle.table_check.specs.Tables.{IsTableIn, AreTablesIn, IsTaken, IsNotTaken, IsFurtherFault, IsTableFault}
use Rattle.table_check.specs.Tables.{IsTableInFault}
use Rattle.fare_schedule.specs.Schedule.{tables_of}
use Rattle.reply_book.specs.Tables.{tables_in}
use Rattle.text_io.specs.declared.fault.RunFault.TheVariants as runs
use Rattle.console.specs.declared.fault.TrialFault.{TrialFault}
use Rattle.console.specs.declared.fault.TrialFault.TheVariants.{Line, File, Table, Supply, Station, Run, BadLine}
use Rattle.fare_schedule.specs.declared.schedule.Schedule.{Schedule}
use Rattle.fare_table.specs.declared.fares.Fares.{Fares}

-- what a `?` hands on is said of what it was given
pub handed-on : {T E : Type 0} (P : E → Type 0) (r : Result T E) (e : E) → IsErrAnd r (λ x. x ≡ e) → P e → IfErr r P
handed-on P (Ok x) e is p = absurd is
handed-on P (Err x) e is p = rw is p

-- one more word, and the table in its file
tables-next : (gave : List ℕ → List ℕ → Type 0) (paths : List (List ℕ)) (tables : List Fares) (path : List ℕ)
    (table : Fares)
    → AreTablesIn gave paths tables → IsTableIn gave path table
    → AreTablesIn gave (paths ++ path ∷ []) (tables ++ table ∷ [])
unfolding AreTablesIn
tables-next gave [] [] path table are is = (is, tt)
tables-next gave [] (t ∷ ts) path table are is = absurd are
tables-next gave (p ∷ ps) [] path table are is = absurd are
tables-next gave (p ∷ ps) (t ∷ ts) path table are is = (are.0, tables-next gave ps ts path table are.1 is)

module _ {X : Type 0} (f : X → List ℕ) (words : List X) (place : ℕ) (word : X) (within : place < length words) where
  words-next : map f (take (place + 1) words) ≡ map f (take place words) ++ f (get_or words place word) ∷ []
  words-next = ap (map f) (take_more words place word within) ∙ map-append f (take place words)
      (get_or words place word ∷ [])

  words-split : map f words ≡ map f (take place words) ++ f (get_or words place word) ∷ map f (drop (place + 1) words)
  words-split =
      ap (map f) (sym (take-append-drop (place + 1) words))
      ∙ map-append f (take (place + 1) words) (drop (place + 1) words)
      ∙ ap (λ l. l ++ map f (drop (place + 1) words)) words-next
      ∙ append_assoc (map f (take place words)) (f (get_or words place word) ∷ []) (map f (drop (place + 1) words))

  -- the next word was taken: the schedule has its table behind the others
  pub supplied-next : (gave : List ℕ → List ℕ → Type 0) (old new : Schedule)
      → AreTablesIn gave (map f (take place words)) (tables_in old).supplied
      → IsTaken gave old (f (get_or words place word)) new
      → AreTablesIn gave (map f (take (place + 1) words)) (tables_in new).supplied
  supplied-next gave old new are taken =
      let behind : (tables_in new).supplied ≡ (tables_in old).supplied ++ taken.0 ∷ [] = cc (taken.2) in
      rw words-next (rw behind (tables-next gave (map f (take place words)) (tables_in old).supplied
      (f (get_or words place word)) taken.0 are taken.1))

  -- the next word wasn't taken: those before it were
  pub refused-next : (gave : List ℕ → List ℕ → Type 0) (first : Fares) (schedule : Schedule) (fault : TrialFault)
      (told : ℕ)
      → told ≡ place → (tables_in schedule).first ≡ first
      → AreTablesIn gave (map f (take place words)) (tables_in schedule).supplied
      → IsNotTaken gave schedule (f (get_or words place word)) (told + 1) fault
      → IsFurtherFault gave first (map f words) fault
  refused-next gave first schedule fault told same is are refused =
      let count : length (map f (take place words)) ≡ told =
      length-map (take place words) f ∙ length-take-le place words (omega (arith, within)) ∙ sym same in
      record {
        taken = map f (take place words);
        path = f (get_or words place word);
        later = map f (drop (place + 1) words);
        words = words-split;
        schedule = schedule;
        first_is = is;
        supplied = are;
        cause = rw count refused;
      }

-- and it is the front one still
pub front-next : (gave : List ℕ → List ℕ → Type 0) (path : List ℕ) (old new : Schedule) → IsTaken gave old path new
    → (tables_in new).first ≡ (tables_in old).first
front-next gave path old new taken = cc (taken.2)

-- before the first word the schedule has the first table alone
pub first-alone : (gave : List ℕ → List ℕ → Type 0) (first : Fares) (schedule : Schedule)
    → tables_of schedule ≡ first ∷ []
    → ((tables_in schedule).first ≡ first) × AreTablesIn gave [] (tables_in schedule).supplied
unfolding AreTablesIn
first-alone gave first schedule alone =
    let none : (tables_in schedule).supplied ≡ [] = cc alone in
    (cc alone, rw none tt)

-- what is said of a fault, as what it is a case of
pub said-more : {T E : Type 0} {P Q : E → Type 0} (r : Result T E) → ((e : E) → P e → Q e) → IfErr r P → IfErr r Q
said-more (Ok x) more said = tt
said-more (Err e) more said = more e said

-- why bytes are no table is why the file that gave them holds none
pub in-file : (gave : List ℕ → List ℕ → Type 0) (path bytes : List ℕ) → gave path bytes → (fault : TrialFault)
    → IsTableFault bytes fault → IsTableInFault gave path fault
in-file gave path bytes given (Line _) is = absurd is
in-file gave path bytes given (File _) is = absurd is
in-file gave path bytes given (Table fault _) is = (bytes, given, is)
in-file gave path bytes given (Supply _ _ _) is = absurd is
in-file gave path bytes given (Station _) is = absurd is
in-file gave path bytes given (Run runs.Memory) is = tt
in-file gave path bytes given (Run runs.Read) is = absurd is
in-file gave path bytes given (Run runs.Write) is = absurd is
in-file gave path bytes given (BadLine _) is = absurd is
