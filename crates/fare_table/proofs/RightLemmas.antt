-- A key or a row has no fault exactly when it is right.
use Rattle.std.proofs.Common.{◌≡◌, ℕ, ◌+◌, Bool, true, false, ◌&&◌, if◌then◌else◌, List, [], ◌∷◌}
use Rattle.std.proofs.Common.{Option, Some, None, refl}
use Rattle.std.proofs.lemmas.List.Elements.{All-nil, All-cons, All-head, All-tail}
use Rattle.std.specs.List.{All}
use Rattle.toml.specs.Data.{Data, string, table, Members}
use Rattle.toml_reading.specs.First.{first}
use Rattle.toml_reading.proofs.FirstLemmas.{first_none, last_none, both-none, cons-none, some-none}
use Rattle.fare_table.specs.Keys.{is_required, shape_of, keys_of}
use Rattle.fare_table.specs.Tree.{value_at}
use Rattle.fare_table.specs.Causes.{has_type, in_range, in_order, fault_at, key_fault, keys_faults}
use Rattle.fare_table.specs.Causes.{row_faults, rows_faults}
use Rattle.fare_table.specs.Valid.{IsRightValue, IsRight, IsRightRow}
use Rattle.fare_table.specs.declared.key.Key.{Key}
use Rattle.fare_table.specs.declared.key.Key.TheVariants as key
use Rattle.fare_table.specs.declared.fault.Cause.{Cause}
use Rattle.fare_table.specs.declared.fault.Cause.TheVariants.{Missing, WrongType, Range}
use Rattle.fare_table.specs.declared.fault.TableFault.TheVariants as fault
use Rattle.fare_table.proofs.BoolLemmas.{if_none}

-- ---- keys

-- a test without which there would be something doesn't hold where there is nothing
unless_none : {X : Type 0} (b : Bool) (x : X) → (if b then Some x else None) ≡ None → b ≡ false
unless_none true x e = cc
unless_none false x e = refl

right-value : (n : ℕ) (key : Key) (ordered : Bool) (o : Option Data) → fault_at Missing key n ordered o ≡ None
    → fault_at WrongType key n ordered o ≡ None
    → fault_at Range key n ordered o ≡ None → IsRightValue key ordered o
right-value n key ordered None missing wrong range = unless_none (is_required key) (fault.Missing key n) missing
right-value n key ordered (Some d) missing wrong range =
    (if_none (has_type (shape_of key) d) _ wrong, if_none (in_range (shape_of key) d && ordered) _ range)

value-right : (cause : Cause) (n : ℕ) (key : Key) (ordered : Bool) (o : Option Data) → IsRightValue key ordered o
    → fault_at cause key n ordered o ≡ None
value-right Missing n key ordered None right = rw right refl
value-right Missing n key ordered (Some d) right = refl
value-right WrongType n key ordered None right = refl
value-right WrongType n key ordered (Some d) right = rw (right.0) refl
value-right Range n key ordered None right = refl
value-right Range n key ordered (Some d) right = rw (right.1) refl

-- where no key has a fault of any cause, each key is right
pub right-keys : (n : ℕ) (ms : Members) (keys : List Key) → first (keys_faults Missing n ms keys) ≡ None
    → first (keys_faults WrongType n ms keys) ≡ None
    → first (keys_faults Range n ms keys) ≡ None → All (IsRight ms) keys
right-keys n ms [] missing wrong range = All-nil (IsRight ms)
right-keys n ms (key ∷ keys) missing wrong range =
    let m = some-none (key_fault Missing n ms key) (keys_faults Missing n ms keys) missing in
    let w = some-none (key_fault WrongType n ms key) (keys_faults WrongType n ms keys) wrong in
    let r = some-none (key_fault Range n ms key) (keys_faults Range n ms keys) range in
    All-cons (IsRight ms) key keys (right-value n key (in_order key ms) (value_at key ms) m.0 w.0 r.0)
    (right-keys n ms keys m.1 w.1 r.1)

pub keys-right : (cause : Cause) (n : ℕ) (ms : Members) (keys : List Key) → All (IsRight ms) keys
    → first (keys_faults cause n ms keys) ≡ None
keys-right cause n ms [] all = refl
keys-right cause n ms (key ∷ keys) all =
    cons-none (key_fault cause n ms key) (keys_faults cause n ms keys)
    (value-right cause n key (in_order key ms) (value_at key ms) (All-head (IsRight ms) key keys all))
    (keys-right cause n ms keys (All-tail (IsRight ms) key keys all))

-- ---- rows

module _ (list : Key)
    (row-right : (n : ℕ) (d : Data) → first (row_faults Missing list n d) ≡ None
    → first (row_faults WrongType list n d) ≡ None
    → first (row_faults Range list n d) ≡ None → IsRightRow list d)
    (right-row : (cause : Cause) (n : ℕ) (d : Data) → IsRightRow list d
    → first (row_faults cause list n d) ≡ None) where
  pub right-rows : (n : ℕ) (ds : List Data) → first (rows_faults Missing list n ds) ≡ None
      → first (rows_faults WrongType list n ds) ≡ None
      → first (rows_faults Range list n ds) ≡ None → All (IsRightRow list) ds
  right-rows n [] missing wrong range = All-nil (IsRightRow list)
  right-rows n (d ∷ ds) missing wrong range =
      All-cons (IsRightRow list) d ds
      (row-right n d (first_none _ _ missing) (first_none _ _ wrong) (first_none _ _ range))
      (right-rows (n + 1) ds (last_none (row_faults Missing list n d) _ missing)
      (last_none (row_faults WrongType list n d) _ wrong)
      (last_none (row_faults Range list n d) _ range))

  pub rows-right : (cause : Cause) (n : ℕ) (ds : List Data) → All (IsRightRow list) ds
      → first (rows_faults cause list n ds) ≡ None
  rows-right cause n [] all = refl
  rows-right cause n (d ∷ ds) all =
      both-none (row_faults cause list n d) (rows_faults cause list (n + 1) ds)
      (right-row cause n d (All-head (IsRightRow list) d ds all))
      (rows-right cause (n + 1) ds (All-tail (IsRightRow list) d ds all))

-- a row of each list without a fault is right, and a right row has no fault
pub holiday-right : (n : ℕ) (d : Data) → first (row_faults Missing key.Holidays n d) ≡ None
    → first (row_faults WrongType key.Holidays n d) ≡ None
    → first (row_faults Range key.Holidays n d) ≡ None → IsRightRow key.Holidays d
holiday-right n (string s) missing wrong range = tt
holiday-right n d missing wrong range = cc

pub right-holiday : (cause : Cause) (n : ℕ) (d : Data) → IsRightRow key.Holidays d
    → first (row_faults cause key.Holidays n d) ≡ None
right-holiday cause n (string s) right = refl
right-holiday cause n d right = absurd right

pub station-right : (n : ℕ) (d : Data) → first (row_faults Missing key.Station n d) ≡ None
    → first (row_faults WrongType key.Station n d) ≡ None
    → first (row_faults Range key.Station n d) ≡ None → IsRightRow key.Station d
station-right n (table ms) missing wrong range = right-keys n ms (keys_of key.Station) missing wrong range
station-right n d missing wrong range = cc

pub right-station : (cause : Cause) (n : ℕ) (d : Data) → IsRightRow key.Station d
    → first (row_faults cause key.Station n d) ≡ None
right-station cause n (table ms) right = keys-right cause n ms (keys_of key.Station) right
right-station cause n d right = absurd right

pub single-right : (n : ℕ) (d : Data) → first (row_faults Missing key.Single n d) ≡ None
    → first (row_faults WrongType key.Single n d) ≡ None
    → first (row_faults Range key.Single n d) ≡ None → IsRightRow key.Single d
single-right n (table ms) missing wrong range = right-keys n ms (keys_of key.Single) missing wrong range
single-right n d missing wrong range = cc

pub right-single : (cause : Cause) (n : ℕ) (d : Data) → IsRightRow key.Single d
    → first (row_faults cause key.Single n d) ≡ None
right-single cause n (table ms) right = keys-right cause n ms (keys_of key.Single) right
right-single cause n d right = absurd right

pub pair-right : (n : ℕ) (d : Data) → first (row_faults Missing key.Pair n d) ≡ None
    → first (row_faults WrongType key.Pair n d) ≡ None
    → first (row_faults Range key.Pair n d) ≡ None → IsRightRow key.Pair d
pair-right n (table ms) missing wrong range = right-keys n ms (keys_of key.Pair) missing wrong range
pair-right n d missing wrong range = cc

pub right-pair : (cause : Cause) (n : ℕ) (d : Data) → IsRightRow key.Pair d
    → first (row_faults cause key.Pair n d) ≡ None
right-pair cause n (table ms) right = keys-right cause n ms (keys_of key.Pair) right
right-pair cause n d right = absurd right

pub cap-right : (n : ℕ) (d : Data) → first (row_faults Missing key.Cap n d) ≡ None
    → first (row_faults WrongType key.Cap n d) ≡ None
    → first (row_faults Range key.Cap n d) ≡ None → IsRightRow key.Cap d
cap-right n (table ms) missing wrong range = right-keys n ms (keys_of key.Cap) missing wrong range
cap-right n d missing wrong range = cc

pub right-cap : (cause : Cause) (n : ℕ) (d : Data) → IsRightRow key.Cap d
    → first (row_faults cause key.Cap n d) ≡ None
right-cap cause n (table ms) right = keys-right cause n ms (keys_of key.Cap) right
right-cap cause n d right = absurd right

pub interchange-right : (n : ℕ) (d : Data) → first (row_faults Missing key.Interchange n d) ≡ None
    → first (row_faults WrongType key.Interchange n d) ≡ None
    → first (row_faults Range key.Interchange n d) ≡ None → IsRightRow key.Interchange d
interchange-right n (table ms) missing wrong range = right-keys n ms (keys_of key.Interchange) missing wrong range
interchange-right n d missing wrong range = cc

pub right-interchange : (cause : Cause) (n : ℕ) (d : Data) → IsRightRow key.Interchange d
    → first (row_faults cause key.Interchange n d) ≡ None
right-interchange cause n (table ms) right = keys-right cause n ms (keys_of key.Interchange) right
right-interchange cause n d right = absurd right
