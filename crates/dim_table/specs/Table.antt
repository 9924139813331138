-- What a contract sees of a table: rows in the order in which their keys first came, a bound, and how many were
-- dropped.
use Rattle.std.specs.Prelude.{◌≡◌, ℕ, ◌+◌, ◌<◌, ◌≤◌, Bool, not, List, [], ◌∷◌, ◌++◌, length, filter, slice_get, Contains, Some, ◌⊎◌}
use Rattle.std.specs.Map.{keys_of}
pub use Rattle.indexmap.specs.Layout.{set_value_at}
use Rattle.bucket_meaning.specs.Limits.{most_keys}
use Rattle.bucket_meaning.specs.Guard.{admitted, dropped}
use Rattle.bucket_meaning.specs.Kept.{count_in_u64}
use Rattle.dim_table.specs.declared.answer.Admit.{Admit}
use Rattle.dim_table.specs.declared.answer.Admit.TheVariants.{At, Full}

-- Rows by key, the most keys that fit, and how many arrivals were dropped.
pub record Table (K V : Type 0) : Type 0 where
  pub rows : List (K × V)
  pub bound : ℕ
  pub dropped : ℕ

-- so many rows under such a bound are what a table may hold
pub record IsBounded (rows bound : ℕ) : Type 0 where
  pub least : 1 ≤ bound
  pub most : bound ≤ most_keys
  pub within : rows ≤ bound

module _ {K V : Type 0} where
  -- the keys, in the order in which they first came
  abbrev pub keys : Table K V → List K
  keys table = keys_of table.rows

  -- the key has a row, at this place, and the table stays as it is
  pub record IsThere (old new : Table K V) (key : K) (place : ℕ) : Type 0 where
    pub at : slice_get (keys old) place ≡ Some key
    pub same : new ≡ old

  -- the key is new and there is room: it gets a row after the others
  pub record IsNew (old new : Table K V) (key : K) (fresh : V) (place : ℕ) : Type 0 where
    pub absent : ¬ Contains (keys old) key
    pub room : length old.rows < old.bound
    pub last : place ≡ length old.rows
    pub added : new ≡ record old { rows = old.rows ++ (key, fresh) ∷ [] }

  -- the key is new and there is no room: the arrival is counted, and nothing else changes
  pub record IsTurnedAway (old new : Table K V) (key : K) : Type 0 where
    pub absent : ¬ Contains (keys old) key
    pub full : length old.rows ≡ old.bound
    pub added : new ≡ record old { dropped = count_in_u64 (old.dropped + 1) }

  -- what each answer to one more arrival says
  abbrev pub Admits : Table K V → Table K V → K → V → Admit → Type 0
  Admits old new key fresh (At place) = IsThere old new key place ⊎ IsNew old new key fresh place
  Admits old new key fresh Full = IsTurnedAway old new key

  -- the table with another value in the row at a place
  abbrev pub with_value_at : Table K V → ℕ → V → Table K V
  with_value_at table place value = record table { rows = set_value_at table.rows place value }

module _ {K V : Type 0} (same : K → K → Bool) where
  -- the table without the key's row; the other rows keep their order
  abbrev pub without : Table K V → K → Table K V
  without table key = record table { rows = filter (λ row. not (same key row.0)) table.rows }

  -- the table is what arrivals with these keys make of an empty one: the first keys are admitted, and all else is
  -- counted
  pub record TableStandsFor (table : Table K V) (arrived : List K) : Type 0 where
    pub keys_are : keys table ≡ admitted same table.bound arrived
    pub dropped_are : table.dropped ≡ count_in_u64 (dropped same table.bound arrived)

  -- whatever arrivals the old table stood for, the new one stands for those and this one
  abbrev pub TakesArrival : Table K V → Table K V → K → Type 0
  TakesArrival old new key = (arrived : List K) → TableStandsFor old arrived → TableStandsFor new (arrived ++ key ∷ [])
