-- What a sum's tally counts: for each output key the inner keys that count for it.
use Rattle.std.specs.Prelude.{◌≡◌, ℕ, ◌+◌, ◌-◌, ◌≤◌, ◌==◌, ◌⊎◌, Bool, true, false, nat_lt, List, [], ◌∷◌, slice_get, Option, Some, None, if◌then◌else◌}
use Rattle.std.specs.List.{flat_map, list_any}
use Rattle.std.specs.Map.{lookup}
use Rattle.std.specs.Option.{unwrap_or}
use Rattle.atom_record.specs.declared.value.MetricKey.{MetricKey}
use Rattle.bucket_meaning.specs.Guard.{is_among}
use Rattle.metric_kinds.specs.Keys.{is_same_key}
use Rattle.predicate_state.specs.PredicateTable.{LeafKey}
use Rattle.duration_metric.specs.declared.inner.Known.{Known}
use Rattle.duration_metric.specs.declared.inner.Inner.{Inner}
use Rattle.duration_metric.specs.declared.inner.InnerTable.{InnerTable}
use Rattle.duration_metric.specs.SumCalls.{known_out}

-- the output key for which an inner key counts that has this count, and was told this
abbrev pub out_for : ℕ → Option Known → List MetricKey
out_for count known = if nat_lt 0 count then known_out known else []

-- the output key for which the inner key of a row counts
abbrev pub row_out : LeafKey × Inner → List MetricKey
row_out row = out_for row.1.count row.1.known

-- one where a key is the other
abbrev pub one : MetricKey → MetricKey → ℕ
one key other = if is_same_key key other then 1 else 0

-- how often a key stands among some
abbrev pub how_often : MetricKey → List MetricKey → ℕ
how_often key [] = 0
how_often key (other ∷ keys) = one other key + how_often key keys

-- how many a tally counts for a key
abbrev pub tally_at : List (MetricKey × ℕ) → MetricKey → ℕ
tally_at tally key = unwrap_or (lookup (is_same_key key) tally) 0

-- whether a tally counts any for a key
abbrev pub is_counted : List (MetricKey × ℕ) → MetricKey → Bool
is_counted tally key = nat_lt 0 (tally_at tally key)

-- one more is counted for a key
abbrev pub Raises : List (MetricKey × ℕ) → List (MetricKey × ℕ) → MetricKey → Type 0
Raises old new key = (other : MetricKey) → tally_at new other ≡ tally_at old other + one key other

-- one fewer is
abbrev pub Lowers : List (MetricKey × ℕ) → List (MetricKey × ℕ) → MetricKey → Type 0
Lowers old new key = (other : MetricKey) → tally_at new other ≡ tally_at old other - one key other

-- as many are counted for each key
abbrev pub CountsSame : List (MetricKey × ℕ) → List (MetricKey × ℕ) → Type 0
CountsSame old new = (key : MetricKey) → tally_at new key ≡ tally_at old key

-- as much is counted as before, and each of these keys once more
abbrev pub RaisesAll : List (MetricKey × ℕ) → List (MetricKey × ℕ) → List MetricKey → Type 0
RaisesAll old new keys = (key : MetricKey) → tally_at new key ≡ tally_at old key + how_often key keys

-- no more than so many are counted for a key
abbrev pub CountsFew : List (MetricKey × ℕ) → ℕ → Type 0
CountsFew tally most = (key : MetricKey) → tally_at tally key ≤ most

-- a key that a tally has, and counts none for, is among these
abbrev pub ZerosAmong : List (MetricKey × ℕ) → List MetricKey → Type 0
ZerosAmong tally some =
    (key : MetricKey) → lookup (is_same_key key) tally ≡ Some 0 → is_among is_same_key key some ≡ true

-- a key that the new tally has, and counts none for, was such a key before, or is among these
abbrev pub NewZeros : List (MetricKey × ℕ) → List (MetricKey × ℕ) → List MetricKey → Type 0
NewZeros old new some = (key : MetricKey) → lookup (is_same_key key) new ≡ Some 0
    → (lookup (is_same_key key) old ≡ Some 0) ⊎ (is_among is_same_key key some ≡ true)

-- it was such a key before, and where it is among the first of these it is among the last
abbrev pub Forgets : List (MetricKey × ℕ) → List (MetricKey × ℕ) → List MetricKey → List MetricKey → Type 0
Forgets old new some rows = (key : MetricKey) → lookup (is_same_key key) new ≡ Some 0
    → (lookup (is_same_key key) old ≡ Some 0)
    × (is_among is_same_key key some ≡ true → is_among is_same_key key rows ≡ true)

-- the output key that was told
abbrev pub known_key : Option Known → List MetricKey
known_key None = []
known_key (Some known) = known.out ∷ []

-- the output key that was told, where the tally counts for it
abbrev pub freed_key : Bool → Option Known → List MetricKey
freed_key tallied known = if tallied then known_key known else []

-- the output key for which an inner key is in the tally
abbrev pub tallied_key : Inner → List MetricKey
tallied_key inner = freed_key inner.tallied inner.known

-- and that of a row
abbrev pub row_tallied : LeafKey × Inner → List MetricKey
row_tallied row = tallied_key row.1

-- that of a row that may not be there
abbrev pub left_key : Option Inner → List MetricKey
left_key None = []
left_key (Some inner) = tallied_key inner

-- the place was touched since the tally was right
abbrev pub was_touched : List ℕ → ℕ → Bool
was_touched places place = list_any (λ other. other == place) places

-- how many inner keys a tally counts for a key: those that are in it, and those that left it
abbrev pub counted_in : InnerTable → MetricKey → ℕ
counted_in it key = how_often key (flat_map row_tallied it.keys.rows) + how_often key it.gone

-- a tally counts each inner key that is in it, and each that left it
abbrev pub CountsAll : (MetricKey → ℕ) → List (LeafKey × Inner) → List MetricKey → Type 0
CountsAll tally rows gone =
    (key : MetricKey) → tally key ≡ how_often key (flat_map row_tallied rows) + how_often key gone

-- a tally of the old inner keys is one of the new ones
abbrev pub KeepsCounts : InnerTable → InnerTable → Type 0
KeepsCounts old new = (key : MetricKey) → counted_in new key ≡ counted_in old key

-- an inner key that wasn't touched is in the tally for the key for which it counts
abbrev pub AreSteady : List ℕ → List (LeafKey × Inner) → Type 0
AreSteady touched rows = (place : ℕ) (row : LeafKey × Inner) → slice_get rows place ≡ Some row
    → was_touched touched place ≡ false → row_tallied row ≡ row_out row

-- an inner key is in the tally, and counts for no key any more
abbrev pub IsOff : LeafKey × Inner → Type 0
IsOff row = (row.1.tallied ≡ true) × (row_out row ≡ [])

-- an inner key that isn't at these places is in the tally for the key for which it counts, or for none any more
abbrev pub AreLooked : List ℕ → List (LeafKey × Inner) → Type 0
AreLooked left rows = (place : ℕ) (row : LeafKey × Inner) → slice_get rows place ≡ Some row
    → was_touched left place ≡ false → (row_tallied row ≡ row_out row) ⊎ IsOff row

-- A tally is as right as the table knows.
pub record IsTallied (it : InnerTable) (tally : MetricKey → ℕ) : Type 0 where
  pub all : CountsAll tally it.keys.rows it.gone
  pub steady : AreSteady it.touched it.keys.rows

-- Nothing was touched since the tally was right.
pub record IsSettled (it : InnerTable) : Type 0 where
  pub none_touched : it.touched ≡ []
  pub none_gone : it.gone ≡ []

-- where nothing was touched, inner keys that aren't touched are in the tally still for the keys for which they count
abbrev pub KeepsSteady : InnerTable → InnerTable → Type 0
KeepsSteady old new =
    IsSettled old → AreSteady old.touched old.keys.rows → AreSteady new.touched new.keys.rows
