-- How the steps of a producer of sums change its table and its rows.
use Rattle.std.specs.Prelude.{◌≡◌, ◌⊎◌, Bool, ℕ, ◌+◌, ◌^◌, ◌<◌, ◌≤◌, nat_lt, if◌then◌else◌, true, false, not, List, [], ◌∷◌, ◌++◌, map, filter, length, slice_get, Option, Some, None}
use Rattle.std.specs.List.{flat_map, IsDistinct}
use Rattle.std.specs.Map.{keys_of}
use Rattle.atom_record.specs.declared.value.MetricKey.{MetricKey}
use Rattle.bucket_meaning.specs.Guard.{is_among, firsts, admitted, dropped}
use Rattle.bucket_meaning.specs.Kept.{count_in_u64}
use Rattle.dim_table.specs.declared.answer.Admit.{Admit}
use Rattle.dim_table.specs.Table.{Table, keys, Admits, with_value_at}
use Rattle.kept_rows.specs.KeptRows.{AddsRows}
use Rattle.metric_kinds.specs.Keys.{is_same_key}
use Rattle.metric_kinds.specs.Counts.{row_weight}
use Rattle.metric_kinds.specs.Runs.{newly}
use Rattle.predicate_state.specs.PredicateTable.{LeafKey}
use Rattle.duration_metric.specs.declared.inner.Known.{Known}
use Rattle.duration_metric.specs.declared.inner.Inner.{Inner}
use Rattle.duration_metric.specs.declared.sum.Span.{Span}
use Rattle.duration_metric.specs.InnerStands.{row_count, AreKnown}
use Rattle.duration_metric.specs.Tallies.{row_out, tally_at, is_counted, how_often, known_key, row_tallied, Raises, Lowers, CountsAll, AreSteady, IsOff, AreLooked}
use Rattle.duration_metric.specs.SumParts.{Summing}
use Rattle.duration_metric.specs.SumStands.{span_at, span_row}

-- the active keys, by the rows of the inner keys
abbrev pub active_in : List (LeafKey × Inner) → List MetricKey
active_in rows = firsts is_same_key [] (flat_map row_out rows)

-- a key's span from a time on, where it is told which keys are active
abbrev pub row_when : (MetricKey → Bool) → ℕ → MetricKey × Span → MetricKey × Span
row_when is_active at row = (row.0, span_at at (is_active row.0) row.1)

-- a key's span from a time on, from which these keys are active
abbrev pub row_at : List MetricKey → ℕ → MetricKey × Span → MetricKey × Span
row_at active at row = row_when (λ key. is_among is_same_key key active) at row

-- a key's span from a time on, where it is one of these; another stays
abbrev pub row_among : List MetricKey → (MetricKey → Bool) → ℕ → MetricKey × Span → MetricKey × Span
row_among keys is_active at row = if is_among is_same_key row.0 keys then row_when is_active at row else row

-- the spans of these keys are taken to a time, and the others stay, where each key has one
abbrev pub StepsSome : Table MetricKey Span → Table MetricKey Span → List MetricKey → (MetricKey → Bool) → ℕ → Type 0
StepsSome old new keys is_active at =
    IsDistinct is_same_key (keys_of old.rows) → new ≡ record old { rows = map (row_among keys is_active at) old.rows }

-- a span that begins
abbrev pub begun : ℕ → Span
begun at = record { sum = 0; since = Some at }

-- a key that was active before changes nothing, and another is admitted
abbrev pub BeginsRun : Table MetricKey Span → Table MetricKey Span → List MetricKey → MetricKey → ℕ → Type 0
BeginsRun old new before key at =
    ((is_among is_same_key key before ≡ true) × (new ≡ old))
    ⊎ ((is_among is_same_key key before ≡ false) × (answer : Admit) × Admits old new key (begun at) answer)

-- a key that comes anew has a span that begins
abbrev pub HasFresh : (MetricKey → Span) → List MetricKey → List MetricKey → List MetricKey → ℕ → Type 0
HasFresh span seen before now at =
    (key : MetricKey) → is_among is_same_key key seen ≡ false → is_among is_same_key key now ≡ true
    → is_among is_same_key key before ≡ false → span key ≡ begun at

-- The table has these keys admitted, each with its span, and so many dropped.
pub record HasSpans (table : Table MetricKey Span) (bound : ℕ) (span : MetricKey → Span) (came : List MetricKey)
    (lost : ℕ) : Type 0 where
  pub bound_is : table.bound ≡ bound
  pub rows : table.rows ≡ map (λ key. (key, span key)) (admitted is_same_key bound came)
  pub dropped_are : table.dropped ≡ count_in_u64 lost

-- The keys that weren't active before are admitted, or dropped and counted: so many.
pub record HasBegun (new : Table MetricKey Span) (bound : ℕ) (span : MetricKey → Span)
    (seen came : List MetricKey) (lost : ℕ) : Type 0 where
  pub more : ℕ
  pub has : HasSpans new bound span (seen ++ came) (lost + more)
  pub counted : dropped is_same_key bound (seen ++ came) ≡ dropped is_same_key bound seen + more

-- the key for which a row counts, if it does, begins
abbrev pub BeginsOut : Table MetricKey Span → Table MetricKey Span → List MetricKey → ℕ → Type 0
BeginsOut old new outs at =
    ((outs ≡ []) × (new ≡ old)) ⊎ ((key : MetricKey) × (outs ≡ key ∷ []) × BeginsRun old new [] key at)

-- whatever came before, these keys come now, apart from those that were active before
abbrev pub BeginsAll : Table MetricKey Span → Table MetricKey Span → List MetricKey → List MetricKey → ℕ → Type 0
BeginsAll old new before now at =
    (bound : ℕ) (span : MetricKey → Span) (seen : List MetricKey) (lost : ℕ) → HasFresh span seen before now at
    → HasSpans old bound span seen lost → HasBegun new bound span seen (newly is_same_key before now) lost

-- a key that has a row keeps one
abbrev pub KeepsKeys : Table MetricKey Span → Table MetricKey Span → Type 0
KeepsKeys old new =
    (key : MetricKey) → is_among is_same_key key (keys old) ≡ true → is_among is_same_key key (keys new) ≡ true

-- The rows of the open part were kept or counted, and an empty part begins.
pub record ClosesRows (old new : Summing) (end : ℕ) : Type 0 where
  pub same : new ≡ record old { start = end; table = record old.table { rows = [] }; kept = new.kept }
  pub adds : AddsRows row_weight old.kept new.kept (flat_map (span_row old.start end) old.table.rows)

-- The keys for which inner keys count began at the start of the open part.
pub record Opens (old new : Summing) : Type 0 where
  pub same : new ≡ record old { table = new.table }
  pub begins : BeginsAll old.table new.table [] (flat_map row_out old.inner.keys.rows) old.start

-- those of some keys that the tally has not
abbrev pub fresh_in : (MetricKey → ℕ) → List MetricKey → List MetricKey
fresh_in tally keys = filter (λ key. not (nat_lt 0 (tally key))) keys

-- the output key for which a row counts, if there is one
abbrev pub found_out : Option (LeafKey × Inner) → List MetricKey
found_out None = []
found_out (Some row) = row_out row

-- those for which the rows at some places count
abbrev pub outs_at : List (LeafKey × Inner) → List ℕ → List MetricKey
outs_at rows places = flat_map (λ place. found_out (slice_get rows place)) places

-- that for which the row at a place counts, where the tally has it not
abbrev pub fresh_at : (MetricKey → ℕ) → List (LeafKey × Inner) → ℕ → List MetricKey
fresh_at tally rows place = fresh_in tally (found_out (slice_get rows place))

-- the tally counts the rows, and some keys more, of which there are fewer than a count fits
abbrev pub CountsRight : (MetricKey → ℕ) → List (LeafKey × Inner) → Type 0
CountsRight tally rows = (gone : List MetricKey) × CountsAll tally rows gone × (length gone < 2 ^ 63)

-- one place more begins, or none
abbrev pub with_begun : List ℕ → Bool → ℕ → List ℕ
with_begun began is_first place = if is_first then began ++ place ∷ [] else began

-- What is taken into the tally where one place is looked at: nothing, or the key for which its row counts, which begins
-- where none counted for it.
abbrev pub CountsAt : Table LeafKey Inner → Table LeafKey Inner → List (MetricKey × ℕ) → List (MetricKey × ℕ)
    → List ℕ → List ℕ → ℕ → Type 0
CountsAt old new before now some began place =
    ((new ≡ old) × (now ≡ before) × (began ≡ some) × ((row : LeafKey × Inner) → slice_get old.rows place ≡ Some row
    → (row.1.tallied ≡ true) ⊎ ((row.1.tallied ≡ false) × (row_out row ≡ []))))
    ⊎ ((row : LeafKey × Inner) × (key : MetricKey) × (slice_get old.rows place ≡ Some row) × (row.1.tallied ≡ false)
    × (row_out row ≡ key ∷ []) × Raises before now key
    × (began ≡ with_begun some (not (is_counted before key)) place)
    × (new ≡ with_value_at old place (record row.1 { tallied = true })))

-- The rows at some places are in the tally, but for those that are left.
pub record Recounts (first last : Table LeafKey Inner) (before now : List (MetricKey × ℕ)) (places left : List ℕ) :
    Type 0 where
  pub bound_is : last.bound ≡ first.bound
  pub dropped_is : last.dropped ≡ first.dropped
  pub counts_are : map row_count last.rows ≡ map row_count first.rows
  pub known_are : (known : LeafKey → Option Known) → AreKnown known first.rows → AreKnown known last.rows
  pub outs_are : flat_map row_out last.rows ≡ flat_map row_out first.rows
  pub tally_is : (gone : List MetricKey) → CountsAll (tally_at before) first.rows gone
      → CountsAll (tally_at now) last.rows gone
  pub grows : (key : MetricKey) → tally_at before key ≤ tally_at now key
  pub steady : (touched : List ℕ) → AreSteady touched first.rows → AreSteady touched last.rows
  pub looked : AreLooked places first.rows → AreLooked left last.rows

-- the output key that was told of a row, if there is one
abbrev pub found_told : Option (LeafKey × Inner) → List MetricKey
found_told None = []
found_told (Some row) = known_key row.1.known

-- that for which a row is in the tally, if there is one
abbrev pub found_tallied : Option (LeafKey × Inner) → List MetricKey
found_tallied None = []
found_tallied (Some row) = row_tallied row

-- those that were told of the rows at some places
abbrev pub tolds_at : List (LeafKey × Inner) → List ℕ → List MetricKey
tolds_at rows places = flat_map (λ place. found_told (slice_get rows place)) places

-- What is taken out of the tally where one place is looked at: nothing, or the key of a row that counts no more.
abbrev pub ReleasesAt :
    Table LeafKey Inner → Table LeafKey Inner → List (MetricKey × ℕ) → List (MetricKey × ℕ) → ℕ → Type 0
ReleasesAt old new before now place =
    ((new ≡ old) × (now ≡ before) × ((row : LeafKey × Inner) → slice_get old.rows place ≡ Some row
    → IsOff row → row_tallied row ≡ []))
    ⊎ ((row : LeafKey × Inner) × (key : MetricKey) × (slice_get old.rows place ≡ Some row) × IsOff row
    × (known_key row.1.known ≡ key ∷ []) × Lowers before now key
    × (new ≡ with_value_at old place (record row.1 { tallied = false })))

-- The rows at some places that count no more are out of the tally, but for those that are left. It has the same of
-- other keys than those that were told of them.
pub record ReleasesPlaces (first last : Table LeafKey Inner) (before now : List (MetricKey × ℕ)) (places left : List ℕ)
    (tolds : List MetricKey) : Type 0 where
  pub bound_is : last.bound ≡ first.bound
  pub dropped_is : last.dropped ≡ first.dropped
  pub counts_are : map row_count last.rows ≡ map row_count first.rows
  pub known_are : (known : LeafKey → Option Known) → AreKnown known first.rows → AreKnown known last.rows
  pub outs_are : flat_map row_out last.rows ≡ flat_map row_out first.rows
  pub outs_stay : (at : ℕ) → found_out (slice_get last.rows at) ≡ found_out (slice_get first.rows at)
  pub tolds_stay : (at : ℕ) → found_told (slice_get last.rows at) ≡ found_told (slice_get first.rows at)
  pub tally_is : CountsAll (tally_at before) first.rows [] → CountsAll (tally_at now) last.rows []
  pub same : (key : MetricKey) → is_among is_same_key key tolds ≡ false → tally_at now key ≡ tally_at before key
  pub steady : AreSteady places first.rows → AreLooked [] first.rows
      → AreSteady left last.rows × AreLooked [] last.rows

-- whatever the tally counts besides some keys, it counts that alone
abbrev pub LowersAll : List (MetricKey × ℕ) → List (MetricKey × ℕ) → List MetricKey → Type 0
LowersAll old new keys = (rest : MetricKey → ℕ) → ((key : MetricKey) → tally_at old key ≡ rest key + how_often key keys)
    → (key : MetricKey) → tally_at new key ≡ rest key
