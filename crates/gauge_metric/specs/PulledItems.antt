-- The items of a pulled gauge, and which of them there are.
use Rattle.std.specs.Prelude.{ℕ, ◌+◌, ◌*◌, ◌≤◌, ◌==◌, List, [], ◌∷◌, ◌++◌, length, All, Option, Some, None, if◌then◌else◌}
use Rattle.std.specs.Option.{option_map, option_and_then}
use Rattle.std.proofs.Common.{arith}
use Rattle.std.proofs.lemmas.List.{length-append}
use Rattle.std.proofs.lemmas.List.Elements.{All-nil, All-cons, All-append}
use Rattle.atom_record.specs.declared.atom.Atom.{Atom}
use Rattle.atom_record.specs.declared.value.MetricKey.{MetricKey}
use Rattle.atom_record.specs.AtomSound.{HasNoFault}
use Rattle.config_types.specs.declared.parameters.Sampling.{Sampling}
use Rattle.config_types.specs.declared.parameters.Sampling.TheVariants.{AtStart, AtChange, AtTrigger}
use Rattle.predicate_state.specs.declared.truth.Truth.{Truth}
use Rattle.predicate_state.specs.declared.truth.Truth.TheVariants.{False, Unknown, True}
use Rattle.flat_form.specs.declared.item.Item.{Item}
use Rattle.flat_form.specs.declared.item.Item.TheVariants.{Num}
use Rattle.flat_form.specs.Flat.{Anything, IsValidPair, key_items, atom_items, list_items}
use Rattle.flat_form.specs.Savable.{IsSavable, AreSavable, IsShortKey}
use Rattle.flat_form.specs.SavableLaws.{items_savable, key_savable, atom_savable, list_savable}
use Rattle.flat_form.specs.Weight.{most_items, list_entries}
use Rattle.flat_form.specs.Bounded.{elements_bounded, elements_few}
use Rattle.dim_table.specs.Table.{Table}
use Rattle.dim_table.specs.TableItems.{table_items, IsTable, table_entries, table_bounded, table_few, table_savable}
use Rattle.kept_rows.specs.KeptRows.{Keeping}
use Rattle.kept_rows.specs.KeptItems.{kept_items, kept_entries, IsKeeping, AreSavableRows, kept_bounded, kept_few, kept_savable}
use Rattle.metric_producer.specs.declared.row.Row.{Row}
use Rattle.gauge_metric.specs.declared.gauge.KeyedAtom.{KeyedAtom}
use Rattle.gauge_metric.specs.declared.pulled.PulledGauge.{PulledGauge}
use Rattle.gauge_metric.specs.EventItems.{atom_row_items, atom_row_weight, IsAtomRow, IsSavableAtomRow, atom_row_savable}

-- a sample is its key and its atom
abbrev pub sample_items : KeyedAtom → List Item
sample_items sample = key_items sample.key ++ atom_items sample.atom

-- its key fits its counts, and its atom has no fault
abbrev pub IsSavableSample : KeyedAtom → Type 0
IsSavableSample sample = IsShortKey sample.key × HasNoFault sample.atom

-- a sample is a head of three items
pub sample_bounded : (sample : KeyedAtom) → Anything sample → length (sample_items sample) ≤ most_items 3 0
sample_bounded sample valid = omega arith

-- the items of such a sample can be spelled
pub sample_savable : (sample : KeyedAtom) → Anything sample → IsSavableSample sample
    → AreSavable (sample_items sample)
sample_savable sample valid can =
    All-append IsSavable (key_items sample.key) (atom_items sample.atom) (key_savable sample.key tt can.0)
    (atom_savable sample.atom tt can.1)

-- the number of a mode
abbrev pub mode_number : Sampling → ℕ
mode_number AtStart = 0
mode_number AtChange = 1
mode_number AtTrigger = 2

-- the mode of a number, if it is one
abbrev pub mode_of : ℕ → Option Sampling
mode_of number =
    if number == 0 then Some AtStart
    else (if number == 1 then Some AtChange else (if number == 2 then Some AtTrigger else None))

-- the number of what was told last
abbrev pub told_number : Option Truth → ℕ
told_number None = 0
told_number (Some False) = 1
told_number (Some Unknown) = 2
told_number (Some True) = 3

-- what was told last, by its number
abbrev pub told_by_number : ℕ → Option (Option Truth)
told_by_number number =
    if number == 0 then Some None
    else (if number == 1 then Some (Some False)
    else (if number == 2 then Some (Some Unknown) else (if number == 3 then Some (Some True) else None)))

-- the snapshot as a list, which is empty where there is none
abbrev pub snapshot_list : Option (List KeyedAtom) → List (List KeyedAtom)
snapshot_list None = []
snapshot_list (Some samples) = samples ∷ []

-- the snapshot of such a list
abbrev pub snapshot_in : List (List KeyedAtom) → Option (Option (List KeyedAtom))
snapshot_in [] = Some None
snapshot_in (samples ∷ []) = Some (Some samples)
snapshot_in (samples ∷ more ∷ others) = None

-- the items of a snapshot
abbrev pub snapshot_items : Option (List KeyedAtom) → List Item
snapshot_items snapshot = list_items (list_items sample_items) (snapshot_list snapshot)

-- a gauge's snapshot, its table and its kept rows
abbrev pub pulled_rest : PulledGauge → List Item
pulled_rest it =
    snapshot_items it.snapshot
    ++ (table_items key_items (list_items atom_items) it.table ++ kept_items atom_row_items it.kept)

-- its six numbers
abbrev pub pulled_numbers : PulledGauge → List Item
pulled_numbers it =
    Num it.start ∷ Num it.samples ∷ Num (mode_number it.mode) ∷ Num (told_number it.told) ∷ Num it.dropped
    ∷ Num it.missing ∷ []

-- A gauge is where its open part began, how many samples it keeps of a key, its mode, what was told last of its
-- condition, its counts, its snapshot, its table, and its kept rows.
abbrev pub pulled_items : PulledGauge → List Item
pulled_items it =
    Num it.start ∷ Num it.samples ∷ Num (mode_number it.mode) ∷ Num (told_number it.told) ∷ Num it.dropped
    ∷ Num it.missing ∷ pulled_rest it

-- its table is one, and its kept rows are within their bound
pub record IsPulledGauge (it : PulledGauge) : Type 0 where
  pub table : IsTable Anything (All Anything) it.table
  pub kept : IsKeeping atom_row_weight IsAtomRow it.kept

-- its keys fit their counts, and its atoms have no fault
pub record IsSavablePulled (it : PulledGauge) : Type 0 where
  pub snapshot : All (All IsSavableSample) (snapshot_list it.snapshot)
  pub table : All (IsValidPair IsShortKey (All HasNoFault)) it.table.rows
  pub kept : AreSavableRows IsSavableAtomRow it.kept

-- the entries of a snapshot: one for each sample
abbrev pub snapshot_entries : Option (List KeyedAtom) → ℕ
snapshot_entries None = 0
snapshot_entries (Some samples) = list_entries sample_items samples

-- its entries: those of its snapshot, of its table, whose rows have their samples, and of its kept rows
abbrev pub pulled_entries : PulledGauge → ℕ
pulled_entries it =
    snapshot_entries it.snapshot
    + (table_entries key_items (list_items atom_items) it.table + kept_entries atom_row_items it.kept)

-- a snapshot is two items, and eight at most for each entry
snapshot_bounded : (snapshot : Option (List KeyedAtom))
    → length (snapshot_items snapshot) ≤ 2 + 8 * snapshot_entries snapshot
snapshot_bounded None = omega arith
snapshot_bounded (Some samples) =
    let part = elements_bounded sample_items samples in
    let size = length-append (list_items sample_items samples) [] in
    omega arith

-- an entry of it is an item at least
snapshot_few : (snapshot : Option (List KeyedAtom)) → snapshot_entries snapshot ≤ length (snapshot_items snapshot)
snapshot_few None = omega arith
snapshot_few (Some samples) =
    let part = elements_few sample_items samples in
    let size = length-append (list_items sample_items samples) [] in
    omega arith

-- a head of fourteen items, and eight at most for each entry
pub pulled_bounded : (it : PulledGauge) → IsPulledGauge it
    → length (pulled_items it) ≤ most_items 14 (pulled_entries it)
pulled_bounded it is =
    let snapshot = snapshot_bounded it.snapshot in
    let table = table_bounded key_items (list_items atom_items) Anything (All Anything) it.table is.table in
    let kept = kept_bounded atom_row_items atom_row_weight IsAtomRow it.kept is.kept in
    let rows = table_items key_items (list_items atom_items) it.table ++ kept_items atom_row_items it.kept in
    let all = length-append (snapshot_items it.snapshot) rows in
    let size =
    length-append (table_items key_items (list_items atom_items) it.table) (kept_items atom_row_items it.kept) in
    omega arith

-- an entry is an item at least
pub pulled_few : (it : PulledGauge) → pulled_entries it ≤ length (pulled_items it)
pulled_few it =
    let snapshot = snapshot_few it.snapshot in
    let table = table_few key_items (list_items atom_items) it.table in
    let kept = kept_few atom_row_items it.kept in
    let rows = table_items key_items (list_items atom_items) it.table ++ kept_items atom_row_items it.kept in
    let all = length-append (snapshot_items it.snapshot) rows in
    let size =
    length-append (table_items key_items (list_items atom_items) it.table) (kept_items atom_row_items it.kept) in
    omega arith

-- any list has elements that are valid where any value is
pub all_anything : {X : Type 0} (xs : List X) → All Anything xs
all_anything [] = All-nil Anything
all_anything (x ∷ xs) = All-cons Anything x xs tt (all_anything xs)

-- and so has any list of lists
pub all_lists : {X : Type 0} (lists : List (List X)) → All (All Anything) lists
all_lists [] = All-nil (All Anything)
all_lists (xs ∷ lists) = All-cons (All Anything) xs lists (all_anything xs) (all_lists lists)

-- the items of such a gauge can be spelled
pub pulled_savable : (it : PulledGauge) → IsPulledGauge it → IsSavablePulled it → AreSavable (pulled_items it)
pulled_savable it is can =
    let snapshot = list_savable (list_items sample_items) (All Anything) (All IsSavableSample)
    (list_savable sample_items Anything IsSavableSample sample_savable) (snapshot_list it.snapshot)
    (all_lists (snapshot_list it.snapshot)) can.snapshot in
    let table = table_savable key_items (list_items atom_items) Anything (All Anything) IsShortKey (All HasNoFault)
    key_savable (list_savable atom_items Anything HasNoFault atom_savable) it.table is.table can.table in
    let kept = kept_savable atom_row_items atom_row_weight IsAtomRow IsSavableAtomRow atom_row_savable it.kept
    is.kept can.kept in
    let table_is = table_items key_items (list_items atom_items) it.table in
    let kept_is = kept_items atom_row_items it.kept in
    let rows = All-append IsSavable table_is kept_is table kept in
    let rest = All-append IsSavable (snapshot_items it.snapshot) (table_is ++ kept_is) snapshot rows in
    let missing = items_savable (Num it.missing) (pulled_rest it) tt rest in
    let dropped = items_savable (Num it.dropped) (Num it.missing ∷ pulled_rest it) tt missing in
    let told = items_savable (Num (told_number it.told)) (Num it.dropped ∷ Num it.missing ∷ pulled_rest it) tt dropped
    in
    let mode = items_savable (Num (mode_number it.mode))
    (Num (told_number it.told) ∷ Num it.dropped ∷ Num it.missing ∷ pulled_rest it) tt told in
    let samples = items_savable (Num it.samples) (Num (mode_number it.mode) ∷ Num (told_number it.told)
    ∷ Num it.dropped ∷ Num it.missing ∷ pulled_rest it) tt mode in
    items_savable (Num it.start) (Num it.samples ∷ Num (mode_number it.mode) ∷ Num (told_number it.told)
    ∷ Num it.dropped ∷ Num it.missing ∷ pulled_rest it) tt samples

-- A gauge by its parts, as they are saved.
abbrev pub PulledForm : Type 0
PulledForm = ℕ × (ℕ × (ℕ × (ℕ × (ℕ × (ℕ × (List (List KeyedAtom)
    × (Table MetricKey (List Atom) × Keeping (Row (List Atom)))))))))

-- the gauge of some parts, if there is one
abbrev pub gauge_of_form : PulledForm → Option PulledGauge
gauge_of_form form =
    let rest = form.1.1.1.1 in
    option_and_then (λ mode. option_and_then (λ told. option_map (λ snapshot. record {
      start = form.0;
      samples = form.1.0;
      mode = mode;
      told = told;
      snapshot = snapshot;
      table = rest.1.1.1.0;
      kept = rest.1.1.1.1;
      dropped = rest.0;
      missing = rest.1.0;
      memory = tt;
    }) (snapshot_in rest.1.1.0)) (told_by_number form.1.1.1.0)) (mode_of form.1.1.0)
