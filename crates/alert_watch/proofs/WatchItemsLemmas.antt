-- A watch is built of what was saved of it, and of nothing else.
use Rattle.std.proofs.Common.{◌≡◌, ◌≢◌, ℕ, ◌<◌, ◌≤◌, List, map, length, All, Ok, Err, refl, sym, ap, subst, ◌∙◌, arith}
use Rattle.std.proofs.lemmas.List.{length-map}
use Rattle.atom_record.specs.declared.value.MetricKey.{MetricKey}
use Rattle.config_types.specs.declared.parameters.AlertSpec.{AlertSpec}
use Rattle.config_types.specs.AlertSpecs.{IsAlertSpec}
use Rattle.flat_form.specs.declared.item.Item.{Item}
use Rattle.flat_form.specs.declared.flat_error.FlatError.{FlatError}
use Rattle.flat_form.specs.declared.flat_error.FlatError.TheVariants.{Bad, Memory}
use Rattle.flat_form.specs.Flat.{Anything, IsValidPair, IsMissingOr, IsBuilt, Builds, number_items, option_items, key_items, pair_items, list_items}
use Rattle.flat_form.proofs.FlatLaws as laws
use Rattle.alert_watch.specs.declared.alarm.Alarm.{Alarm}
use Rattle.alert_watch.specs.Windows.{most_alarms}
use Rattle.alert_watch.specs.Watches.{KeyCounts, WatchContents}
use Rattle.alert_watch.specs.WatchItems.{alarm_items, KeyCount, window_part_items, window_rows, watch_items, FitsPartTable, IsWholeWatch, alert_with, WatchForm, watch_form, part_table, BuildsWatch}
use Rattle.alert_watch.proofs.FilledLemmas.{tables_back, rows_back, tables_all}

-- the parts and the alarms of what was saved
abbrev pub saved_parts : WatchForm → List (List KeyCount)
saved_parts form = form.1.1.1.0

abbrev pub saved_alarms : WatchForm → List Alarm
saved_alarms form = form.1.1.1.1

-- the watch of which it was saved, if there is one
abbrev watch_of : WatchForm → WatchContents
watch_of form = record {
  spec = alert_with form.0;
  tables = map (part_table form.0.0.0) (saved_parts form);
  last = form.1.0;
  listed = saved_alarms form;
  not_kept = form.1.1.0;
}

-- a watch by what is saved of it
watch_back : (watch : WatchContents) → IsWholeWatch watch → watch ≡ watch_of (watch_form watch)
watch_back watch whole =
    ap (λ l. record watch { tables = l }) (tables_back watch.spec.bound watch.tables whole.is_watch.tables)

-- two of which the same was saved are the same
same_watch : (one other : WatchContents) → IsWholeWatch one → IsWholeWatch other → watch_form one ≡ watch_form other
    → one ≡ other
same_watch one other one_whole other_whole same =
    watch_back one one_whole ∙ ap watch_of same ∙ sym (watch_back other other_whole)

module _ (form : WatchForm) where
  module _ (spec : AlertSpec) (spec_is : spec ≡ alert_with form.0) where
    -- the alert has another number of parts
    pub other_parts : length (saved_parts form) ≢ spec.parts → BuildsWatch form (Err Bad)
    other_parts differ = λ watch whole same.
        let rows : window_rows watch.tables ≡ saved_parts form = ap saved_parts same in
        let parts : watch.spec.parts ≡ spec.parts =
        ap (λ (f : WatchForm). f.0.0.1) same ∙ sym (ap (λ (s : AlertSpec). s.parts) spec_is) in
        differ (ap (λ (l : List (List KeyCount)). length l) (sym rows)
        ∙ length-map watch.tables (λ (table : KeyCounts). table.rows) ∙ whole.is_watch.parts ∙ parts)

    -- more alarms than a report lists
    pub many_alarms : most_alarms < length (saved_alarms form) → BuildsWatch form (Err Bad)
    many_alarms many = λ watch whole same.
        let alarms : watch.listed ≡ saved_alarms form = ap saved_alarms same in
        let few : length (saved_alarms form) ≤ most_alarms =
        subst (λ (l : List Alarm). length l ≤ most_alarms) alarms whole.is_watch.listed in
        absurd (omega (arith, many, few))

    -- the rows of a part are those of no table
    pub no_tables : ¬ (All (FitsPartTable spec.bound) (saved_parts form)) → BuildsWatch form (Err Bad)
    no_tables never = λ watch whole same.
        let bound : watch.spec.bound ≡ spec.bound =
        ap (λ (f : WatchForm). f.0.0.0) same ∙ sym (ap (λ (s : AlertSpec). s.bound) spec_is) in
        never (subst (λ n. All (FitsPartTable n) (saved_parts form)) bound
        (subst (λ (f : WatchForm). All (FitsPartTable watch.spec.bound) (saved_parts f)) same whole.rows))

    -- the watch of all that
    pub watch_restored : IsAlertSpec spec → length (saved_parts form) ≡ spec.parts
        → length (saved_alarms form) ≤ most_alarms
        → (tables : List KeyCounts) → tables ≡ map (part_table spec.bound) (saved_parts form)
        → All (FitsPartTable spec.bound) (saved_parts form)
        → BuildsWatch form (Ok (record {
          spec = spec;
          tables = tables;
          last = form.1.0;
          listed = saved_alarms form;
          not_kept = form.1.1.0;
        }))
    watch_restored is parts few tables tables_are fit =
        let rows : window_rows tables ≡ saved_parts form =
        ap window_rows tables_are ∙ rows_back spec.bound (saved_parts form) in (
          record {
            is_watch = record {
              spec = is;
              parts = sym (length-map tables (λ (table : KeyCounts). table.rows))
                  ∙ ap (λ (l : List (List KeyCount)). length l) rows ∙ parts;
              tables = rw tables_are (tables_all spec.bound (saved_parts form));
              listed = few;
            };
            rows = rw rows fit;
          },
          ap (λ (s : AlertSpec). (
            ((s.bound, s.parts), (s.threshold, s.refractory)),
            (form.1.0, (form.1.1.0, (window_rows tables, saved_alarms form))),
          )) spec_is
              ∙ ap (λ l. (form.0, (form.1.0, (form.1.1.0, (l, saved_alarms form))))) rows,
        )

-- the items of what was saved
abbrev saved_items : WatchForm → List Item
saved_items =
    pair_items (pair_items (pair_items number_items number_items) (pair_items number_items number_items))
    (pair_items (option_items number_items)
    (pair_items number_items (pair_items (list_items window_part_items) (list_items alarm_items))))

-- what may have been saved
abbrev IsSavedForm : WatchForm → Type 0
IsSavedForm =
    IsValidPair (IsValidPair (IsValidPair Anything Anything) (IsValidPair Anything Anything))
    (IsValidPair (IsMissingOr Anything)
    (IsValidPair Anything (IsValidPair (All (All (IsValidPair Anything Anything))) (All Anything))))

any_form : (watch : WatchContents) → IsWholeWatch watch → IsSavedForm (watch_form watch)
any_form watch whole = (
  ((tt, tt), (tt, tt)),
  (λ i at less. tt, (tt, (λ i rows less. λ j row below. (tt, tt), λ i alarm less. tt))),
)

module _ (items : List Item) (place : ℕ) where
  -- nothing of the kind stands there
  pub watch_fails : (e : FlatError) → Builds IsSavedForm saved_items items place (Err e)
      → Builds IsWholeWatch watch_items items place (Err e)
  watch_fails e fails = laws.form_fails IsSavedForm saved_items IsWholeWatch watch_items watch_form (λ watch. refl)
      any_form items place e fails

  module _ (form : WatchForm) (next : ℕ) (one : IsBuilt IsSavedForm saved_items items place form next) where
    -- it was saved of no watch
    pub no_watch : (e : FlatError) → BuildsWatch form (Err e) → Builds IsWholeWatch watch_items items place (Err e)
    no_watch Bad never = λ watch whole there.
        never watch whole (one.only (watch_form watch) (any_form watch whole) there)
    no_watch Memory none = tt

    -- it was saved of this one
    pub watch_built : (watch : WatchContents) → BuildsWatch form (Ok watch)
        → IsBuilt IsWholeWatch watch_items items place watch next
    watch_built watch built =
        laws.form_built IsSavedForm saved_items IsWholeWatch watch_items watch_form (λ one_watch. refl) any_form items
        place form next one watch built.0 built.1
        (λ other whole same. same_watch other watch whole built.0 (same ∙ sym built.1))

-- the numbers and the key of an alarm
abbrev AlarmForm : Type 0
AlarmForm = (ℕ × ℕ) × MetricKey

abbrev alarm_form_items : AlarmForm → List Item
alarm_form_items = pair_items (pair_items number_items number_items) key_items

abbrev IsAlarmForm : AlarmForm → Type 0
IsAlarmForm = IsValidPair (IsValidPair Anything Anything) Anything

abbrev alarm_form : Alarm → AlarmForm
alarm_form alarm = ((alarm.at, alarm.sum), alarm.key)

-- nothing of the kind stands there
pub alarm_fails : (items : List Item) (place : ℕ) (e : FlatError)
    → Builds IsAlarmForm alarm_form_items items place (Err e)
    → Builds Anything alarm_items items place (Err e)
alarm_fails items place e fails = laws.form_fails IsAlarmForm alarm_form_items Anything alarm_items alarm_form
    (λ alarm. refl) (λ alarm valid. ((tt, tt), tt)) items place e fails
