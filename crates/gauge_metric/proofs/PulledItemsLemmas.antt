-- For the builds of samples and of pulled gauges: each is saved as its parts.
use Rattle.std.proofs.Common.{◌≡◌, ℕ, ◌==◌, Bool, true, false, if◌then◌else◌, List, [], ◌∷◌, All, Option, Some, None, Err, ◌⊎◌, inl, inr, ⊎_elim, refl, sym, ap, subst, ◌∙◌, arith}
use Rattle.std.specs.Option.{option_map, option_and_then}
use Rattle.std.proofs.lemmas.Option.{none-some, same_Some}
use Rattle.atom_record.specs.declared.atom.Atom.{Atom}
use Rattle.atom_record.specs.declared.value.MetricKey.{MetricKey}
use Rattle.config_types.specs.declared.parameters.Sampling.{Sampling}
use Rattle.config_types.specs.declared.parameters.Sampling.TheVariants.{AtStart, AtChange, AtTrigger}
use Rattle.predicate_state.specs.declared.truth.Truth.{Truth}
use Rattle.predicate_state.specs.declared.truth.Truth.TheVariants.{False, Unknown, True}
use Rattle.flat_form.specs.declared.item.Item.{Item}
use Rattle.flat_form.specs.declared.flat_error.FlatError.{FlatError}
use Rattle.flat_form.specs.declared.flat_error.FlatError.TheVariants.{Bad}
use Rattle.flat_form.specs.Flat.{Anything, IsValidPair, StandsAt, IsBuilt, Builds, number_items, key_items, atom_items, list_items, pair_items}
use Rattle.flat_form.proofs.FlatLaws as laws
use Rattle.dim_table.specs.Table.{Table}
use Rattle.dim_table.specs.TableItems.{table_items, IsTable}
use Rattle.kept_rows.specs.KeptRows.{Keeping}
use Rattle.kept_rows.specs.KeptItems.{kept_items, IsKeeping}
use Rattle.metric_producer.specs.declared.row.Row.{Row}
use Rattle.gauge_metric.specs.declared.gauge.KeyedAtom.{KeyedAtom}
use Rattle.gauge_metric.specs.declared.pulled.PulledGauge.{PulledGauge}
use Rattle.gauge_metric.specs.EventItems.{atom_row_items, atom_row_weight, IsAtomRow}
use Rattle.gauge_metric.specs.PulledItems.{sample_items, mode_number, mode_of, told_number, told_by_number, snapshot_list, snapshot_in, pulled_items, IsPulledGauge, all_lists, PulledForm, gauge_of_form}

-- a sample by its parts
abbrev sample_form : KeyedAtom → MetricKey × Atom
sample_form sample = (sample.key, sample.atom)

-- no such parts stand there, so no sample does
pub sample_fails : (items : List Item) (place : ℕ) (e : FlatError)
    → Builds (IsValidPair Anything Anything) (pair_items key_items atom_items) items place (Err e)
    → Builds Anything sample_items items place (Err e)
sample_fails items place e fails = laws.form_fails (IsValidPair Anything Anything) (pair_items key_items atom_items)
    Anything sample_items sample_form (λ sample. refl) (λ sample is. (tt, tt)) items place e fails

-- the sample of the parts that stand there
pub sample_built : (items : List Item) (place : ℕ) (form : MetricKey × Atom) (next : ℕ)
    → IsBuilt (IsValidPair Anything Anything) (pair_items key_items atom_items) items place form next
    → IsBuilt Anything sample_items items place (record { key = form.0; atom = form.1 }) next
sample_built items place form next one = record {
  is_valid = tt;
  stands = one.stands;
  ends = one.ends;
  only = λ other other_valid there.
      ap (λ (f : MetricKey × Atom). record { key = f.0; atom = f.1 }) (one.only (sample_form other) (tt, tt) there);
}

-- the items of such parts
abbrev pub pulled_form_items : PulledForm → List Item
pulled_form_items = pair_items number_items (pair_items number_items (pair_items number_items (pair_items number_items
    (pair_items number_items (pair_items number_items (pair_items (list_items (list_items sample_items))
    (pair_items (table_items key_items (list_items atom_items)) (kept_items atom_row_items))))))))

-- any numbers and samples, a table, and kept rows
abbrev pub IsPulledForm : PulledForm → Type 0
IsPulledForm = IsValidPair Anything (IsValidPair Anything (IsValidPair Anything (IsValidPair Anything
    (IsValidPair Anything (IsValidPair Anything (IsValidPair (All (All Anything))
    (IsValidPair (IsTable Anything (All Anything)) (IsKeeping atom_row_weight IsAtomRow))))))))

-- the last parts of a gauge: its snapshot, its table and its kept rows
abbrev last_parts : PulledGauge → List (List KeyedAtom) × (Table MetricKey (List Atom) × Keeping (Row (List Atom)))
last_parts it = (snapshot_list it.snapshot, (it.table, it.kept))

-- the parts of a gauge
abbrev form_of : PulledGauge → PulledForm
form_of it =
    (it.start, (it.samples, (mode_number it.mode, (told_number it.told, (it.dropped, (it.missing, last_parts it))))))

-- they are valid
form_valid : (it : PulledGauge) → IsPulledGauge it → IsPulledForm (form_of it)
form_valid it is = (tt, (tt, (tt, (tt, (tt, (tt, (all_lists (snapshot_list it.snapshot), (is.table, is.kept))))))))

-- the number of a mode leads back to it
mode_back : (mode : Sampling) → mode_of (mode_number mode) ≡ Some mode
mode_back AtStart = refl
mode_back AtChange = refl
mode_back AtTrigger = refl

-- so does that of what was told
told_back : (told : Option Truth) → told_by_number (told_number told) ≡ Some told
told_back None = refl
told_back (Some False) = refl
told_back (Some Unknown) = refl
told_back (Some True) = refl

-- and the list of a snapshot
snapshot_back : (snapshot : Option (List KeyedAtom)) → snapshot_in (snapshot_list snapshot) ≡ Some snapshot
snapshot_back None = refl
snapshot_back (Some samples) = refl

-- the parts of a gauge are those of no other
form_back : (it : PulledGauge) → gauge_of_form (form_of it) ≡ Some it
form_back it = rw (mode_back it.mode, told_back it.told, snapshot_back it.snapshot) refl

-- where a choice gives something, one of its two sides does
if_some : {A : Type 0} (b : Bool) (x : A) (rest : Option A) (y : A) → (if b then Some x else rest) ≡ Some y
    → ((b ≡ true) × (x ≡ y)) ⊎ ((b ≡ false) × (rest ≡ Some y))
if_some true x rest y is = inl (refl, same_Some _ _ is)
if_some false x rest y is = inr (refl, is)

-- the number of a mode that a number is
mode_is : (number : ℕ) (mode : Sampling) → mode_of number ≡ Some mode → mode_number mode ≡ number
mode_is number mode is =
    let second = if number == 1 then Some AtChange else (if number == 2 then Some AtTrigger else None) in
    let third = if number == 2 then Some AtTrigger else None in
    ⊎_elim
    (λ h. let at : 0 ≡ number = grind (arith, h.0) in ap mode_number (sym h.1) ∙ at)
    (λ h. ⊎_elim
    (λ k. let at : 1 ≡ number = grind (arith, k.0) in ap mode_number (sym k.1) ∙ at)
    (λ k. ⊎_elim
    (λ l. let at : 2 ≡ number = grind (arith, l.0) in ap mode_number (sym l.1) ∙ at)
    (λ l. absurd (none-some _ l.1))
    (if_some (number == 2) AtTrigger None mode k.1))
    (if_some (number == 1) AtChange third mode h.1))
    (if_some (number == 0) AtStart second mode is)

-- the number of what was told that a number is
told_is : (number : ℕ) (told : Option Truth) → told_by_number number ≡ Some told → told_number told ≡ number
told_is number told is =
    let fourth : Option (Option Truth) = if number == 3 then Some (Some True) else None in
    let third : Option (Option Truth) = if number == 2 then Some (Some Unknown) else fourth in
    let second : Option (Option Truth) = if number == 1 then Some (Some False) else third in
    ⊎_elim
    (λ h. let at : 0 ≡ number = grind (arith, h.0) in ap told_number (sym h.1) ∙ at)
    (λ h. ⊎_elim
    (λ k. let at : 1 ≡ number = grind (arith, k.0) in ap told_number (sym k.1) ∙ at)
    (λ k. ⊎_elim
    (λ l. let at : 2 ≡ number = grind (arith, l.0) in ap told_number (sym l.1) ∙ at)
    (λ l. ⊎_elim
    (λ m. let at : 3 ≡ number = grind (arith, m.0) in ap told_number (sym m.1) ∙ at)
    (λ m. absurd (none-some _ m.1))
    (if_some (number == 3) (Some True) None told l.1))
    (if_some (number == 2) (Some Unknown) fourth told k.1))
    (if_some (number == 1) (Some False) third told h.1))
    (if_some (number == 0) None second told is)

-- the list of a snapshot that a list is
snapshot_is : (list : List (List KeyedAtom)) (snapshot : Option (List KeyedAtom)) → snapshot_in list ≡ Some snapshot
    → snapshot_list snapshot ≡ list
snapshot_is [] snapshot is = ap snapshot_list (sym (same_Some _ _ is))
snapshot_is (samples ∷ []) snapshot is = ap snapshot_list (sym (same_Some _ _ is))
snapshot_is (samples ∷ more ∷ others) snapshot is = absurd (none-some _ is)

-- what one step of several gave
and_then_some : {A B : Type 0} (next : A → Option B) (one : Option A) (y : B)
    → option_and_then next one ≡ Some y → (x : A) × (one ≡ Some x) × (next x ≡ Some y)
and_then_some next None y is = absurd (none-some _ is)
and_then_some next (Some x) y is = (x, refl, is)

map_some : {A B : Type 0} (next : A → B) (one : Option A) (y : B)
    → option_map next one ≡ Some y → (x : A) × (one ≡ Some x) × (next x ≡ y)
map_some next None y is = absurd (none-some _ is)
map_some next (Some x) y is = (x, refl, same_Some _ _ is)

-- a gauge with this mode, what was told, and a snapshot, of some parts
abbrev gauge_with : PulledForm → Sampling → Option Truth → Option (List KeyedAtom) → PulledGauge
gauge_with form mode told snapshot = record {
  start = form.0;
  samples = form.1.0;
  mode = mode;
  told = told;
  snapshot = snapshot;
  table = form.1.1.1.1.1.1.1.0;
  kept = form.1.1.1.1.1.1.1.1;
  dropped = form.1.1.1.1.0;
  missing = form.1.1.1.1.1.0;
  memory = tt;
}

-- parts with these three
abbrev with_three : PulledForm → ℕ → ℕ → List (List KeyedAtom) → PulledForm
with_three form mode told list =
    (form.0, (form.1.0, (mode, (told, (form.1.1.1.1.0, (form.1.1.1.1.1.0, (list, form.1.1.1.1.1.1.1)))))))

-- the gauge of some parts has these parts
form_is : (form : PulledForm) (it : PulledGauge) → gauge_of_form form ≡ Some it → form_of it ≡ form
form_is form it is =
    let one = and_then_some (λ mode. option_and_then (λ told. option_map (gauge_with form mode told)
    (snapshot_in form.1.1.1.1.1.1.0)) (told_by_number form.1.1.1.0)) (mode_of form.1.1.0) it is in
    let mode = one.0 in
    let two = and_then_some (λ told. option_map (gauge_with form mode told) (snapshot_in form.1.1.1.1.1.1.0))
    (told_by_number form.1.1.1.0) it one.2 in
    let told = two.0 in
    let three = map_some (gauge_with form mode told) (snapshot_in form.1.1.1.1.1.1.0) it two.2 in
    let snapshot = three.0 in
    ap form_of (sym three.2)
    ∙ ap (λ n. with_three form n (told_number told) (snapshot_list snapshot)) (mode_is form.1.1.0 mode one.1)
    ∙ ap (λ n. with_three form form.1.1.0 n (snapshot_list snapshot)) (told_is form.1.1.1.0 told two.1)
    ∙ ap (with_three form form.1.1.0 form.1.1.1.0) (snapshot_is form.1.1.1.1.1.1.0 snapshot three.1)

module _ (items : List Item) (place : ℕ) where
  -- no such parts stand there, so no gauge does
  pub pulled_fails : (e : FlatError) → Builds IsPulledForm pulled_form_items items place (Err e)
      → Builds IsPulledGauge pulled_items items place (Err e)
  pulled_fails e fails =
      laws.form_fails IsPulledForm pulled_form_items IsPulledGauge pulled_items form_of
      (λ it. refl) form_valid items place e
      fails

  module _ (form : PulledForm) (next : ℕ) (one : IsBuilt IsPulledForm pulled_form_items items place form next) where
    -- the parts that stand there are those of every gauge whose items do
    the_form : (other : PulledGauge) → IsPulledGauge other → StandsAt items place (pulled_items other)
        → form_of other ≡ form
    the_form other other_valid there = one.only (form_of other) (form_valid other other_valid) there

    -- they are no gauge's, so no gauge's items stand there
    pub pulled_none : gauge_of_form form ≡ None → Builds IsPulledGauge pulled_items items place (Err Bad)
    pulled_none none other other_valid there =
        none-some other (sym none ∙ sym (ap gauge_of_form (the_form other other_valid there)) ∙ form_back other)

    -- the gauge of these parts stands there, and no other
    pub pulled_built : (it : PulledGauge) → gauge_of_form form ≡ Some it
        → IsBuilt IsPulledGauge pulled_items items place it next
    pulled_built it is =
        let same : form ≡ form_of it = sym (form_is form it is) in
        let mine = subst (λ f. IsBuilt IsPulledForm pulled_form_items items place f next) same one in
        record {
          is_valid = record {
            table = mine.is_valid.1.1.1.1.1.1.1.0;
            kept = mine.is_valid.1.1.1.1.1.1.1.1;
          };
          stands = mine.stands;
          ends = mine.ends;
          only = λ other other_valid there.
              same_Some other it (sym (form_back other) ∙ ap gauge_of_form (the_form other other_valid there) ∙ is);
        }
