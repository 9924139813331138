-- What stays where an atom doesn't touch a metric: lemmas on `specs/Touched.antt`, for the proofs of lanes.
use Rattle.std.proofs.Common.{◌≡◌, ℕ, ℤ, zero, suc, ◌<◌, Bool, true, false, ◌&&◌, ◌||◌, ◌==◌, ◌⊎◌, inl, inr, List, [], ◌∷◌, ◌++◌, length, get_or, slice_get, Option, Some, None, if◌then◌else◌, refl, sym, ap, subst, ◌∙◌, arith}
use Rattle.std.specs.List.{list_any, range_with_len}
use Rattle.std.specs.Option.{option_map_or}
use Rattle.std.proofs.lemmas.Bool.{cases_Bool, cases_lt, or_left, or_right, false≢true}
use Rattle.std.proofs.lemmas.Bool.Decides.{Decides-eqb}
use Rattle.std.proofs.lemmas.List.{length-map}
use Rattle.std.proofs.lemmas.List.Folds.{list_any_at}
use Rattle.std.proofs.lemmas.List.FromFn.{length-range_with_len, get_or-range_with_len}
use Rattle.std.proofs.lemmas.Option.{slice_get_past}
use Rattle.atom_record.specs.declared.atom.Atom.{Atom}
use Rattle.atom_record.specs.declared.log.LogFrame.TheVariants.{Tick, AtomAt, Pull}
use Rattle.field_select.specs.LeafValues.{key_of}
use Rattle.link_graph.specs.Reaches.{Reaches}
use Rattle.link_graph.specs.Links.{Refers}
use Rattle.link_graph.specs.Unrolling.{unroll}
use Rattle.link_graph.specs.Within.{leads_within}
use Rattle.link_graph.proofs.ReachesLaws.{reaches_once, reaches_last}
use Rattle.link_graph.proofs.IdsReach.{reaches_leads}
use Rattle.config_links.specs.declared.linked.LPredicate.{LPredicate}
use Rattle.config_links.specs.declared.linked.LPredBody.{LPredBody}
use Rattle.config_links.specs.declared.linked.LPredBody.TheVariants.{Simple, Combo}
use Rattle.config_links.specs.declared.linked.LMetric.{LMetric}
use Rattle.config_links.specs.LinkScopes.{named_predicates}
use Rattle.config_links.specs.MetricLinks.{is_reached}
use Rattle.predicate_state.specs.declared.bind.Bind.{Bind}
use Rattle.predicate_state.specs.declared.truth.Truth.TheVariants.{Unknown}
use Rattle.predicate_state.specs.PredicateTable.{PredicateTable}
use Rattle.condition_links.specs.Conditions.{predicate_names, table_truth, table_truth_at, truth_of_found, condition_step, condition_of}
use Rattle.condition_links.proofs.ConditionLemmas.{truth_looks_down}
use Rattle.metric_meaning.specs.Histories.{What, Logged, Reported, Step, Installation, truth_at}
use Rattle.metric_meaning.specs.PredicateSteps.{named_truth, first_event, on_key, events_at, atom_events, table_with, table_after, tables_after}
use Rattle.metric_meaning.specs.Readings.{atom_reading}
use Rattle.metric_meaning.specs.MetricConditions.{metric_binds}
use Rattle.metric_meaning.specs.Scenes.{Scene, scene_after}
use Rattle.metric_meaning.specs.Arrivals.{holds_in, is_active_in, arriving, arriving_by}
use Rattle.metric_meaning.specs.Touched.{acts_on, acts_at, acts_below, names_atom_itself, timed_predicate, is_touched, ConditionStays}
use Rattle.metric_meaning.proofs.PredicateStepsLemmas.{table_after-push}

-- neither of two
pub neither : (one other : Bool) → (one || other) ≡ false → (one ≡ false) × (other ≡ false)
neither false other e = (refl, e)
neither true other e = absurd (false≢true (sym e))

-- no event where no matcher holds
no_event : (stops_all stops starts : Bool) → (stops_all || (stops || starts)) ≡ false
    → first_event stops_all stops starts ≡ None
no_event false false false e = refl
no_event false false true e = absurd (false≢true (sym e))
no_event false true starts e = absurd (false≢true (sym e))
no_event true stops starts e = absurd (false≢true (sym e))

-- what an atom does to a predicate on which it doesn't act: nothing
atom_idle : (body : LPredBody) (id : ℤ) (truths : List Bool) (atom : Atom)
    → acts_on truths (record { id = id; body = body }) ≡ false → atom_events body truths atom ≡ []
atom_idle (Simple start stop stop_all dims spec) id truths atom e =
    ap (on_key (key_of dims atom))
    (no_event (named_truth stop_all truths) (named_truth stop truths) (named_truth start truths) e)
atom_idle (Combo op children) id truths atom e = refl

-- a step that doesn't act on a predicate does nothing to it
pub step_idle : (predicate : LPredicate) (at : ℕ) (what : What) (truths : List Bool) → acts_on truths predicate ≡ false
    → events_at predicate (record { at = at; what = what; truths = truths }) ≡ []
step_idle predicate at (Logged (AtomAt when atom)) truths e = atom_idle predicate.body predicate.id truths atom e
step_idle predicate at (Logged (Tick when)) truths e = refl
step_idle predicate at (Logged (Pull when id outcome)) truths e = refl
step_idle predicate at (Reported include_current) truths e = refl

-- what a predicate knows stays, on which a step doesn't act
pub table_stays : (predicate : LPredicate) (before : List Step) (step : Step) → acts_on step.truths predicate ≡ false
    → table_after predicate (before ++ step ∷ []) ≡ table_after predicate before
table_stays predicate before step e =
    table_after-push predicate before step
    ∙ ap (λ events. table_with events (table_after predicate before))
    (step_idle predicate step.at step.what step.truths e)

-- the table at a place stays, where the step doesn't act on the predicate there
pub place_stays : (predicates : List LPredicate) (before : List Step) (step : Step) (place : ℕ)
    → acts_at predicates step.truths place ≡ false
    → slice_get (tables_after predicates (before ++ step ∷ [])) place
    ≡ slice_get (tables_after predicates before) place
place_stays [] before step place e = refl
place_stays (predicate ∷ predicates) before step zero e = ap (λ table. Some table) (table_stays predicate before step e)
place_stays (predicate ∷ predicates) before step (suc place) e = place_stays predicates before step place e

-- where one of these passes isn't so, none does
none_passes : (test : ℕ → Bool) (n place : ℕ) → list_any test (range_with_len 0 n) ≡ false → place < n
    → test place ≡ false
none_passes test n place none within = elim (cases_Bool (test place)) [
  | inl passes ↦
      let is : get_or (range_with_len 0 n) place 0 ≡ place =
      omega (arith, get_or-range_with_len 0 n place 0 within) in
      let some = list_any_at test (range_with_len 0 n) place 0
      (subst (λ (l : ℕ). place < l) (sym (length-range_with_len 0 n)) within) (ap test is ∙ passes) in
      absurd (false≢true (sym none ∙ some))
  | inr fails ↦ fails
]

-- the predicate at a place, or one that is reached from it
abbrev Below : List LPredicate → ℕ → ℕ → Type 0
Below predicates root place = (root ≡ place) ⊎ Reaches (Refers (predicate_names predicates)) root place

-- what the predicate there names is reached too
below_child : (predicates : List LPredicate) (root place child : ℕ) → Below predicates root place
    → Refers (predicate_names predicates) place child → Below predicates root child
below_child predicates root place child (inl same) refers =
    inr (reaches_once (Refers (predicate_names predicates)) root child
    (subst (λ from. Refers (predicate_names predicates) from child) (sym same) refers))
below_child predicates root place child (inr reaches) refers =
    inr (reaches_last (Refers (predicate_names predicates)) root place child reaches refers)

-- a search finds it
below_reached : (predicates : List LPredicate) (root place : ℕ) → Below predicates root place
    → is_reached predicates (Some root) place ≡ true
below_reached predicates root place (inl same) = or_left (root == place) _ ((Decides-eqb root place).1 same)
below_reached predicates root place (inr reaches) =
    or_right (root == place) _
    (subst (λ most. leads_within most (predicate_names predicates) root place ≡ true)
    (length-map predicates named_predicates)
    (reaches_leads (predicate_names predicates) root place reaches))

-- where a step acts on nothing below a root, it doesn't act on a predicate there
pub not_acting : (predicates : List LPredicate) (truths : List Bool) (root place : ℕ)
    → acts_below predicates truths (Some root) ≡ false → Below predicates root place
    → acts_at predicates truths place ≡ false
not_acting predicates truths root place none below =
    elim (cases_lt place (length predicates)) [
      | inl within ↦
          let both = none_passes
          (λ place. is_reached predicates (Some root) place && acts_at predicates truths place)
          (length predicates) place none within in
          sym (ap (λ reached. reached && acts_at predicates truths place) (below_reached predicates root place below))
          ∙ both
      | inr past ↦ ap (λ found. option_map_or (acts_on truths) found false) (slice_get_past predicates place past)
    ]

module _ (predicates : List LPredicate) (before : List Step) (step : Step) (binds : List (List Bind)) where
  abbrev old : List PredicateTable
  old = tables_after predicates before

  abbrev new : List PredicateTable
  new = tables_after predicates (before ++ step ∷ [])

  -- followed so many references deep, a predicate's truth stays
  truth_stays : (root : ℕ) → acts_below predicates step.truths (Some root) ≡ false → (depth place : ℕ)
      → Below predicates root place
      → unroll (condition_step new binds predicates) Unknown depth place
      ≡ unroll (condition_step old binds predicates) Unknown depth place
  truth_stays root none zero place below = refl
  truth_stays root none (suc depth) place below =
      let deeper = unroll (condition_step new binds predicates) Unknown depth in
      let own : table_truth_at new binds place ≡ table_truth_at old binds place =
      ap (λ table. table_truth table (slice_get binds place))
      (place_stays predicates before step place (not_acting predicates step.truths root place none below)) in
      ap (λ own. truth_of_found own deeper (slice_get predicates place)) own
      ∙ truth_looks_down old binds predicates deeper (unroll (condition_step old binds predicates) Unknown depth) place
      (λ child refers. truth_stays root none depth child (below_child predicates root place child below refers))

  root_stays : (root : Option ℕ) → acts_below predicates step.truths root ≡ false
      → condition_of (record { root = root; nodes = predicates }) new binds
      ≡ condition_of (record { root = root; nodes = predicates }) old binds
  root_stays None none = refl
  root_stays (Some root) none = truth_stays root none (length predicates) root (inl refl)

-- after a step that doesn't touch a metric its condition is as it was
pub condition_stays : (installed : Installation) (metric : LMetric) → ConditionStays installed metric
condition_stays installed metric before step untouched reading =
    let predicates = installed.linked.predicates in
    root_stays predicates before step (metric_binds predicates metric reading) metric.condition
    (neither (acts_below predicates step.truths metric.condition)
    (acts_below predicates step.truths (timed_predicate metric))
    (neither (names_atom_itself metric step.truths) _ untouched).1).0

-- nothing arrives where the matcher of what is counted doesn't hold
none_arrives : (scene : Scene) (metric : LMetric) (at : ℕ) (what : What) (truths : List Bool)
    → truth_at metric.what truths ≡ false
    → arriving_by scene metric (record { at = at; what = what; truths = truths }) ≡ None
none_arrives scene metric at (Logged (AtomAt when atom)) truths e =
    ap (λ b. if b && (is_active_in scene metric at && holds_in scene metric (atom_reading atom)) then Some atom
    else None) e
none_arrives scene metric at (Logged (Tick when)) truths e = refl
none_arrives scene metric at (Logged (Pull when id outcome)) truths e = refl
none_arrives scene metric at (Reported include_current) truths e = refl

-- at a metric whose `what` is a matcher, nothing arrives by a step that doesn't touch it
pub nothing_arrives : (installed : Installation) (metric : LMetric) (before : List Step) (step : Step)
    → names_atom_itself metric step.truths ≡ truth_at metric.what step.truths
    → is_touched installed.linked.predicates metric step.truths ≡ false
    → arriving installed metric before step ≡ None
nothing_arrives installed metric before step itself untouched =
    none_arrives (scene_after installed (before ++ step ∷ [])) metric step.at step.what step.truths
    (sym itself ∙ (neither (names_atom_itself metric step.truths) _ untouched).0)
