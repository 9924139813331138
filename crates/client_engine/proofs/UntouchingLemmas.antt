-- A step that touches nothing of a configuration leaves each of its metrics alone, and its predicates as they are.
use Rattle.std.proofs.Common.{◌≡◌, ℕ, zero, suc, ◌==◌, Bool, true, false, ◌&&◌, ◌||◌, List, [], ◌∷◌, ◌++◌, length, map, get_or, slice_get, All, Option, Some, None, refl, sym, ap, subst, ◌∙◌, append_assoc, append-nil, arith}
use Rattle.std.specs.List.{AllByRecursion, flat_map, list_any, range_with_len}
use Rattle.std.specs.Option.{option_map_or, option_and_then}
use Rattle.std.proofs.lemmas.Bool.{true≢false}
use Rattle.std.proofs.lemmas.List.Folds.{list_any-append}
use Rattle.std.proofs.lemmas.Option.{slice_get_within, get_or_from_slice_get}
use Rattle.atom_record.specs.declared.log.LogFrame.TheVariants.{Tick, AtomAt, Pull}
use Rattle.atom_record.specs.Pulled.{is_pull_id}
use Rattle.matcher_eval.specs.AtomTests.{number_set}
use Rattle.config_links.specs.declared.linked.LKind.{LKind}
use Rattle.config_links.specs.declared.linked.LKind.TheVariants as kinds
use Rattle.config_links.specs.declared.linked.LMatcher.{LMatcher}
use Rattle.config_links.specs.declared.linked.LMatcher.TheVariants as linked_matchers
use Rattle.config_links.specs.declared.linked.LMetric.{LMetric}
use Rattle.config_links.specs.declared.linked.LPredicate.{LPredicate}
use Rattle.config_links.specs.declared.linked.LSlice.{LSlice}
use Rattle.config_links.specs.declared.linked.LState.{LState}
use Rattle.config_links.specs.declared.linked.Linked.{Linked}
use Rattle.config_links.specs.MetricLinks.{is_reached}
use Rattle.config_links.specs.OwnMatchers.{predicate_matchers, metric_matchers}
use Rattle.heard_ids.specs.Hearing.{matched_id, is_heard, heeded_matchers, truth_listed, some_holds}
use Rattle.metric_meaning.specs.Histories.{What, Logged, Reported, Step, truth_at}
use Rattle.metric_meaning.specs.PredicateSteps.{events_at, table_with, table_after, tables_after}
use Rattle.metric_meaning.specs.Reports.{last_report}
use Rattle.metric_meaning.specs.SnapshotSteps.{simple_of}
use Rattle.metric_meaning.specs.Touched.{acts_on, acts_at, acts_below}
use Rattle.metric_meaning.proofs.PredicateStepsLemmas.{table_after-push}
use Rattle.metric_calls.specs.SnapshotCalls.{means_pull, is_told_of}
use Rattle.client_engine.specs.Asleep.{IsUntouching, AreUntouching}
use Rattle.client_engine.specs.CaughtUp.{LeavesAlone, AllLeaveAlone}
use Rattle.known_conditions.specs.Touchers.{one_holds, is_told_by, tells_one}
use Rattle.client_engine.specs.Waking.{told_touchers, wakers, told_slices}
use Rattle.known_conditions.specs.Touchers.{touchers_named}
use Rattle.client_engine.proofs.InstanceLemmas.{reported_or, last_report-push}
use Rattle.known_conditions.proofs.KeptPredicatesLemmas.{no_events}
use Rattle.client_engine.proofs.SleepingLemmas.{touchers_named_hold}
use Rattle.known_conditions.proofs.TouchersLemmas.{own_holds, none_any, second_not}

-- neither of two
first_off : (first second : Bool) → (first || second) ≡ false → first ≡ false
first_off true second off = absurd (true≢false off)
first_off false second off = refl

second_off : (first second : Bool) → (first || second) ≡ false → second ≡ false
second_off true second off = absurd (true≢false off)
second_off false second off = off

-- two numbers differ, whichever comes first
differ : (a b : ℕ) → (a == b) ≡ false → (b == a) ≡ false
differ a b off = grind (arith, off)

-- what none of a list passes, none of its parts does
module _ {X Y : Type 0} (test : Y → Bool) (gives : X → List Y) where
  none_given : (xs : List X) → list_any test (flat_map gives xs) ≡ false
      → All (λ x. list_any test (gives x) ≡ false) xs
  none_given [] off k none within = absurd (omega (arith, within))
  none_given (x ∷ xs) off zero none within =
      first_off (list_any test (gives x)) (list_any test (flat_map gives xs))
      (sym (list_any-append test (gives x) (flat_map gives xs)) ∙ off)
  none_given (x ∷ xs) off (suc k) none within =
      none_given xs
      (second_off (list_any test (gives x)) (list_any test (flat_map gives xs))
      (sym (list_any-append test (gives x) (flat_map gives xs)) ∙ off)) k none (omega (arith, within))

none_mapped : {X Y : Type 0} (test : Y → Bool) (f : X → Y) (xs : List X) → list_any test (map f xs) ≡ false
    → All (λ x. test (f x) ≡ false) xs
none_mapped test f [] off k none within = absurd (omega (arith, within))
none_mapped test f (x ∷ xs) off zero none within = first_off (test (f x)) (list_any test (map f xs)) off
none_mapped test f (x ∷ xs) off (suc k) none within =
    none_mapped test f xs (second_off (test (f x)) (list_any test (map f xs)) off) k none (omega (arith, within))

-- what is so of all is so of one that is found
pub of_found : {X : Type 0} (P : X → Type 0) (xs : List X) (place : ℕ) (x : X) → All P xs
    → slice_get xs place ≡ Some x → P x
of_found P xs place x all is =
    subst P (get_or_from_slice_get xs place x x is) (all place x (slice_get_within xs place x is))

-- where none of two lists of matchers holds, none of both does
both_off : (truths : List Bool) (first second : List ℕ) → one_holds truths first ≡ false
    → one_holds truths second ≡ false → one_holds truths (first ++ second) ≡ false
both_off truths first second off others =
    list_any-append (λ matcher. truth_at matcher truths) first second
    ∙ ap (λ b. b || one_holds truths second) off ∙ others

-- the truth that is listed for a place is the one at it
listed_there : (place : ℕ) (truths : List Bool) → truth_listed place truths ≡ truth_at place truths
listed_there place [] = refl
listed_there zero (truth ∷ truths) = refl
listed_there (suc place) (truth ∷ truths) = listed_there place truths

-- one of these matchers holds, as the configuration's definition has it
some_is_one : (truths : List Bool) (places : List ℕ) → some_holds truths places ≡ one_holds truths places
some_is_one truths [] = refl
some_is_one truths (place ∷ places) =
    ap (λ b. b || some_holds truths places) (listed_there place truths)
    ∙ ap (λ b. truth_at place truths || b) (some_is_one truths places)

module _ (linked : Linked) (truths : List Bool) (off : some_holds truths (heeded_matchers linked) ≡ false) where
  abbrev holds : ℕ → Bool
  holds matcher = truth_at matcher truths

  abbrev of_predicate : LPredicate → List ℕ
  of_predicate predicate = predicate_matchers predicate.body

  none_holds : (one_holds truths (flat_map of_predicate linked.predicates)
      || one_holds truths (flat_map metric_matchers linked.metrics)) ≡ false
  none_holds =
      sym (list_any-append holds (flat_map of_predicate linked.predicates) (flat_map metric_matchers linked.metrics))
      ∙ sym (some_is_one truths (heeded_matchers linked)) ∙ off

  -- the atom acts on no predicate
  pub acts_on_none : All (λ predicate. acts_on truths predicate ≡ false) linked.predicates
  acts_on_none k none within =
      let predicate = get_or linked.predicates k none in
      sym (own_holds predicate truths)
      ∙ none_given holds of_predicate linked.predicates
      (first_off (one_holds truths (flat_map of_predicate linked.predicates))
      (one_holds truths (flat_map metric_matchers linked.metrics)) none_holds) k none within

  -- so it acts below no root
  acts_below_none : (root : Option ℕ) → acts_below linked.predicates truths root ≡ false
  acts_below_none root =
      none_any (λ place. is_reached linked.predicates root place && acts_at linked.predicates truths place)
      (range_with_len 0 (length linked.predicates))
      (λ place. second_not (is_reached linked.predicates root place) (acts_at linked.predicates truths place)
      (at_place (slice_get linked.predicates place)
      (λ predicate is. of_found (λ predicate. acts_on truths predicate ≡ false) linked.predicates place predicate
      acts_on_none is))) where
        at_place : (found : Option LPredicate)
            → ((predicate : LPredicate) → found ≡ Some predicate → acts_on truths predicate ≡ false)
            → option_map_or (acts_on truths) found false ≡ false
        at_place None quiet = refl
        at_place (Some predicate) quiet = quiet predicate refl

  touchers_off : (root : Option ℕ) → one_holds truths (touchers_named linked.predicates root) ≡ false
  touchers_off root = touchers_named_hold linked.predicates truths root ∙ acts_below_none root

  -- and none of the matchers holds that wake a metric, where none of its own does
  wakers_off : (metric : LMetric) → one_holds truths (metric_matchers metric) ≡ false
      → one_holds truths (wakers linked.predicates metric) ≡ false
  wakers_off metric quiet =
      both_off truths (metric_matchers metric) (told_touchers linked.predicates metric) quiet
      (of_kind metric.kind) where
        timed_off : one_holds truths
            (touchers_named linked.predicates metric.condition
            ++ touchers_named linked.predicates (Some metric.what)) ≡ false
        timed_off =
            both_off truths (touchers_named linked.predicates metric.condition)
            (touchers_named linked.predicates (Some metric.what)) (touchers_off metric.condition)
            (touchers_off (Some metric.what))

        of_kind : (kind : LKind)
            → one_holds truths (told_touchers linked.predicates (record metric { kind = kind })) ≡ false
        of_kind (kinds.Count overflow) = refl
        of_kind (kinds.PushedValue atom_id leaf aggregation) = refl
        of_kind (kinds.PulledValue atom_id leaf spec) = touchers_off metric.condition
        of_kind (kinds.PushedGauge fields samples) = refl
        of_kind (kinds.PulledGauge fields samples mode trigger) = touchers_off metric.condition
        of_kind kinds.Event = refl
        of_kind (kinds.SumDuration spec) = timed_off
        of_kind (kinds.MaxSparse spec) = timed_off

  -- so it is of each metric of the configuration
  pub wakes_none : All (λ metric. one_holds truths (wakers linked.predicates metric) ≡ false) linked.metrics
  wakes_none k none within =
      wakers_off (get_or linked.metrics k none)
      (none_given holds metric_matchers linked.metrics
      (second_off (one_holds truths (flat_map of_predicate linked.predicates))
      (one_holds truths (flat_map metric_matchers linked.metrics)) none_holds) k none within)

module _ (linked : Linked) (id : ℕ) (unheard : is_heard linked id ≡ false) where
  abbrev same : ℕ → Bool
  same heard = heard == id

  abbrev matched : List ℕ
  matched = flat_map matched_id linked.matchers

  abbrev told : List ℕ
  told = map (λ (state : LState). state.atom_id) linked.states

  none_same : (list_any same matched || list_any same told) ≡ false
  none_same = sym (list_any-append same matched told) ∙ unheard

  -- an id that isn't heard tells no state
  pub tells_none : (slices : List LSlice) → tells_one linked.states id slices ≡ false
  tells_none [] = refl
  tells_none (slice ∷ slices) =
      ap (λ b. b || tells_one linked.states id slices)
      (at_place (slice_get linked.states slice.state)
      (λ state is. of_found (λ (state : LState). (state.atom_id == id) ≡ false) linked.states slice.state state
      (none_mapped same (λ (state : LState). state.atom_id) linked.states
      (second_off (list_any same matched) (list_any same told) none_same)) is))
      ∙ tells_none slices where
        at_place : (found : Option LState)
            → ((state : LState) → found ≡ Some state → (state.atom_id == id) ≡ false) → is_told_by id found ≡ false
        at_place None quiet = refl
        at_place (Some state) quiet = differ state.atom_id id (quiet state refl)

  -- and a pull of it is told to no metric
  pub told_of_none : (metric : LMetric) → is_told_of linked.matchers metric id ≡ false
  told_of_none metric =
      at_place (slice_get linked.matchers metric.what)
      (λ matcher is. of_found (λ matcher. list_any same (matched_id matcher) ≡ false)
      linked.matchers metric.what matcher
      (none_given same matched_id linked.matchers
      (first_off (list_any same matched) (list_any same told) none_same)) is) where
        no_pull : (is pulled : Bool) → is ≡ false → (is && pulled) ≡ false
        no_pull true pulled off = absurd (true≢false off)
        no_pull false pulled off = refl

        at_place : (found : Option LMatcher)
            → ((matcher : LMatcher) → found ≡ Some matcher → list_any same (matched_id matcher) ≡ false)
            → option_map_or (means_pull id) (option_and_then simple_of found) false ≡ false
        at_place None quiet = refl
        at_place (Some (linked_matchers.Simple simple)) quiet =
            no_pull (id == number_set simple.atom_id) (is_pull_id id)
            (differ (number_set simple.atom_id) id
            (first_off (number_set simple.atom_id == id) false (quiet (linked_matchers.Simple simple) refl)))
        at_place (Some (linked_matchers.Combo op children)) quiet = refl

module _ (linked : Linked) where
  -- a step that touches nothing leaves each metric alone
  untouching_alone : (step : Step) → IsUntouching linked step
      → All (λ metric. LeavesAlone linked metric step) linked.metrics
  untouching_alone step untouching = of_what step.what untouching where
    of_what : (what : What) → let s : Step = record step { what = what } in IsUntouching linked s
        → All (λ metric. LeavesAlone linked metric s) linked.metrics
    of_what (Logged (Tick at)) untouching k none within = tt
    of_what (Logged (AtomAt at atom)) untouching k none within = (
      wakes_none linked step.truths untouching.1 k none within,
      tells_none linked atom.id untouching.0 (told_slices (get_or linked.metrics k none)),
    )
    of_what (Logged (Pull at id outcome)) untouching k none within =
        told_of_none linked id untouching (get_or linked.metrics k none)
    of_what (Reported include_current) untouching k none within = absurd untouching

  -- so does a run of such steps
  pub run_leaves_alone : (run : List Step) → AreUntouching linked run → All (AllLeaveAlone linked run) linked.metrics
  run_leaves_alone [] untouching k none within = tt
  run_leaves_alone (step ∷ run) untouching k none within =
      (untouching_alone step untouching.0 k none within, run_leaves_alone run untouching.1 k none within)

  -- it does nothing to a predicate
  no_events_at : (step : Step) → IsUntouching linked step
      → All (λ predicate. events_at predicate step ≡ []) linked.predicates
  no_events_at step untouching = of_what step.what untouching where
    of_what : (what : What) → let s : Step = record step { what = what } in IsUntouching linked s
        → All (λ predicate. events_at predicate s ≡ []) linked.predicates
    of_what (Logged (Tick at)) untouching k none within = refl
    of_what (Logged (AtomAt at atom)) untouching k none within =
        no_events (get_or linked.predicates k none) step.truths atom
        (acts_on_none linked step.truths untouching.1 k none within)
    of_what (Logged (Pull at id outcome)) untouching k none within = refl
    of_what (Reported include_current) untouching k none within = absurd untouching

  run_events : (run : List Step) → AreUntouching linked run
      → All (λ predicate. AllByRecursion (λ step. events_at predicate step ≡ []) run) linked.predicates
  run_events [] untouching k none within = tt
  run_events (step ∷ run) untouching k none within =
      (no_events_at step untouching.0 k none within, run_events run untouching.1 k none within)

-- what a predicate knows stays, where nothing is done to it
table_stays : (predicate : LPredicate) (steps run : List Step)
    → AllByRecursion (λ step. events_at predicate step ≡ []) run
    → table_after predicate (steps ++ run) ≡ table_after predicate steps
table_stays predicate steps [] none = ap (table_after predicate) (append-nil steps)
table_stays predicate steps (step ∷ run) none =
    ap (table_after predicate) (sym (append_assoc steps (step ∷ []) run))
    ∙ table_stays predicate (steps ++ step ∷ []) run none.1
    ∙ table_after-push predicate steps step
    ∙ ap (λ events. table_with events (table_after predicate steps)) none.0

tables_stay : (predicates : List LPredicate) (steps run : List Step)
    → All (λ predicate. AllByRecursion (λ step. events_at predicate step ≡ []) run) predicates
    → tables_after predicates (steps ++ run) ≡ tables_after predicates steps
tables_stay [] steps run none = refl
tables_stay (predicate ∷ predicates) steps run none =
    ap (λ table. table ∷ tables_after predicates (steps ++ run))
    (table_stays predicate steps run (none 0 predicate (omega arith)))
    ∙ ap (λ tables. table_after predicate steps ∷ tables)
    (tables_stay predicates steps run (λ k other within. none (suc k) other (omega (arith, within))))

-- what predicates know stays, where a run touches nothing
pub run_tables : (linked : Linked) (steps run : List Step) → AreUntouching linked run
    → tables_after linked.predicates (steps ++ run) ≡ tables_after linked.predicates steps
run_tables linked steps run untouching = tables_stay linked.predicates steps run (run_events linked run untouching)

-- no report is among steps that touch nothing
no_report : (linked : Linked) (last : ℕ) (step : Step) → IsUntouching linked step
    → reported_or last step.at step.what ≡ last
no_report linked last step untouching = of_what step.what untouching where
  of_what : (what : What) → IsUntouching linked (record step { what = what }) → reported_or last step.at what ≡ last
  of_what (Logged frame) untouching = refl
  of_what (Reported include_current) untouching = absurd untouching

pub run_reports_none : (linked : Linked) (last : ℕ) (steps run : List Step) → AreUntouching linked run
    → last_report last (steps ++ run) ≡ last_report last steps
run_reports_none linked last steps [] untouching = ap (last_report last) (append-nil steps)
run_reports_none linked last steps (step ∷ run) untouching =
    ap (last_report last) (sym (append_assoc steps (step ∷ []) run))
    ∙ run_reports_none linked last (steps ++ step ∷ []) run untouching.1
    ∙ last_report-push last steps step
    ∙ no_report linked (last_report last steps) step untouching.0
