-- Predicates and their tables, one by one: lemmas on `specs/KeptPredicates.antt` and `specs/Known.antt`.
use Rattle.std.proofs.Common.{◌≡◌, ℕ, zero, suc, ◌+◌, ◌<◌, ◌≤◌, ◌||◌, Bool, true, false, List, [], ◌∷◌, ◌++◌, length, map, get_or, set, drop, replicate, refl, sym, ap, subst, ◌∙◌, append_assoc, arith, inl, inr}
use Rattle.std.specs.Prelude.{Option, Some, None, IfSome}
use Rattle.std.specs.List.{range_with_len}
use Rattle.std.proofs.lemmas.Bool.{cases_Bool, cases_eq, true≢false}
use Rattle.std.proofs.lemmas.List.{append-nil, length-map, length-set, length-replicate, get_or-map, get_or-replicate, get_or-set_same, get_or-set_other, drop_all, drop_more}
use Rattle.std.proofs.lemmas.List.FromFn.{length-map-range_with_len}
use Rattle.atom_record.specs.declared.atom.Atom.{Atom}
use Rattle.atom_record.specs.declared.log.LogFrame.TheVariants.{Tick, AtomAt, Pull}
use Rattle.atom_record.specs.declared.log.PullOutcome.{PullOutcome}
use Rattle.config_links.specs.declared.linked.LMetric.{LMetric}
use Rattle.config_links.specs.declared.linked.LPredBody.{LPredBody}
use Rattle.config_links.specs.declared.linked.LPredBody.TheVariants.{Simple, Combo}
use Rattle.config_links.specs.declared.linked.LPredicate.{LPredicate}
use Rattle.config_links.specs.SoundConfig.{MayBeWithin}
use Rattle.condition_links.specs.Conditions.{predicate_truth, root_truth, condition_of, IsSoundTree, AreTables}
use Rattle.predicate_state.specs.declared.bind.Bind.{Bind}
use Rattle.predicate_state.specs.declared.truth.Truth.{Truth}
use Rattle.predicate_state.specs.declared.truth.Truth.TheVariants.{True}
use Rattle.predicate_state.specs.PredicateTable.{PredicateTable}
use Rattle.report_writer.specs.declared.tree.Drop64.{Drop64}
use Rattle.field_select.specs.LeafValues.{key_of}
use Rattle.metric_meaning.specs.Histories.{Step, truth_at}
use Rattle.metric_meaning.specs.Touched.{acts_on}
use Rattle.metric_meaning.specs.Readings.{LeafReading}
use Rattle.metric_meaning.specs.MetricConditions.{metric_binds, condition_tree, condition_truth}
use Rattle.metric_meaning.specs.PredicateSteps.{named_truth, first_event, on_key, table_spec, table_with, table_after, tables_after, atom_events, drop_above_zero}
use Rattle.metric_meaning.proofs.PredicateStepsLemmas.{table_after-push, tables_after-idle}
use Rattle.known_conditions.specs.Known.{Known, KnowsStep, drops_in}
use Rattle.known_conditions.specs.Known.{logged_step}
use Rattle.known_conditions.specs.Lists.{is_in, AreListed, places_under}
use Rattle.known_conditions.specs.Marks.{AreAllMarked}
use Rattle.known_conditions.specs.KeptPredicates.{HaveTheirSpecs, CanBeKept, AreKept, AreActedOn, tables_with, acting_matchers}
use Rattle.known_conditions.proofs.ListsLemmas.{none_hold}
use Rattle.known_conditions.proofs.MarksLemmas.{get_or_any, marked_within}
use Rattle.known_conditions.proofs.TouchersLemmas.{own_holds}
use Rattle.known_conditions.proofs.ListsLemmas.{map-set_same}

-- what an atom makes of tables that know some steps is what they know with the atom
pub acts_after : (predicates : List LPredicate) (steps : List Step) (at : ℕ) (atom : Atom) (truths : List Bool)
    → tables_with truths atom predicates (tables_after predicates steps)
    ≡ tables_after predicates (steps ++ logged_step (AtomAt at atom) truths ∷ [])
acts_after [] steps at atom truths = refl
acts_after (predicate ∷ predicates) steps at atom truths =
    let step = logged_step (AtomAt at atom) truths in
    ap (λ table. table ∷ tables_with truths atom predicates (tables_after predicates steps))
    (sym (table_after-push predicate steps step))
    ∙ ap (λ tables. table_after predicate (steps ++ step ∷ []) ∷ tables)
    (acts_after predicates steps at atom truths)

-- an atom is known of
pub knows_atom : (predicates : List LPredicate) (old new : List PredicateTable) (at : ℕ) (atom : Atom)
    (truths : List Bool) → new ≡ tables_with truths atom predicates old
    → KnowsStep (logged_step (AtomAt at atom) truths) (record { predicates = predicates; tables = old })
    (record { predicates = predicates; tables = new })
knows_atom predicates old new at atom truths is = λ steps knows.
    is ∙ ap (tables_with truths atom predicates) knows ∙ acts_after predicates steps at atom truths

-- where there is no table there is no predicate, and so nothing that a step does
pub knows_none : (predicates : List LPredicate) (tables : List PredicateTable) (step : Step)
    → HaveTheirSpecs predicates tables → length tables ≡ 0
    → KnowsStep step (record { predicates = predicates; tables = tables })
    (record { predicates = predicates; tables = tables })
knows_none [] [] step have none = λ steps knows. refl
knows_none (predicate ∷ predicates) [] step have none = cc
knows_none predicates (table ∷ tables) step have none = cc

-- a tick does nothing to predicates
pub knows_tick : (known : Known) (at : ℕ) (truths : List Bool) → KnowsStep (logged_step (Tick at) truths) known known
knows_tick known at truths = λ steps knows.
    knows ∙ sym (tables_after-idle known.predicates steps (logged_step (Tick at) truths) (λ predicate. refl))

-- and a pull doesn't
pub knows_pull : (known : Known) (at id : ℕ) (outcome : PullOutcome) (truths : List Bool)
    → KnowsStep (logged_step (Pull at id outcome) truths) known known
knows_pull known at id outcome truths = λ steps knows.
    knows ∙ sym (tables_after-idle known.predicates steps (logged_step (Pull at id outcome) truths) (λ predicate. refl))

-- there is one table for each predicate
pub as_many : (predicates : List LPredicate) (tables : List PredicateTable) → HaveTheirSpecs predicates tables
    → length tables ≡ length predicates
as_many predicates tables specs =
    sym (length-map tables (λ (table : PredicateTable). table.spec)) ∙ ap length specs
    ∙ length-map predicates (λ (predicate : LPredicate). table_spec predicate.body)

-- the table at a place is kept as the predicate there says
pub spec_there : (predicates : List LPredicate) (tables : List PredicateTable) (place : ℕ) (one : LPredicate)
    (none : PredicateTable) → HaveTheirSpecs predicates tables → place < length predicates
    → (get_or tables place none).spec ≡ table_spec (get_or predicates place one).body
spec_there predicates tables place one none specs within =
    let many = as_many predicates tables specs in
    sym (get_or-map (λ (table : PredicateTable). table.spec) tables place none none.spec (omega (arith, many, within)))
    ∙ ap (λ l. get_or l place none.spec) specs
    ∙ get_or-map (λ (predicate : LPredicate). table_spec predicate.body) predicates place one none.spec within

-- what an atom makes of the table at a place
acted_there : (truths : List Bool) (atom : Atom) (predicates : List LPredicate) (tables : List PredicateTable)
    (place : ℕ) (one : LPredicate) (none : PredicateTable) → place < length predicates → place < length tables
    → get_or (tables_with truths atom predicates tables) place none
    ≡ table_with (atom_events (get_or predicates place one).body truths atom) (get_or tables place none)
acted_there truths atom [] tables place one none within there = absurd (omega arith)
acted_there truths atom (predicate ∷ predicates) [] place one none within there = absurd (omega arith)
acted_there truths atom (predicate ∷ predicates) (table ∷ tables) zero one none within there = refl
acted_there truths atom (predicate ∷ predicates) (table ∷ tables) (suc place) one none within there =
    acted_there truths atom predicates tables place one none (omega arith) (omega arith)

-- an atom leaves as many tables as there were
acted_length : (truths : List Bool) (atom : Atom) (predicates : List LPredicate) (tables : List PredicateTable)
    → length tables ≡ length predicates → length (tables_with truths atom predicates tables) ≡ length predicates
acted_length truths atom [] tables same = refl
acted_length truths atom (predicate ∷ predicates) [] same = absurd (omega (arith, same))
acted_length truths atom (predicate ∷ predicates) (table ∷ tables) same =
    ap suc (acted_length truths atom predicates tables (omega (arith, same)))

-- a list that has a place has an item
some_item : {X : Type 0} (xs : List X) (place : ℕ) → place < length xs → X
some_item [] place within = absurd (omega (arith, within))
some_item (x ∷ xs) place within = x

-- two lists are one where they have the same at each place
same_lists : {X : Type 0} (xs ys : List X) → length xs ≡ length ys
    → ((place : ℕ) (none : X) → place < length xs → get_or xs place none ≡ get_or ys place none) → xs ≡ ys
same_lists [] [] same each = refl
same_lists [] (y ∷ ys) same each = absurd (omega (arith, same))
same_lists (x ∷ xs) [] same each = absurd (omega (arith, same))
same_lists (x ∷ xs) (y ∷ ys) same each =
    ap (λ first. first ∷ xs) (each 0 x (omega arith))
    ∙ ap (λ rest. y ∷ rest) (same_lists xs ys (omega (arith, same))
    (λ place none within. each (suc place) none (omega (arith, within))))

-- nothing happens to a table without events
pub no_events : (predicate : LPredicate) (truths : List Bool) (atom : Atom) → acts_on truths predicate ≡ false
    → atom_events predicate.body truths atom ≡ []
no_events predicate truths atom off = of_body predicate.body off where
  three_off : (stop_all stop start : Bool) → (stop_all || (stop || start)) ≡ false
      → first_event stop_all stop start ≡ None
  three_off true stop start off = absurd (true≢false off)
  three_off false true start off = absurd (true≢false off)
  three_off false false true off = absurd (true≢false off)
  three_off false false false off = refl

  of_body : (body : LPredBody) → acts_on truths (record predicate { body = body }) ≡ false
      → atom_events body truths atom ≡ []
  of_body (Simple start stop stop_all dims spec) off =
      ap (on_key (key_of dims atom))
      (three_off (named_truth stop_all truths) (named_truth stop truths) (named_truth start truths) off)
  of_body (Combo op children) off = refl

module _ (truths : List Bool) (atom : Atom) (predicates : List LPredicate) (old : List PredicateTable)
    (specs : HaveTheirSpecs predicates old) where
  -- it acted on none yet
  pub none_acted : AreActedOn truths atom predicates old old (replicate (length predicates) false)
  none_acted = record {
    specs = specs;
    marked = length-replicate (length predicates) false;
    done = λ place one none within on.
        absurd (true≢false (sym on ∙ get_or-replicate (length predicates) place false true within));
    rest = λ place none off. refl;
  }

  module _ (now : List PredicateTable) (marks : List Bool) (place : ℕ) (table none : PredicateTable)
      (are : AreActedOn truths atom predicates old now marks) (off : get_or marks place true ≡ false) where
    -- a place that isn't marked is one of a predicate
    pub acting_within : place < length predicates
    acting_within = subst (λ n. place < n) are.marked (marked_within marks place off)

    there : place < length now
    there = omega (arith, acting_within, as_many predicates now are.specs)

    -- whatever happens to one table, it is kept as its predicate says
    pub still_kept : table.spec ≡ (get_or now place none).spec → HaveTheirSpecs predicates (set now place table)
    still_kept same = map-set_same (λ (t : PredicateTable). t.spec) now place table none there same ∙ are.specs

    -- it acted on one more
    pub one_acted : (one : LPredicate)
        → table ≡ table_with (atom_events (get_or predicates place one).body truths atom) (get_or now place none)
        → table.spec ≡ (get_or now place none).spec
        → AreActedOn truths atom predicates old (set now place table) (set marks place true)
    one_acted one is same = record {
      specs = still_kept same;
      marked = length-set marks place true ∙ are.marked;
      done = λ other some rest within on. elim (cases_eq other place) [
        | inl same_place ↦
            subst (λ p. get_or (set now place table) p rest
            ≡ table_with (atom_events (get_or predicates p some).body truths atom) (get_or old p rest)) (sym same_place)
            (get_or-set_same now place table rest there ∙ is
            ∙ ap (λ (p : LPredicate). table_with (atom_events p.body truths atom) (get_or now place none))
            (get_or_any predicates place one some acting_within)
            ∙ ap (table_with (atom_events (get_or predicates place some).body truths atom))
            (get_or_any now place none rest there ∙ are.rest place rest off))
        | inr differ ↦
            get_or-set_other now place other table rest differ
            ∙ are.done other some rest within (sym (get_or-set_other marks place other true true differ) ∙ on)
      ];
      rest = λ other rest still. elim (cases_eq other place) [
        | inl same_place ↦
            absurd (true≢false (sym (get_or-set_same marks place true true (marked_within marks place off))
            ∙ subst (λ p. get_or (set marks place true) p true ≡ false) same_place still))
        | inr differ ↦
            get_or-set_other now place other table rest differ
            ∙ are.rest other rest (sym (get_or-set_other marks place other true true differ) ∙ still)
      ];
    }

  -- it acted on all of which a matcher holds, where these are listed
  pub all_acted : (lists : List (List ℕ)) (now : List PredicateTable) (marks : List Bool)
      → AreListed lists acting_matchers predicates → AreActedOn truths atom predicates old now marks
      → AreAllMarked (places_under lists (λ matcher. truth_at matcher truths)) marks
      → now ≡ tables_with truths atom predicates old
  all_acted lists now marks listed are marked =
      let holds : ℕ → Bool = λ matcher. truth_at matcher truths in
      let many = as_many predicates now are.specs in
      let were = as_many predicates old specs in
      same_lists now (tables_with truths atom predicates old)
      (many ∙ sym (acted_length truths atom predicates old were))
      (λ place none within.
      let inside : place < length predicates = omega (arith, many, within) in
      let one = some_item predicates place inside in
      let predicate = get_or predicates place one in
      let there = sym (acted_there truths atom predicates old place one none inside (omega (arith, were, inside))) in
      elim (cases_Bool (get_or marks place true)) [
        | inl on ↦ are.done place one none inside on ∙ there
        | inr off ↦
            let out : is_in place (places_under lists holds) ≡ false =
            elim (cases_Bool (is_in place (places_under lists holds))) [
              | inl among ↦ absurd (true≢false (sym (marked place among) ∙ off))
              | inr isnt ↦ isnt
            ] in
            let quiet = sym (own_holds predicate truths)
            ∙ none_hold lists holds (acting_matchers predicate) place (listed place one inside) out in
            are.rest place none off
            ∙ sym (ap (λ events. table_with events (get_or old place none)) (no_events predicate truths atom quiet))
            ∙ there
      ])

-- one more predicate's drops are told
pub one_told : (predicates : List LPredicate) (tables : List PredicateTable) (place : ℕ) (one : LPredicate)
    (none : PredicateTable) (told now : List Drop64) → place < length predicates → place < length tables
    → told ++ drops_in (drop place predicates) (drop place tables) ≡ drops_in predicates tables
    → now ≡ told ++ drop_above_zero (record {
      id = (get_or predicates place one).id;
      number = (get_or tables place none).state.dropped;
    })
    → now ++ drops_in (drop (place + 1) predicates) (drop (place + 1) tables) ≡ drops_in predicates tables
one_told predicates tables place one none told now within there all is =
    let drop_here = drop_above_zero (record {
      id = (get_or predicates place one).id;
      number = (get_or tables place none).state.dropped;
    }) in
    let left = drops_in (drop (place + 1) predicates) (drop (place + 1) tables) in
    ap (λ l. l ++ left) is ∙ append_assoc told drop_here left
    ∙ ap (λ l. told ++ l)
    (ap (λ ps. drops_in ps (get_or tables place none ∷ drop (place + 1) tables))
    (sym (drop_more predicates place one within))
    ∙ ap (drops_in (drop place predicates)) (sym (drop_more tables place none there)))
    ∙ all

-- all are told
pub all_told : (predicates : List LPredicate) (tables : List PredicateTable) (place : ℕ) (told : List Drop64)
    → length predicates ≤ place
    → told ++ drops_in (drop place predicates) (drop place tables) ≡ drops_in predicates tables
    → told ≡ drops_in predicates tables
all_told predicates tables place told ends all =
    sym (append-nil told) ∙ ap (λ ps. told ++ drops_in ps (drop place tables)) (sym (drop_all place predicates ends))
    ∙ all

-- tables that nothing has happened to are kept as their predicates say
new_specs : (predicates : List LPredicate) → HaveTheirSpecs predicates (tables_after predicates [])
new_specs [] = refl
new_specs (predicate ∷ predicates) = ap (λ specs. table_spec predicate.body ∷ specs) (new_specs predicates)

-- predicates that can be kept, with new tables
pub new_kept : (predicates : List LPredicate) (tables : List PredicateTable) → CanBeKept predicates
    → tables ≡ tables_after predicates [] → AreKept predicates tables
new_kept predicates tables can are =
    record { can = can; specs = subst (HaveTheirSpecs predicates) (sym are) (new_specs predicates) }

-- a root that may be asked is one of the predicates
root_within : (count : ℕ) (root : Option ℕ) → MayBeWithin count root → IfSome root (λ place. place < count)
root_within count None within = tt
root_within count (Some place) within = within

-- kept predicates may be asked
pub sound_tree : (nodes : List LPredicate) (tables : List PredicateTable) (root : Option ℕ) → AreKept nodes tables
    → MayBeWithin (length nodes) root → IsSoundTree (record { root = root; nodes = nodes })
sound_tree nodes tables root kept within = record {
  few = kept.can.few;
  root = root_within (length nodes) root within;
  in_range = kept.can.in_range;
  no_cycle = kept.can.no_cycle;
}

-- there is a table and a list of binds for each
pub are_tables : (nodes : List LPredicate) (tables : List PredicateTable) (asks : ℕ → List Bind)
    (binds : List (List Bind)) → AreKept nodes tables → binds ≡ map asks (range_with_len 0 (length nodes))
    → AreTables nodes tables binds
are_tables nodes tables asks binds kept are = record {
  one_table = as_many nodes tables kept.specs;
  one_list = ap length are ∙ length-map-range_with_len asks 0 (length nodes);
}

-- without a condition all is counted
pub no_condition : (predicates : List LPredicate) (tables : List PredicateTable) (metric : LMetric)
    (reading : LeafReading) → metric.condition ≡ None → True ≡ condition_truth predicates tables metric reading
no_condition predicates tables metric reading none =
    let binds = metric_binds predicates metric reading in
    sym (ap (λ root. root_truth (predicate_truth tables binds predicates) root) none)

-- what was found is the truth of the condition
pub truth_found : (predicates : List LPredicate) (tables : List PredicateTable) (metric : LMetric)
    (reading : LeafReading) (truth : Truth) (binds : List (List Bind))
    → truth ≡ condition_of (condition_tree predicates metric) tables binds
    → binds ≡ metric_binds predicates metric reading
    → truth ≡ condition_truth predicates tables metric reading
truth_found predicates tables metric reading truth binds found asked =
    found ∙ ap (condition_of (condition_tree predicates metric) tables) asked
