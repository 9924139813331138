-- Metrics in the lists of what wakes them: those in no list that is found sleep.
use Rattle.std.proofs.Common.{◌≡◌, ℕ, ◌||◌, Bool, List, [], ◌∷◌, map, get_or, refl, sym, ap, ◌∙◌}
use Rattle.std.specs.List.{list_any}
use Rattle.atom_record.specs.declared.log.LogFrame.{LogFrame}
use Rattle.atom_record.specs.declared.log.LogFrame.TheVariants.{Tick, AtomAt, Pull}
use Rattle.config_links.specs.declared.linked.LMetric.{LMetric}
use Rattle.config_links.specs.declared.linked.LPredicate.{LPredicate}
use Rattle.config_links.specs.declared.linked.LSlice.{LSlice}
use Rattle.config_links.specs.declared.linked.LState.{LState}
use Rattle.metric_meaning.specs.Histories.{truth_at}
use Rattle.known_conditions.specs.Lists.{is_in, places_under}
use Rattle.client_engine.specs.Waking.{wakers, told_slices, told_states, Listens, is_told_at, places_woken, OthersSleep}
use Rattle.known_conditions.proofs.ListsLemmas.{is_in-append, neither_first, neither_second, none_hold}
use Rattle.client_engine.specs.declared.listeners.Listeners.{Listeners}

-- the states that slices name
any_state : (test : ℕ → Bool) (slices : List LSlice)
    → list_any test (map (λ (slice : LSlice). slice.state) slices)
    ≡ list_any (λ (slice : LSlice). test slice.state) slices
any_state test [] = refl
any_state test (slice ∷ slices) = ap (λ b. test slice.state || b) (any_state test slices)

-- a metric that isn't among those that a frame wakes sleeps through it
pub others_sleep : (listeners : Listeners) (predicates : List LPredicate) (states : List LState) (frame : LogFrame)
    (truths : List Bool) (metrics : List LMetric) → Listens listeners predicates metrics
    → OthersSleep (places_woken listeners states frame truths) predicates states frame truths metrics
others_sleep listeners predicates states (Tick at) truths metrics listens place none within out = tt
others_sleep listeners predicates states (AtomAt at atom) truths metrics listens place none within out =
    let holds : ℕ → Bool = λ matcher. truth_at matcher truths in
    let matched = places_under listeners.by_matcher.items holds in
    let told = places_under listeners.by_state.items (is_told_at states atom.id) in
    let both = sym (is_in-append place matched told) ∙ out in
    let metric = get_or metrics place none in (
      none_hold listeners.by_matcher.items holds (wakers predicates metric) place
          (listens.to_matchers place none within) (neither_first (is_in place matched) (is_in place told) both),
      sym (any_state (is_told_at states atom.id) (told_slices metric))
          ∙ none_hold listeners.by_state.items (is_told_at states atom.id) (told_states metric) place
          (listens.to_states place none within) (neither_second (is_in place matched) (is_in place told) both),
    )
others_sleep listeners predicates states (Pull at id outcome) truths metrics listens place none within out = tt
