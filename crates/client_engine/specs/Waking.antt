-- Which metrics an atom wakes: those of which it can change something. One that it doesn't wake, and none of whose
-- buckets ends with it, is as it was. For private clauses.
use Rattle.std.specs.Prelude.{◌≡◌, ℕ, ◌<◌, Bool, false, List, [], ◌++◌, length, map, get_or, slice_get, Some}
use Rattle.atom_record.specs.declared.log.LogFrame.{LogFrame}
use Rattle.atom_record.specs.declared.log.LogFrame.TheVariants.{AtomAt}
use Rattle.config_links.specs.declared.linked.LKind.{LKind}
use Rattle.config_links.specs.declared.linked.LKind.TheVariants.{PulledValue, PulledGauge, SumDuration, MaxSparse}
use Rattle.config_links.specs.declared.linked.LMetric.{LMetric}
use Rattle.config_links.specs.declared.linked.LPredicate.{LPredicate}
use Rattle.config_links.specs.declared.linked.LSlice.{LSlice}
use Rattle.config_links.specs.declared.linked.LState.{LState}
use Rattle.config_links.specs.OwnMatchers.{metric_matchers}
use Rattle.metric_meaning.specs.Histories.{truth_at}
use Rattle.known_conditions.specs.Lists.{is_in, AreListed, places_under}
use Rattle.known_conditions.specs.Touchers.{touchers_named, one_holds, is_told_by, tells_one}
use Rattle.client_engine.specs.declared.listeners.Listeners.{Listeners}

-- The matchers that touch the predicates of which a metric is told each change: the condition of one that is pulled,
-- and of a duration also the predicate that it times. One that gets atoms asks for its condition when one comes, so
-- that what acts on the condition alone changes nothing of it.
abbrev pub told_touchers : List LPredicate → LMetric → List ℕ
told_touchers predicates metric = of_kind metric.kind where
  of_kind : LKind → List ℕ
  of_kind (PulledValue atom_id leaf spec) = touchers_named predicates metric.condition
  of_kind (PulledGauge fields samples mode trigger) = touchers_named predicates metric.condition
  of_kind (SumDuration spec) = touchers_named predicates metric.condition
      ++ touchers_named predicates (Some metric.what)
  of_kind (MaxSparse spec) = touchers_named predicates metric.condition ++ touchers_named predicates (Some metric.what)
  of_kind _ = []

-- the matchers whose atoms can change something of a metric: its own, and those that touch what it is told of
abbrev pub wakers : List LPredicate → LMetric → List ℕ
wakers predicates metric = metric_matchers metric ++ told_touchers predicates metric

-- the slices by which a change of a state is told: those of a duration
abbrev pub told_slices : LMetric → List LSlice
told_slices metric = of_kind metric.kind where
  of_kind : LKind → List LSlice
  of_kind (SumDuration spec) = metric.slices
  of_kind (MaxSparse spec) = metric.slices
  of_kind _ = []

-- the states whose atoms can change something of a metric
abbrev pub told_states : LMetric → List ℕ
told_states metric = map (λ (slice : LSlice). slice.state) (told_slices metric)

-- each of these metrics is listed under the matchers and the states that can change something of it
pub record Listens (listeners : Listeners) (predicates : List LPredicate) (metrics : List LMetric) : Type 0 where
  pub to_matchers : AreListed listeners.by_matcher.items (wakers predicates) metrics
  pub to_states : AreListed listeners.by_state.items told_states metrics

-- a state is told by atoms of this id
abbrev pub is_told_at : List LState → ℕ → ℕ → Bool
is_told_at states id state = is_told_by id (slice_get states state)

-- the places that a frame wakes: only an atom wakes any
abbrev pub places_woken : Listeners → List LState → LogFrame → List Bool → List ℕ
places_woken listeners states (AtomAt at atom) truths =
    places_under listeners.by_matcher.items (λ matcher. truth_at matcher truths)
    ++ places_under listeners.by_state.items (is_told_at states atom.id)
places_woken listeners states _ truths = []

-- a frame changes nothing of a metric, unless it is a pull or ends one of its buckets
abbrev pub SleepsThrough : List LPredicate → List LState → LogFrame → List Bool → LMetric → Type 0
SleepsThrough predicates states (AtomAt at atom) truths metric =
    (one_holds truths (wakers predicates metric) ≡ false)
    × (tells_one states atom.id (told_slices metric) ≡ false)
SleepsThrough predicates states _ truths metric = Unit {0}

-- all metrics sleep through a frame but those at these places
abbrev pub OthersSleep : List ℕ → List LPredicate → List LState → LogFrame → List Bool → List LMetric → Type 0
OthersSleep places predicates states frame truths metrics =
    (place : ℕ) (none : LMetric) → place < length metrics → is_in place places ≡ false
    → SleepsThrough predicates states frame truths (get_or metrics place none)
