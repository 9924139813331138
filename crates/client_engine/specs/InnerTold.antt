-- What is found of inner keys, one at a time: for private clauses.
use Rattle.std.specs.Prelude.{◌≡◌, ℕ, Bool, List, [], ◌∷◌, ◌++◌, drop, slice_get, Option, Some, None}
use Rattle.field_select.specs.declared.leaf.FieldSet.{FieldSet}
use Rattle.config_links.specs.declared.linked.LMetric.{LMetric}
use Rattle.predicate_state.specs.declared.truth.Truth.{Truth}
use Rattle.predicate_state.specs.PredicateTable.{LeafKey}
use Rattle.duration_metric.specs.declared.change.InnerChange.{InnerChange}
use Rattle.duration_metric.specs.declared.inner.Known.{Known}
use Rattle.duration_metric.specs.InnerKeys.{DurationParams, DurationCall, inner_keys, last_known}
use Rattle.metric_meaning.specs.DurationSteps.{inner_fields}
use Rattle.metric_meaning.specs.MetricConditions.{is_condition_true}
use Rattle.metric_meaning.specs.Readings.{LeafReading}
use Rattle.metric_meaning.specs.Scenes.{Scene}
use Rattle.metric_calls.specs.DurationCalls.{told_as, known_in, changes_from}
use Rattle.known_conditions.specs.Known as known
use Rattle.client_engine.specs.Handed.{IsOfScene}
use Rattle.client_engine.specs.Bringing.{handed_with}
use Rattle.client_engine.specs.Staying.{KeepsWhatStays}
use Rattle.client_engine.specs.declared.brought.Brought.{Brought}
use Rattle.client_engine.specs.declared.inner.Asker.{Asker}
use Rattle.client_engine.specs.declared.stays.Stays.{Stays}
use Rattle.known_conditions.specs.Known.{reading_in}

-- the truth of the condition is this, for whatever is read, if there is a truth for all
abbrev pub HasShared : known.Known → LMetric → Option Bool → Type 0
HasShared known metric None = Unit {0}
HasShared known metric (Some holds) =
    (reading : LeafReading) → holds ≡ is_condition_true known.predicates known.tables metric reading

-- the truth that is told of an inner key's condition, where those that ask know what all have alike
abbrev pub IsStanding : Asker → LeafKey → known.Known → Truth → Type 0
IsStanding asker key known truth =
    HasShared known asker.metric.now asker.shared
    → truth ≡ told_as (is_condition_true known.predicates known.tables asker.metric.now
    (reading_in known asker.metric.now key))

-- what is told of the key at a place, if there is one
abbrev pub told_of_place : (LeafKey → Option Known) → (LeafKey → Known) → ℕ → Option LeafKey → List InnerChange
told_of_place was now place None = changes_from was now place []
told_of_place was now place (Some key) = changes_from was now place (key ∷ [])

-- the fields of a metric's inner keys in a scene
abbrev pub fields_in : Scene → LMetric → FieldSet
fields_in scene metric = inner_fields (slice_get scene.linked.predicates metric.what)

-- what stays of inner keys, whatever a producer stands for that keeps them, is so of them in the scene
abbrev pub StaysInScene : Stays → DurationParams → List DurationCall → Scene → LMetric → Type 0
StaysInScene stays params calls scene metric =
    KeepsWhatStays (fields_in scene metric) stays (last_known params.spec calls) (known_in scene metric)
    (inner_keys params.spec calls)

-- this is the truth of the condition of the inner key at a place, whatever the producer stands for
abbrev pub HasTruth : {K : Type 0} → (K → DurationParams → List DurationCall → Type 0) → K → ℕ → LeafKey → Asker
    → known.Known → Truth → Type 0
HasTruth stands keys place key asker known truth =
    (params : DurationParams) (calls : List DurationCall) (scene : Scene) → stands keys params calls
    → IsOfScene (handed_with known asker.brought.now) scene
    → HasShared known asker.metric.now asker.shared
    → StaysInScene asker.stays params calls scene asker.metric.now
    → Some key ≡ slice_get (inner_keys params.spec calls) place
    → truth ≡ (known_in scene asker.metric.now key).truth

-- what is told of the inner key at a place is added, whatever the producer stands for
abbrev pub AddsChange : {K : Type 0} → (K → DurationParams → List DurationCall → Type 0) → K → ℕ → Asker → known.Known
    → List InnerChange → List InnerChange → Type 0
AddsChange stands keys place asker known old new =
    (params : DurationParams) (calls : List DurationCall) (scene : Scene) → stands keys params calls
    → IsOfScene (handed_with known asker.brought.now) scene
    → HasShared known asker.metric.now asker.shared
    → StaysInScene asker.stays params calls scene asker.metric.now
    → new ≡ old ++ told_of_place (last_known params.spec calls) (known_in scene asker.metric.now) place
    (slice_get (inner_keys params.spec calls) place)

-- what is told of the keys before a place is there, whatever the producer stands for
abbrev pub HasChanges : {K : Type 0} → (K → DurationParams → List DurationCall → Type 0) → K → LMetric → Brought
    → Stays → known.Known → ℕ → List InnerChange → Type 0
HasChanges stands keys metric brought stays known place changes =
    (params : DurationParams) (calls : List DurationCall) (scene : Scene) → stands keys params calls
    → IsOfScene (handed_with known brought) scene → StaysInScene stays params calls scene metric
    → changes ++ changes_from (last_known params.spec calls) (known_in scene metric) place
    (drop place (inner_keys params.spec calls))
    ≡ changes_from (last_known params.spec calls) (known_in scene metric) 0 (inner_keys params.spec calls)
