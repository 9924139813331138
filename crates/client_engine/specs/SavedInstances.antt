-- The items of an instance, and which instances there are of a configuration.
use Rattle.std.specs.Prelude.{◌≡◌, ℕ, List, ◌∷◌, ◌++◌, map, All, Result, Ok, Err}
use Rattle.config_links.specs.declared.linked.Linked.{Linked}
use Rattle.flat_form.specs.declared.item.Item.{Item}
use Rattle.flat_form.specs.declared.item.Item.TheVariants.{Num}
use Rattle.flat_form.specs.declared.flat_error.FlatError.{FlatError}
use Rattle.flat_form.specs.declared.flat_error.FlatError.TheVariants.{Bad, Memory}
use Rattle.flat_form.specs.Flat.{IsValidPair, pair_items, list_items}
use Rattle.metric_activation.specs.BookItems.{act_book_items}
use Rattle.metric_activation.specs.Timers.{AreTimers}
use Rattle.metric_activation.specs.declared.timer.Timer.{Timer}
use Rattle.predicate_state.specs.PredicateItems.{predicate_items, IsPredicateTable}
use Rattle.predicate_state.specs.PredicateTable.{PredicateTable}
use Rattle.known_conditions.specs.KeptPredicates.{HaveTheirSpecs}
use Rattle.client_engine.specs.Running.{Running, linked_of}
use Rattle.client_engine.specs.SavedLanes.{metric_lane_items, IsMetricLane}
use Rattle.client_engine.specs.declared.lanes.MetricLane.{MetricLane}
use Rattle.client_engine.specs.declared.track.Track.{Track}

-- what a metric's track has besides the metric: its lane, and the book of its activations
abbrev pub Held : Type 0
Held = MetricLane × List Timer

-- that of a track
abbrev pub held_in : Track → Held
held_in track = (track.lane, track.acts)

-- the lane, and after it the book
abbrev pub held_items : Held → List Item
held_items = pair_items metric_lane_items act_book_items

-- both are valid
abbrev pub IsHeldLane : Held → Type 0
IsHeldLane = IsValidPair IsMetricLane AreTimers

-- a track is saved without its metric
abbrev pub track_items : Track → List Item
track_items track = held_items (held_in track)

-- what it has is valid
abbrev pub IsSavedTrack : Track → Type 0
IsSavedTrack track = IsHeldLane (held_in track)

-- an instance is its base, the time of its last report, the tables of its predicates and its tracks: the configuration
-- isn't among them
abbrev pub instance_items : Running → List Item
instance_items it = Num it.base ∷ Num it.last
    ∷ (list_items predicate_items it.known.tables ++ list_items track_items it.tracks)

-- An instance of this configuration: each table is kept as its predicate says, and what its tracks have is valid.
pub record IsSavedInstance (linked : Linked) (it : Running) : Type 0 where
  pub linked_is : linked_of it ≡ linked
  pub specs : HaveTheirSpecs linked.predicates it.known.tables
  pub tables : All IsPredicateTable it.known.tables
  pub tracks : All IsSavedTrack it.tracks

-- what is saved of an instance: its base, the time of its last report, its tables, and what each metric has
abbrev pub InstanceForm : Type 0
InstanceForm = ℕ × (ℕ × (List PredicateTable × List Held))

-- that of an instance
abbrev pub instance_form : Running → InstanceForm
instance_form it = (it.base, (it.last, (it.known.tables, map held_in it.tracks)))

-- what building an instance of what was saved answers: the instance, or that it was saved of none of this configuration
abbrev pub BuildsInstance : Linked → InstanceForm → Result Running FlatError → Type 0
BuildsInstance linked form (Ok it) =
    (linked_of it ≡ linked) × (HaveTheirSpecs linked.predicates it.known.tables × (instance_form it ≡ form))
BuildsInstance linked form (Err Bad) =
    (it : Running) → IsSavedInstance linked it → ¬ (instance_form it ≡ form)
BuildsInstance linked form (Err Memory) = Unit {0}
