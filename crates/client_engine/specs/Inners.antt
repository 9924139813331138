-- What is said of a producer of durations by whatever it stands for: for private clauses.
use Rattle.std.specs.Prelude.{List}
use Rattle.config_links.specs.declared.linked.LMetric.{LMetric}
use Rattle.duration_metric.specs.declared.change.InnerChange.{InnerChange}
use Rattle.duration_metric.specs.InnerKeys.{DurationParams, DurationCall, inner_keys, last_known}
use Rattle.metric_meaning.specs.Scenes.{Scene}
use Rattle.metric_calls.specs.DurationCalls.{known_in, changes_from}
use Rattle.client_engine.specs.Bringing.{handed_with}
use Rattle.client_engine.specs.Handed.{IsOfScene}
use Rattle.client_engine.specs.InnerTold.{StaysInScene}
use Rattle.known_conditions.specs.Known.{Known}
use Rattle.client_engine.specs.declared.brought.Brought.{Brought}
use Rattle.client_engine.specs.declared.stays.Stays.{Stays}

module _ {K : Type 0} (stands : K → DurationParams → List DurationCall → Type 0) (keys : K) where
  -- this is so of what it was made with and the calls that it got, whatever they are
  abbrev pub OnCalls : (DurationParams → List DurationCall → Type 0) → Type 0
  OnCalls next = (params : DurationParams) (calls : List DurationCall) → stands keys params calls → next params calls

  -- in whatever scene the frame is brought, this is so of all that is told of its inner keys there
  abbrev pub OnChanges : LMetric → Brought → Stays → Known → (List InnerChange → Type 0) → Type 0
  OnChanges metric brought stays known next =
      (params : DurationParams) (calls : List DurationCall) (scene : Scene) → stands keys params calls
      → IsOfScene (handed_with known brought) scene → StaysInScene stays params calls scene metric
      → next (changes_from (last_known params.spec calls) (known_in scene metric) 0 (inner_keys params.spec calls))
