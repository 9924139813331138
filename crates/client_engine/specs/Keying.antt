-- The key of what is read at a frame that is brought, and its slices: for private clauses.
use Rattle.std.specs.Prelude.{List}
use Rattle.atom_record.specs.declared.log.LogFrame.{LogFrame}
use Rattle.atom_record.specs.declared.value.MetricKey.{MetricKey}
use Rattle.atom_record.specs.declared.value.Slice.{Slice}
use Rattle.config_links.specs.declared.linked.LMetric.{LMetric}
use Rattle.config_links.specs.declared.linked.LSlice.{LSlice}
use Rattle.state_slicer.specs.StateBooks.{StateBookStandsFor}
use Rattle.metric_meaning.specs.Arrivals.{metric_key}
use Rattle.metric_meaning.specs.Readings.{LeafReading}
use Rattle.metric_meaning.specs.Scenes.{Scene}
use Rattle.metric_meaning.specs.StateSlices.{named_slice, named_slices}
use Rattle.client_engine.specs.Bringing.{handed_with}
use Rattle.client_engine.specs.Handed.{IsOfScene}
use Rattle.known_conditions.specs.Known.{Known}
use Rattle.client_engine.specs.declared.brought.Brought.{Brought}

-- in whatever scene the frame is brought, this is so of the metric's key there of what is read
abbrev pub OnKey : Brought → LMetric → LeafReading → (MetricKey → Type 0) → Type 0
OnKey brought metric reading next =
    (known : Known) (scene : Scene) → IsOfScene (handed_with known brought) scene
    → next (metric_key scene metric reading)

-- whatever log the book stands for that is brought, this is so of the slices by these of the states
abbrev pub OnSlices : Brought → LeafReading → List LSlice → (List Slice → Type 0) → Type 0
OnSlices brought reading slices next =
    (log : List LogFrame) → StateBookStandsFor brought.book.now log
    → next (named_slices brought.states.now log reading slices)

-- and this of the slice by one of them
abbrev pub OnSlice : Brought → LeafReading → LSlice → (List Slice → Type 0) → Type 0
OnSlice brought reading slice next =
    (log : List LogFrame) → StateBookStandsFor brought.book.now log
    → next (named_slice brought.states.now log reading slice)
