-- What a pulled metric sees: the last snapshot of its id, the atoms of it that it means, and its condition.
use Rattle.std.specs.Prelude.{Bool, List, [], filter, slice_get, Option, Some, None}
use Rattle.std.specs.Option.{option_map, option_and_then}
use Rattle.atom_record.specs.declared.atom.Atom.{Atom}
use Rattle.atom_record.specs.declared.log.LogFrame.{LogFrame}
use Rattle.atom_record.specs.declared.value.MetricKey.{MetricKey}
use Rattle.book_meaning.specs.Snapshots.{snapshot_of}
use Rattle.field_select.specs.LeafValues.{key_of}
use Rattle.config_types.specs.declared.matcher.SimpleMatcher.{SimpleMatcher}
use Rattle.matcher_eval.specs.AtomTests.{number_set, matcher_holds}
use Rattle.config_links.specs.declared.linked.LMatcher.{LMatcher}
use Rattle.config_links.specs.declared.linked.LMatcher.TheVariants.{Simple, Combo}
use Rattle.config_links.specs.declared.linked.LMetric.{LMetric}
use Rattle.metric_meaning.specs.Histories.{Step, Installation, log_after}
use Rattle.metric_meaning.specs.Readings.{LeafReading}
use Rattle.metric_meaning.specs.Scenes.{scene_after}
use Rattle.metric_meaning.specs.Arrivals.{holds_in}

-- a matcher, if it is a simple one
abbrev pub simple_of : LMatcher → Option SimpleMatcher
simple_of (Simple simple) = Some simple
simple_of (Combo op children) = None

-- the matcher of what a pulled metric means, which is a simple one: the metric acts on pulls of its id
abbrev pub pulled_matcher : List LMatcher → LMetric → Option SimpleMatcher
pulled_matcher matchers metric = option_and_then simple_of (slice_get matchers metric.what)

-- the atoms that a matcher means, by its tests of their fields
abbrev pub atoms_meant : SimpleMatcher → List Atom → List Atom
atoms_meant matcher atoms = filter (matcher_holds matcher) atoms

-- what this log has for a matcher: the atoms that it means of the last pull of its id; none where no pull is kept, or
-- the last one failed
abbrev pub atoms_pulled : List LogFrame → SimpleMatcher → Option (List Atom)
atoms_pulled log matcher = option_map (atoms_meant matcher) (snapshot_of (number_set matcher.atom_id) log)

-- what a pulled metric finds after these steps; the log before the installation counts as well. At a boundary it finds
-- what the steps before it left
abbrev pub snapshot_found : Installation → LMetric → List Step → Option (List Atom)
snapshot_found installed metric steps =
    option_and_then (atoms_pulled (log_after installed steps)) (pulled_matcher installed.linked.matchers metric)

-- the key of a pulled atom: a pulled metric isn't sliced by states
abbrev pub pulled_key : LMetric → Atom → MetricKey
pulled_key metric atom = record { dims = key_of metric.dims atom; slices = [] }

-- nothing is read: a pulled metric has no links
abbrev pub nothing_read : LeafReading
nothing_read = λ set. []

-- whether a pulled metric's condition is true after these steps; not to know isn't enough
abbrev pub is_held : Installation → LMetric → List Step → Bool
is_held installed metric steps = holds_in (scene_after installed steps) metric nothing_read
