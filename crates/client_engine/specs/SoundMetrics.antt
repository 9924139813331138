-- A metric that is sound in the configuration in which it is installed.
use Rattle.std.specs.Prelude.{◌≡◌, ℕ, ◌<◌, List, length, get_or, slice_get, Some, All}
use Rattle.config_links.specs.SoundConfig.{IsSoundMetric}
use Rattle.config_links.specs.declared.linked.Linked.{Linked}
use Rattle.config_links.specs.declared.linked.LMetric.{LMetric}
use Rattle.known_conditions.specs.KeptPredicates.{KeepsItsLeaves}

-- The metric is sound, and the tables of the predicates beside it have the leaves of their dimensions.
pub record IsSoundIn (linked : Linked) (metric : LMetric) : Type 0 where
  pub leaves : All KeepsItsLeaves linked.predicates
  pub sound : IsSoundMetric linked metric

-- The metric stands at this place of the configuration alone, and is sound in it.
pub record IsInstalledAt (linked : Linked) (place : ℕ) (metric : LMetric) : Type 0 where
  pub sound : IsSoundIn linked metric
  pub alone : (other : ℕ) → slice_get linked.metrics other ≡ Some metric → other ≡ place

-- each of these metrics stands at its own place
abbrev pub AreInstalled : Linked → List LMetric → Type 0
AreInstalled linked metrics =
    (place : ℕ) (none : LMetric) → place < length metrics → IsInstalledAt linked place (get_or metrics place none)
