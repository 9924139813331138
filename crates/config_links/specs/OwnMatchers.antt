-- The matchers that a predicate and a metric name themselves. What hears, what wakes and what listens says that one of
-- these holds.
use Rattle.std.specs.Prelude.{ℕ, List, [], ◌∷◌, ◌++◌, Option, Some, None}
use Rattle.std.specs.List.{flat_map}
use Rattle.config_links.specs.declared.linked.LActivation.{LActivation}
use Rattle.config_links.specs.declared.linked.LKind.{LKind}
use Rattle.config_links.specs.declared.linked.LKind.TheVariants.{PulledGauge, SumDuration, MaxSparse}
use Rattle.config_links.specs.declared.linked.LMetric.{LMetric}
use Rattle.config_links.specs.declared.linked.LPredBody.{LPredBody}
use Rattle.config_links.specs.declared.linked.LPredBody.TheVariants.{Simple, Combo}

-- the place that is named, if one is
abbrev pub place_named : Option ℕ → List ℕ
place_named None = []
place_named (Some place) = place ∷ []

-- the matchers of a predicate: those that stop it at all keys, stop it or start it; a combination has none of its own
abbrev pub predicate_matchers : LPredBody → List ℕ
predicate_matchers (Simple start stop stop_all dims spec) =
    place_named stop_all ++ (place_named stop ++ place_named start)
predicate_matchers (Combo op children) = []

-- the matchers by which a metric of a kind gets atoms: that of what it counts, which for a duration is no matcher, and
-- a trigger
abbrev pub kind_matchers : ℕ → LKind → List ℕ
kind_matchers what (PulledGauge fields samples mode trigger) = what ∷ place_named trigger
kind_matchers what (SumDuration spec) = []
kind_matchers what (MaxSparse spec) = []
kind_matchers what _ = what ∷ []

-- the matchers that start and cancel an activation
abbrev pub activation_matchers : LActivation → List ℕ
activation_matchers activation = activation.start ∷ place_named activation.cancel

-- the matchers that start and cancel a metric's activations
abbrev pub starting_matchers : LMetric → List ℕ
starting_matchers metric = flat_map activation_matchers metric.activations

-- the matchers of a metric
abbrev pub metric_matchers : LMetric → List ℕ
metric_matchers metric = kind_matchers metric.what metric.kind ++ starting_matchers metric
