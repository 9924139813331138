-- The first number that is past its limit.
use Rattle.std.specs.Prelude.{ℕ, ℤ, pos, ◌*◌, ◌≤◌, nat_lt, nat_le, Bool, false, List, [], ◌∷◌, length, Option, Some, None, if◌then◌else◌}
pub use Rattle.config_types.specs.AlertSpecs.{most_parts, most_threshold, refractory_seconds}
use Rattle.config_types.specs.declared.alert.AlertDef.{AlertDef}
use Rattle.config_types.specs.declared.metric.ActivationDef.{ActivationDef}
use Rattle.config_types.specs.declared.metric.SamplingType.{SamplingType}
use Rattle.config_types.specs.declared.metric.SamplingType.TheVariants.{RandomOne}
use Rattle.config_types.specs.declared.predicate.PredicateDef.{PredicateDef}
use Rattle.config_types.specs.declared.predicate.PredicateBody.{PredicateBody}
use Rattle.config_types.specs.declared.predicate.PredicateBody.TheVariants as predicate
use Rattle.field_select.specs.WellFormed.{is_number_to}
use Rattle.link_rules.specs.declared.entities.Metric.{Metric}
use Rattle.link_rules.specs.declared.entities.Kind.{Kind}
use Rattle.link_rules.specs.declared.entities.GaugeParts.{GaugeParts}
use Rattle.link_rules.specs.declared.entities.Kind.TheVariants.{Gauge}
use Rattle.link_rules.specs.declared.entities.Entities.{Entities}
use Rattle.link_rules.specs.declared.fault.LinkFault.{LinkFault}
use Rattle.link_rules.specs.declared.limits.Limit.{Limit}
use Rattle.link_rules.specs.declared.limits.Limit.TheVariants.{Matchers, Predicates, States, Metrics, PredicateBound, MetricBound, Samples, BucketSamples, Activations, Lifetime, Alerts, Parts, Threshold, Refractory}
use Rattle.link_rules.specs.LinkFaults.{fault, past_limit, first_of, first_in}

-- how many matchers a configuration has
abbrev pub most_matchers : ℕ
most_matchers = 800

-- how many predicates a configuration has
abbrev pub most_predicates : ℕ
most_predicates = 300

-- how many states a configuration has
abbrev pub most_states : ℕ
most_states = 16

-- how many metrics a configuration has
abbrev pub most_metrics : ℕ
most_metrics = 100

-- how many keys a predicate keeps, or a bucket admits
abbrev pub most_bound : ℕ
most_bound = 3000

-- how many samples a key of a gauge keeps in a bucket
abbrev pub most_samples : ℕ
most_samples = 100

-- the samples that all keys of a bucket keep at most
abbrev pub most_bucket_samples : ℕ
most_bucket_samples = 16384

-- how many activations a metric has
abbrev pub most_activations : ℕ
most_activations = 8

-- how many seconds an activation lasts
abbrev pub most_lifetime : ℕ
most_lifetime = 1000000

-- how many alerts a configuration has
abbrev pub most_alerts : ℕ
most_alerts = 10

-- the number by which a refusal names a limit; they are judged in this order
abbrev pub limit_number : Limit → ℕ
limit_number Matchers = 1
limit_number Predicates = 2
limit_number States = 3
limit_number Metrics = 4
limit_number PredicateBound = 5
limit_number MetricBound = 6
limit_number Samples = 7
limit_number BucketSamples = 8
limit_number Activations = 9
limit_number Lifetime = 10
limit_number Alerts = 11
limit_number Parts = 12
limit_number Threshold = 13
limit_number Refractory = 14

-- the greatest number that is within a limit
abbrev pub most_of : Limit → ℕ
most_of Matchers = most_matchers
most_of Predicates = most_predicates
most_of States = most_states
most_of Metrics = most_metrics
most_of PredicateBound = most_bound
most_of MetricBound = most_bound
most_of Samples = most_samples
most_of BucketSamples = most_bucket_samples
most_of Activations = most_activations
most_of Lifetime = most_lifetime
most_of Alerts = most_alerts
most_of Parts = most_parts
most_of Threshold = most_threshold
most_of Refractory = refractory_seconds

-- a number past this limit
abbrev pub number_past : Limit → ℤ → LinkFault
number_past limit number = fault past_limit (limit_number limit) number

-- there are more than may be
abbrev pub count_limit : Limit → ℕ → Option LinkFault
count_limit limit count = if nat_lt (most_of limit) count then Some (number_past limit (pos count)) else None

-- a number is set that isn't from 1 to the limit
abbrev pub number_limit : Limit → Option ℤ → Option LinkFault
number_limit limit None = None
number_limit limit (Some number) =
    if is_number_to (most_of limit) (Some number) then None else Some (number_past limit number)

-- a number from 0 to so many
abbrev pub is_up_to : ℕ → ℤ → Bool
is_up_to most (pos number) = nat_le number most
is_up_to most _ = false

-- a number is set that isn't from 0 to the limit
abbrev pub amount_limit : Limit → Option ℤ → Option LinkFault
amount_limit limit None = None
amount_limit limit (Some number) = if is_up_to (most_of limit) number then None else Some (number_past limit number)

-- the bound of a predicate or a metric that names none
abbrev pub absent_bound : ℕ
absent_bound = 800

-- the samples of a gauge that names no number of them
abbrev pub default_samples : ℕ
default_samples = 10

-- a number that is set, or the one that an absent one stands for
abbrev pub number_or : ℕ → Option ℤ → ℕ
number_or absent (Some (pos number)) = number
number_or absent _ = absent

-- a bound, or the one that an absent bound stands for
abbrev pub bound_or_default : Option ℤ → ℕ
bound_or_default bound = number_or absent_bound bound

-- a simple predicate's bound
abbrev pub predicate_limit : PredicateDef → Option LinkFault
predicate_limit def = body_limit def.body where
  body_limit : Option PredicateBody → Option LinkFault
  body_limit (Some (predicate.Simple simple)) = number_limit PredicateBound simple.bound
  body_limit _ = None

-- a gauge that takes one sample keeps one, whatever number it names
abbrev pub samples_by : SamplingType → Option ℤ → ℕ
samples_by RandomOne samples = 1
samples_by _ samples = number_or default_samples samples

-- how many samples a key of a gauge keeps in a bucket
abbrev pub samples_of : GaugeParts → ℕ
samples_of gauge = samples_by gauge.sampling gauge.max_samples

-- the samples of a gauge, and then all those of a bucket
abbrev pub samples_limit : ℕ → Kind → Option LinkFault
samples_limit bound (Gauge gauge) = first_of
    (number_limit Samples gauge.max_samples ∷ count_limit BucketSamples (bound * samples_of gauge) ∷ [])
samples_limit bound _ = None

-- how long an activation lasts
abbrev pub lifetime_limit : ActivationDef → Option LinkFault
lifetime_limit def = number_limit Lifetime def.ttl

-- how many activations there are, and then how long each lasts
abbrev pub activations_limit : List ActivationDef → Option LinkFault
activations_limit defs = first_of (count_limit Activations (length defs) ∷ first_in lifetime_limit defs ∷ [])

-- a metric's bound, then its samples, and then its activations
abbrev pub metric_limit : Metric → Option LinkFault
metric_limit metric = first_of
    (number_limit MetricBound metric.sliced.bound
    ∷ samples_limit (bound_or_default metric.sliced.bound) metric.kind
    ∷ activations_limit metric.common.activations
    ∷ [])

-- an alert's parts, its threshold, and the time without an alarm after an alarm
abbrev pub alert_limit : AlertDef → Option LinkFault
alert_limit def = first_of
    (number_limit Parts def.parts
    ∷ amount_limit Threshold def.threshold
    ∷ amount_limit Refractory def.refractory
    ∷ [])

-- number 1, in this order
abbrev pub limits : Entities → List (Option LinkFault)
limits entities =
    count_limit Matchers (length entities.matchers)
    ∷ count_limit Predicates (length entities.predicates)
    ∷ count_limit States (length entities.states)
    ∷ count_limit Metrics (length entities.metrics)
    ∷ first_in predicate_limit entities.predicates
    ∷ first_in metric_limit entities.metrics
    ∷ count_limit Alerts (length entities.alerts)
    ∷ first_in alert_limit entities.alerts
    ∷ []

-- number 1: the first number that is past its limit
unfoldable pub limit_fault : Entities → Option LinkFault
limit_fault entities = first_of (limits entities)

-- there are as few entities as may be
pub record AreFew (entities : Entities) : Type 0 where
  pub matchers : length entities.matchers ≤ most_matchers
  pub predicates : length entities.predicates ≤ most_predicates
  pub states : length entities.states ≤ most_states
  pub metrics : length entities.metrics ≤ most_metrics
  pub alerts : length entities.alerts ≤ most_alerts
