-- What a producer of pulled values stands for.
use Rattle.std.specs.Prelude.{◌≡◌, ℤ, List, Option, Some, None}
use Rattle.std.specs.Option.{option_map}
use Rattle.atom_record.specs.declared.value.MetricKey.{MetricKey}
use Rattle.bucket_meaning.specs.Marks.{Books}
use Rattle.bucket_meaning.specs.Meaning.{books_by}
use Rattle.predicate_state.specs.declared.truth.Truth.{Truth}
use Rattle.metric_producer.specs.Collecting.{calls_mean, Law}
use Rattle.metric_producer.specs.declared.row.Row.{Row}
use Rattle.metric_kinds.specs.Diffs.{KeyedInts, key_sums}
use Rattle.value_metric.specs.declared.keyed_int.SnapInts.{SnapInts}
use Rattle.value_metric.specs.declared.pulled_value.Open.{Open}
use Rattle.value_metric.specs.declared.pulled_value.Open.TheVariants.{Nothing, AtLast, Earlier}
use Rattle.value_metric.specs.declared.pulled_value.PulledValue.{PulledValue}
use Rattle.value_metric.specs.PulledValues.{PulledValueParams, PulledValueCall, last_found}
use Rattle.value_metric.specs.CallIntervals.{open_by_calls}
use Rattle.value_metric.specs.PulledCollecting.{pulled_collecting}
use Rattle.value_metric.specs.ValueBooksStand.{ValueForm, HoldsBooks}

-- the form of a metric of pulled values
abbrev pub pulled_form : PulledValueParams → ValueForm
pulled_form params =
    record { bound = params.bound; aggregation = params.spec.agg; hides_zeros = params.spec.skip_zero }

-- the sums with which the open interval began, if one is open, where these are the last snapshot's
abbrev pub begun_sums : Open → Option KeyedInts → Option (Option KeyedInts)
begun_sums Nothing last = None
begun_sums AtLast last = Some last
begun_sums (Earlier sums) last = Some sums

-- the sums of each key, where there is a snapshot
abbrev pub sums_found : Option KeyedInts → Option KeyedInts
sums_found found = option_map key_sums found

-- the producer has the sums of the last snapshot, and those with which the open interval began, after these calls
pub record HasSnapshots (it : PulledValue) (calls : List PulledValueCall) : Type 0 where
  pub last : it.last ≡ sums_found (last_found calls)
  pub begun : begun_sums it.interval it.last ≡ option_map sums_found (open_by_calls calls)

-- the producer takes its differences in this way, holds these books, and has its snapshots
pub record HoldsDiffs (it : PulledValue) (params : PulledValueParams) (books : Books (MetricKey × ℤ))
    (calls : List PulledValueCall) : Type 0 where
  pub spec : it.spec ≡ params.spec
  pub held : HoldsBooks it.books (pulled_form params) books
  pub snapshots : HasSnapshots it calls

-- what calls mean for pulled values
abbrev pub pulled_mean : PulledValueParams → List PulledValueCall → Books (MetricKey × ℤ)
pulled_mean = books_by (calls_mean pulled_collecting)

-- the producer was made with these, and has got these calls
abbrev pub PulledValueStandsFor : PulledValue → PulledValueParams → List PulledValueCall → Type 0
PulledValueStandsFor it params calls = HoldsDiffs it params (pulled_mean params calls) calls

-- the law of pulled values
abbrev pub pulled_law : Law PulledValue PulledValueParams SnapInts Truth (MetricKey × ℤ) MetricKey ℤ (Row ℤ)
pulled_law = record { stands = PulledValueStandsFor; collecting = pulled_collecting }
