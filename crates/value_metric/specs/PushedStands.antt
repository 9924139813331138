-- What a producer of pushed values stands for.
use Rattle.std.specs.Prelude.{ℤ, false, List}
use Rattle.atom_record.specs.declared.value.MetricKey.{MetricKey}
use Rattle.bucket_meaning.specs.Marks.{Books}
use Rattle.bucket_meaning.specs.Meaning.{books_by}
use Rattle.metric_producer.specs.Collecting.{calls_mean, Law}
use Rattle.metric_producer.specs.declared.row.Row.{Row}
use Rattle.value_metric.specs.PushedValues.{PushedParams, PushedCall, pushed_collecting}
use Rattle.value_metric.specs.ValueBooksStand.{ValueForm, HoldsBooks}
use Rattle.value_metric.specs.declared.keyed_int.KeyedInt.{KeyedInt}
use Rattle.value_metric.specs.declared.pushed_value.PushedValue.{PushedValue}

-- the form of a metric of pushed values: zeros aren't hidden
abbrev pub pushed_form : PushedParams → ValueForm
pushed_form params = record { bound = params.bound; aggregation = params.aggregation; hides_zeros = false }

-- what calls mean for pushed values
abbrev pub pushed_mean : PushedParams → List PushedCall → Books (MetricKey × ℤ)
pushed_mean = books_by (calls_mean pushed_collecting)

-- the producer was made with these, and has got these calls
abbrev pub PushedStandsFor : PushedValue → PushedParams → List PushedCall → Type 0
PushedStandsFor it params calls = HoldsBooks it.books (pushed_form params) (pushed_mean params calls)

-- the law of pushed values
abbrev pub pushed_law : Law PushedValue PushedParams KeyedInt (Unit {0}) (MetricKey × ℤ) MetricKey ℤ (Row ℤ)
pushed_law = record { stands = PushedStandsFor; collecting = pushed_collecting }
