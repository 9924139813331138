-- Metrics of samples, pushed or pulled: the rows of a part, by key.
use Rattle.std.specs.Prelude.{ℕ, List, [], ◌∷◌, map, take, length}
use Rattle.std.proofs.Common.{refl}
use Rattle.atom_record.specs.declared.atom.Atom.{Atom}
use Rattle.atom_record.specs.declared.value.MetricKey.{MetricKey}
use Rattle.bucket_meaning.specs.Guard.{arrival_key}
use Rattle.bucket_meaning.specs.Rows.{Kind, not_shown}
use Rattle.metric_producer.specs.declared.row.Row.{Row}
use Rattle.metric_kinds.specs.Keys.{is_same_key}

-- a row weighs as many as it has samples
abbrev pub samples_weight : Row (List Atom) → ℕ
samples_weight row = length row.value

-- a metric of samples: what arrives is a key with an atom, and a key's row has the first of its atoms, at most so many;
-- those past them are neither kept nor dropped
abbrev pub gauge_kind : ℕ → Kind (MetricKey × Atom) MetricKey Atom (Row (List Atom))
gauge_kind samples = record {
  same = is_same_key;
  arrivals = λ came end. came;
  keys = λ came. map arrival_key came;
  keys_are = λ came end. refl;
  row = λ start end key atoms. record { key = key; start = start; end = end; value = take samples atoms } ∷ [];
  others = not_shown;
  weight = samples_weight;
}
