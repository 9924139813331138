-- When the keys of a metric are the same: one test for every kind.
use Rattle.std.specs.Prelude.{Bool}
use Rattle.atom_record.specs.declared.value.MetricKey.{MetricKey}
use Rattle.atom_record.specs.contracts.value.MetricKeyPartialEq.TheImpl as key_test

-- two keys are equal
abbrev pub is_same_key : MetricKey → MetricKey → Bool
is_same_key = key_test.ghosts.eq
