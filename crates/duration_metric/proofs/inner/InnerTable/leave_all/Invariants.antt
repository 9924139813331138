-- The keys of the rows so far were put down, and the others are still to come.
use Rattle.std.proofs.Common.{◌≡◌, List, ◌++◌}
use Rattle.std.specs.List.{flat_map}
use Rattle.predicate_state.specs.PredicateTable.{LeafKey}
use Rattle.duration_metric.specs.declared.inner.Inner.{Inner}
use Rattle.duration_metric.specs.Tallies.{row_tallied}
use Rattle.duration_metric.proofs.inner.InnerTable.leave_all.Given as goal

abbrev pub invariant-loop-key : goal.invariant-loop-key
invariant-loop-key l = (done : List (LeafKey × Inner)) × (l.initial._key-iterator ≡ done ++ l._key-iterator)
    × (l.self ≡ record l.initial.self { gone = l.initial.self.gone ++ flat_map row_tallied done })
