use Rattle.std.proofs.Common.{◌≡◌, length}
use Rattle.std.specs.List.Sorted.{IsNonDecreasingBy}
use Rattle.atom_record.specs.declared.atom.AtomField.{AtomField}
use Rattle.config_types.specs.declared.matcher.Test.TheViews.{out-Test}
use Rattle.matcher_eval.specs.AtomTests.{is_repeated}
use Rattle.matcher_eval.proofs.IndexesLemmas.{is_so_on}
use Rattle.std.specs.Prelude.{filter}
use Rattle.matcher_eval.proofs.fields.is_so_at_each_index.Given as goal

-- what holds at each index is what holds at those of the rest, along which the index doesn't fall
abbrev pub invariant-loop-first : goal.invariant-loop-first
invariant-loop-first l = record {
  rising : IsNonDecreasingBy (λ (entry : AtomField). entry.index) l.rest;
  same : is_so_on (out-Test l.condition) l.truth (filter is_repeated l.fn.entries) ≡ is_so_on (out-Test l.condition)
      l.truth l.rest;
}

-- each turn takes entries from the rest
abbrev pub decreases-loop-first : goal.decreases-loop-first
decreases-loop-first l = length l.rest
