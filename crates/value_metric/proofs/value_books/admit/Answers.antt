-- One more integer of a key.
use Rattle.std.proofs.Common.{◌≡◌, ℤ, slice_get, Option, Some, None, subst}
use Rattle.std.specs.Int.{w128}
use Rattle.std.specs.Map.{values_of}
use Rattle.std.proofs.lemmas.Int.{to_z-of_z}
use Rattle.dim_table.specs.Table.{Admits, with_value_at}
use Rattle.value_metric.specs.Totals.{joined_to}
use Rattle.value_metric.proofs.TotalsLemmas.{takes_at, takes_none}
use Rattle.value_metric.proofs.value_books.admit.Goals as goal

pub returns-in-At : goal.returns-in-At
returns-in-At c = record {
  taken = takes_at c.args.aggregation c.args.table.now c.admit_copy.new.self c.args.key.now c.args.integer
      c.in-At.place c.add.new.table
      (subst (Admits c.args.table.now c.admit_copy.new.self c.args.key.now None) c.in-At.is
      c.in_ok-place.ensures.answer)
      c.add.ensures.bound
      (subst (λ n. (total : Option ℤ) → slice_get (values_of c.admit_copy.new.self.rows) c.in-At.place ≡ Some total
      → c.add.new.table
      ≡ with_value_at c.admit_copy.new.self c.in-At.place (Some (joined_to c.args.aggregation total n)))
      (to_z-of_z w128 c.args.integer c.ranges.integer) c.add.ensures.joined);
  err = tt;
}

pub returns-in-Full : goal.returns-in-Full
returns-in-Full c = record {
  taken = takes_none c.args.aggregation c.args.table.now c.admit_copy.new.self c.args.key.now c.args.integer
      (subst (Admits c.args.table.now c.admit_copy.new.self c.args.key.now None) c.in-Full.is
      c.in_ok-place.ensures.answer);
  err = tt;
}
