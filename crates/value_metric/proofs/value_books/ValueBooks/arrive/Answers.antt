-- An integer came.
use Rattle.std.proofs.Common.{subst}
use Rattle.std.specs.Int.{w128}
use Rattle.std.proofs.lemmas.Int.{to_z-of_z}
use Rattle.std.proofs.lemmas.Result.{on_ok_weaker}
use Rattle.std.specs.Prelude.{OnOk}
use Rattle.value_metric.specs.Totals.{TakesInteger}
use Rattle.value_metric.proofs.BooksLemmas.{comes}
use Rattle.value_metric.proofs.value_books.ValueBooks.arrive.Goals as goal

pub returns : goal.returns
returns c = on_ok_weaker c.admit.result (comes c.args.self.now c.admit.new.table c.args.key.now c.args.integer)
    (subst (λ n. OnOk c.admit.result
    (TakesInteger c.args.self.now.aggregation c.args.self.now.table c.admit.new.table c.args.key.now n))
    (to_z-of_z w128 c.args.integer c.ranges.integer) c.admit.ensures.taken)
