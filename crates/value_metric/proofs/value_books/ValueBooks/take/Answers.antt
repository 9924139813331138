-- What was kept is handed out.
use Rattle.std.proofs.Common.{refl, rules}
use Rattle.value_metric.proofs.BooksLemmas.{hands_out}
use Rattle.value_metric.proofs.value_books.ValueBooks.take.Goals as goal

pub returns-clause-moves : goal.returns-clause-moves
returns-clause-moves c =
    hands_out c.args.self.now _ refl refl refl c.take_dropped.ensures.left c.take-rows.ensures.stands (search rules)
