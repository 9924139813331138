-- The rows of the totals were kept or counted, and the table is empty.
use Rattle.std.proofs.Common.{refl, subst}
use Rattle.std.specs.List.{flat_map}
use Rattle.std.proofs.lemmas.Result.{on_ok_weaker}
use Rattle.kept_rows.specs.KeptRows.{AddsRows}
use Rattle.value_metric.specs.Totals.{total_rows, row_weighs}
use Rattle.value_metric.proofs.BooksLemmas.{closes}
use Rattle.value_metric.proofs.value_books.ValueBooks.close.Goals as goal

pub returns : goal.returns
returns c = on_ok_weaker c.keep_all.result
    (λ adds. closes c.args.self.now _ c.args.end refl refl refl c.move_out.ensures.left
    (subst (λ rows. AddsRows row_weighs c.args.self.now.kept c.keep_all.new.kept
    (flat_map (total_rows c.args.self.now.hides_zeros c.args.self.now.start c.args.end) rows)) c.move_out.ensures.rows
    adds) refl)
    c.keep_all.ensures
