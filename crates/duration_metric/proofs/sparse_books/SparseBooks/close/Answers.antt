-- The rows of the longest times were kept or counted, and the table is empty.
use Rattle.std.proofs.Common.{refl, subst}
use Rattle.std.specs.List.{flat_map}
use Rattle.std.proofs.lemmas.Result.{on_ok_weaker}
use Rattle.kept_rows.specs.KeptRows.{AddsRows}
use Rattle.metric_kinds.specs.Counts.{row_weight}
use Rattle.duration_metric.specs.SparseTimes.{time_rows}
use Rattle.duration_metric.proofs.SparseBooksLemmas.{closes}
use Rattle.duration_metric.proofs.sparse_books.SparseBooks.close.Goals as goal

pub returns : goal.returns
returns c = on_ok_weaker c.keep_all.result
    (λ adds. closes c.args.self.now _ c.args.end refl refl c.move_out.ensures.left
    (subst (λ rows. AddsRows row_weight c.args.self.now.kept c.keep_all.new.kept
    (flat_map (time_rows c.args.self.now.start c.args.end) rows)) c.move_out.ensures.rows adds))
    c.keep_all.ensures
