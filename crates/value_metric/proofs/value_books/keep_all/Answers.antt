-- Each row in its turn is kept, counted or hidden.
use Rattle.std.proofs.Common.{SFits, w64, rules, subst, ◌∙◌}
use Rattle.std.proofs.lemmas.Int.{to_z-of_z}
use Rattle.kept_rows.specs.KeptRows.{AddsRows}
use Rattle.metric_kinds.specs.Values.{unless_hidden}
use Rattle.value_metric.specs.Totals.{row_weighs}
use Rattle.value_metric.proofs.BooksLemmas.{adds_next}
use Rattle.value_metric.proofs.value_books.keep_all.Goals as goal

pub loop-key-preserved : goal.loop-key-preserved
loop-key-preserved c =
    let fits : SFits w64 c.shown.result = search rules in
    adds_next c.args.hides_zeros c.args.start c.args.end c.args.kept.now c.loop-key.kept c.keep.new.kept
    c.into_iter-key-iterator.result c.loop-key.invariant.0 c.loop-key.key-iterator c.next.new.self
    (c.in-Some.key, c.in-Some.total) c.loop-key.invariant.1 c.loop-key.invariant.2 c.in-Some.ensures.steps
    (subst (λ n. AddsRows row_weighs c.loop-key.kept c.keep.new.kept (unless_hidden c.args.hides_zeros
    (record { key = c.in-Some.key; start = c.args.start; end = c.args.end; value = n })))
    (to_z-of_z w64 c.shown.result fits ∙ c.shown.ensures) c.in_ok-keep.ensures.0)
