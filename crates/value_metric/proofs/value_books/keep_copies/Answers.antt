-- One key more has its row.
use Rattle.std.proofs.Common.{SFits, w64, rules, sym, subst, ◌∙◌}
use Rattle.std.proofs.lemmas.Int.{to_z-of_z}
use Rattle.metric_kinds.specs.Values.{unless_hidden}
use Rattle.value_metric.specs.Totals.{shown_total, AddsCounted}
use Rattle.value_metric.proofs.RowsKept.{keeps_more}
use Rattle.value_metric.proofs.value_books.keep_copies.Goals as goal

pub loop-place-preserved : goal.loop-place-preserved
loop-place-preserved c =
    let fits : SFits w64 c.shown.result = search rules in
    let part = c.args.part in
    keeps_more part.hides_zeros part.start part.end c.args.table.now.rows c.loop-place.place
    (c.in-Some.key.now, c.in-Some.total.now) c.args.kept.now c.loop-place.kept c.keep.new.kept c.loop-place.rows
    c.in_ok-more.more (sym c.in-Some.ensures) c.loop-place.invariant
    (subst (λ key. AddsCounted c.loop-place.kept c.keep.new.kept c.in_ok-more.more (unless_hidden part.hides_zeros
    (record { key = key; start = part.start; end = part.end; value = shown_total c.in-Some.total.now })))
    c.in_ok-duplicate.ensures
    (subst (λ n. AddsCounted c.loop-place.kept c.keep.new.kept c.in_ok-more.more (unless_hidden part.hides_zeros
    (record { key = c.in_ok-duplicate.field-0; start = part.start; end = part.end; value = n })))
    (to_z-of_z w64 c.shown.result fits ∙ c.shown.ensures) c.in_ok-more.ensures))
