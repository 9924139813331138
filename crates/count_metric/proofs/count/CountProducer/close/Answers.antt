-- The rows of the part were kept or counted, and the next part is empty.
use Rattle.std.proofs.Common.{refl, subst}
use Rattle.std.specs.Prelude.{map}
use Rattle.kept_rows.specs.KeptRows.{AddsRows}
use Rattle.metric_kinds.specs.Counts.{row_weight}
use Rattle.count_metric.specs.CountStands.{tally_row}
use Rattle.count_metric.proofs.CountLemmas.{adds_gathered, adds_tally, closes}
use Rattle.count_metric.proofs.count.CountProducer.close.Goals as goal

-- with what was spilled, if it is gathered
pub returns-in_ok-keep_spilled : goal.returns-in_ok-keep_spilled
returns-in_ok-keep_spilled c = closes c.args.self.now _ c.args.end (record {
  start = refl;
  overflow = refl;
  spilled = c.replace-spilled.ensures.after;
  table = c.move_out.ensures.left;
  kept = adds_gathered c.args.self.now c.args.end c.keep_all.new.kept c.keep_spilled.new.kept c.replace-spilled.result
      c.if-self.true c.replace-spilled.ensures.value
      (subst (λ rows. AddsRows row_weight c.args.self.now.kept c.keep_all.new.kept
      (map (tally_row c.args.self.now.start c.args.end) rows)) c.move_out.ensures.rows c.in_ok-keep_all.ensures)
      c.in_ok-keep_spilled.ensures;
})

-- without it
pub returns-else-self : goal.returns-else-self
returns-else-self c = closes c.args.self.now _ c.args.end (record {
  start = refl;
  overflow = refl;
  spilled = c.replace-spilled.ensures.after;
  table = c.move_out.ensures.left;
  kept = adds_tally c.args.self.now c.args.end c.keep_all.new.kept c.if-self.false
      (subst (λ rows. AddsRows row_weight c.args.self.now.kept c.keep_all.new.kept
      (map (tally_row c.args.self.now.start c.args.end) rows)) c.move_out.ensures.rows c.in_ok-keep_all.ensures);
})
