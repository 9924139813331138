-- The rows of the samples were kept or counted, and the table is empty.
use Rattle.std.proofs.Common.{subst}
use Rattle.std.proofs.lemmas.Result.{on_ok_weaker}
use Rattle.std.specs.Prelude.{map}
use Rattle.kept_rows.specs.KeptRows.{AddsRows}
use Rattle.metric_kinds.specs.Gauges.{samples_weight}
use Rattle.gauge_metric.specs.GaugeStands.{sample_row, HaveSamples}
use Rattle.gauge_metric.proofs.PulledLemmas.{closes_pulled}
use Rattle.gauge_metric.proofs.pulled.PulledGauge.close.Goals as goal

pub returns : goal.returns
returns c = on_ok_weaker c.keep_all.result
    (λ adds. closes_pulled c.args.self.now _ c.keep_all.new.kept c.args.end c.move_out.ensures.left
    (subst (λ rows. HaveSamples rows → AddsRows samples_weight c.args.self.now.kept c.keep_all.new.kept
    (map (sample_row c.args.self.now.start c.args.end) rows)) c.move_out.ensures.rows adds))
    c.keep_all.ensures
