-- The counts are those of the slots, which are held and noted as before.
use Rattle.std.proofs.Common.{ℤ, arith, ◌∙◌}
use Rattle.std.proofs.lemmas.Grind.{merely}
use Rattle.matcher_table.specs.Contents.{contents_of}
use Rattle.hub_core.proofs.HeldLemmas.{held-kept}
use Rattle.hub_core.proofs.KeptLemmas.{kept_named}
use Rattle.hub_core.proofs.LastReportLemmas.{keeps_held}
use Rattle.hub_core.proofs.NotedLemmas.{lives_noted, noted_kept}
use Rattle.hub_core.proofs.TableLemmas.{table_held}
use Rattle.hub_core.proofs.lives.Lives.reported.Goals as goal

pub invariant_of-lives : goal.invariant_of-lives
invariant_of-lives c =
    let olds = c.args.self.slots.entries in
    let news = c.report_at.new.slots.entries in
    let kept = c.in_ok-report.ensures.same in
    let held = λ (uid : ℤ). held-kept uid olds news kept.names in
    let noted = noted_kept c.args.self.notes olds news kept (lives_noted c.args.self) in
    record {
      counted = λ uid. held uid ∙ c.args.self.counted uid;
      few = λ uid. omega (arith, held uid, c.args.self.few uid);
      above_zero = c.args.self.above_zero;
      noted = merely noted;
      named = kept_named olds news kept c.args.self.named;
      held = merely (keeps_held (contents_of c.args.self.table) olds news kept (table_held c.args.self));
    }
