-- All keep their slots, also where memory is wanting, so the counts, the notes and the table are as they were.
use Rattle.std.proofs.Common.{ℤ, ◌∙◌, arith}
use Rattle.std.proofs.lemmas.Grind.{merely}
use Rattle.matcher_table.specs.Contents.{contents_of}
use Rattle.hub_core.proofs.HeldLemmas.{held-kept}
use Rattle.hub_core.proofs.LastReportLemmas.{keeps_held}
use Rattle.hub_core.proofs.KeptLemmas.{kept_named}
use Rattle.hub_core.proofs.NotedLemmas.{lives_noted, noted_kept}
use Rattle.hub_core.proofs.TableLemmas.{table_held}
use Rattle.hub_core.proofs.lives.Lives.settle.Goals as goal

pub invariant_of-self : goal.invariant_of-self
invariant_of-self c =
    let kept = c.wake_all.ensures.kept in
    let olds = c.args.self.now.slots.entries in
    let news = c.wake_all.new.slots.entries in
    let same = λ (uid : ℤ). held-kept uid olds news kept.names in
    let noted = noted_kept c.args.self.now.notes olds news kept (lives_noted c.args.self.now) in
    record {
      counted = λ uid. same uid ∙ c.args.self.now.counted uid;
      few = λ uid. omega (arith, same uid, c.args.self.now.few uid);
      above_zero = c.args.self.now.above_zero;
      noted = merely noted;
      named = kept_named olds news kept c.args.self.now.named;
      held = merely (keeps_held (contents_of c.args.self.now.table) olds news kept (table_held c.args.self.now));
    }
