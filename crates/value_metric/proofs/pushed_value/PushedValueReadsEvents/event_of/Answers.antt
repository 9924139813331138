-- An integer came.
use Rattle.std.proofs.Common.{SFits, w64, rules, subst}
use Rattle.std.proofs.lemmas.Result.{on_ok_weaker}
use Rattle.std.specs.Prelude.{OnOk}
use Rattle.bucket_meaning.specs.Marks.{Came}
use Rattle.value_metric.specs.ValueBooksStand.{TakesMark}
use Rattle.value_metric.proofs.Widths.{widened}
use Rattle.value_metric.proofs.PushedLemmas.{came}
use Rattle.value_metric.proofs.pushed_value.PushedValueReadsEvents.event_of.Goals as goal

pub returns : goal.returns
returns c =
    let fits : SFits w64 c.args.ev.now.value = search rules in
    on_ok_weaker c.arrive.result (came c.args.self.now (record { books = c.arrive.new.self }) c.args.at c.args.ev.now)
    (subst (λ n. OnOk c.arrive.result (TakesMark c.args.self.now.books c.arrive.new.self (Came (c.args.ev.now.key, n))))
    (widened c.args.ev.now.value fits) c.arrive.ensures)
