-- A key's difference came.
use Rattle.std.proofs.Common.{SFits, map, rules, sym, subst}
use Rattle.std.specs.Int.{w128}
use Rattle.std.specs.Prelude.{OnOk}
use Rattle.std.proofs.lemmas.Int.{to_z-of_z}
use Rattle.bucket_meaning.specs.Marks.{Came}
use Rattle.metric_kinds.specs.Diffs.{keyed_diff}
use Rattle.value_metric.specs.ValueBooksStand.{TakesMark, TakesValueMarks}
use Rattle.value_metric.proofs.pulled_value.arrive.Goals as goal

pub returns : goal.returns
returns c =
    let fits : SFits w128 c.in-Some.diff = search rules in
    subst (λ diff. OnOk c.arrive.result
    (TakesValueMarks c.args.books.now c.arrive.new.self (map Came (keyed_diff c.args.key.now diff)))) (sym c.in-Some.is)
    (subst (λ n. OnOk c.arrive.result (TakesMark c.args.books.now c.arrive.new.self (Came (c.args.key.now, n))))
    (to_z-of_z w128 c.in-Some.diff fits) c.arrive.ensures)
