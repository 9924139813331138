-- Each key's difference in its turn.
use Rattle.std.proofs.Common.{◌≤◌, SFits, map, rules, sym, subst}
use Rattle.std.specs.Int.{w128}
use Rattle.std.specs.Option.{option_and_then}
use Rattle.std.proofs.lemmas.Int.{to_z-of_z}
use Rattle.bucket_meaning.specs.Marks.{Came}
use Rattle.dim_table.proofs.TableItemsLemmas.{past_rows}
use Rattle.metric_kinds.specs.Diffs.{start_sum, diff_by, key_diff, keyed_diff}
use Rattle.value_metric.specs.ValueBooksStand.{TakesValueMarks}
use Rattle.value_metric.proofs.MarksTaken.{comes_more, comes_all}
use Rattle.value_metric.proofs.pulled_value.arrive_all.Goals as goal

pub loop-place-init : goal.loop-place-init
loop-place-init c = λ form books has. has

-- one more came
pub loop-place-preserved : goal.loop-place-preserved
loop-place-preserved c =
    let spec = c.args.spec in
    let fits : SFits w128 c.in-Some.end = search rules in
    comes_more (key_diff spec c.args.starts.now) c.args.ends.now c.loop-place.place
    (c.in-Some.key.now, c.in-Some.end) c.args.books.now c.loop-place.books c.arrive.new.books (sym c.in-Some.ensures)
    c.loop-place.invariant
    (subst (λ start. TakesValueMarks c.loop-place.books c.arrive.new.books (map Came (keyed_diff c.in-Some.key.now
    (option_and_then (λ from. diff_by spec.direction spec.abs_reset from c.in-Some.end)
    (start_sum spec.zero_base start))))) c.sum_near.ensures
    (subst (λ end. TakesValueMarks c.loop-place.books c.arrive.new.books (map Came (keyed_diff c.in-Some.key.now
    (option_and_then (λ from. diff_by spec.direction spec.abs_reset from end)
    (start_sum spec.zero_base c.sum_near.result))))) (to_z-of_z w128 c.in-Some.end fits)
    (subst (λ diff. TakesValueMarks c.loop-place.books c.arrive.new.books
    (map Came (keyed_diff c.in-Some.key.now diff)))
    c.diff_of-diff.ensures c.in_ok-arrive.ensures)))

-- no key is left
pub returns-in_default : goal.returns-in_default
returns-in_default c =
    comes_all (key_diff c.args.spec c.args.starts.now) c.args.ends.now c.loop-place.place c.args.books.now
    c.loop-place.books (past_rows c.args.ends.now c.loop-place.place (sym c.in_default.ensures)) c.loop-place.invariant

-- all keys were seen
pub returns : goal.returns
returns c =
    comes_all (key_diff c.args.spec c.args.starts.now) c.args.ends.now c.loop-place.place c.args.books.now
    c.loop-place.books (subst (λ n. n ≤ c.loop-place.place) c.len-place-end.ensures c.loop-place-test.false)
    c.loop-place.invariant
