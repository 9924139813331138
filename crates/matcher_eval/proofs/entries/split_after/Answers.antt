use Rattle.std.proofs.Common.{ℕ, ◌+◌, ◌-◌, length, take, drop, subst}
use Rattle.matcher_eval.specs.Parts.{is_below_index, AreParts}
use Rattle.matcher_eval.proofs.EntriesLemmas.{parts_at}
use Rattle.matcher_eval.proofs.entries.split_after.Goals as goal

-- the parts at the place that was counted
pub returns : goal.returns
returns c =
    let entries = c.args.entries.now in
    let count = c.count_below_index-count.result in
    subst (λ (n : ℕ). AreParts (is_below_index (n + 1)) entries (take count entries)
    (take (length entries - count) (drop count entries)))
    c.from.ensures
    (parts_at (is_below_index (c.from.result + 1)) entries count c.count_below_index-count.ensures)
