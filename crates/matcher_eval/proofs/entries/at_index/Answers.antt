use Rattle.std.proofs.Common.{◌+◌, refl}
use Rattle.matcher_eval.specs.AtomTests.{is_at_index}
use Rattle.matcher_eval.specs.Parts.{is_below_index}
use Rattle.matcher_eval.proofs.EntriesLemmas.{middle, is_between}
use Rattle.matcher_eval.proofs.entries.at_index.Goals as goal

-- the entries of an index are those that aren't below it and are below the next
pub returns : goal.returns
returns c =
    let index = c.args.index in
    middle (is_below_index c.from.result) (is_below_index (index + 1)) (is_at_index index)
    (λ entry. is_between entry.index c.from.result (index + 1) index c.from.ensures refl)
    c.args.entries.now _ _ c.count_below_index-start.ensures c.split_after.ensures.passing
