use Rattle.std.proofs.Common.{ap, ◌∙◌, not}
use Rattle.config_types.specs.declared.matcher.Test.TheViews.{out-Test}
use Rattle.matcher_eval.specs.AtomTests.{holds_at_index, tested_indexes}
use Rattle.matcher_eval.proofs.IndexesLemmas.{some_passes}
use Rattle.matcher_eval.proofs.fields.holds_at_some_index.Goals as goal

-- it holds at some index where it isn't so that it doesn't at each
pub returns : goal.returns
returns c =
    let entries = c.args.entries.now in
    ap not c.is_so_at_each_index.ensures
    ∙ some_passes (holds_at_index entries (out-Test c.args.condition.now)) (tested_indexes entries)
