use Rattle.std.specs.Option.{option_copied}
use Rattle.field_select.proofs.EndWalkLemmas.{walk_ends}
use Rattle.field_select.proofs.value.end_value.Goals as goal

-- the walk has read all entries
pub returns : goal.returns
returns c =
    walk_ends c.args.end c.args.leaf.now c.args.entries.now (c.loop-entry.index, option_copied c.loop-entry.found)
    c.loop-entry.entry-index c.loop-entry-test.false c.loop-entry.invariant c.requires
