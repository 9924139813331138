use Rattle.std.proofs.Common.{◌≡◌, drop, None}
use Rattle.config_links.specs.MetricSlices.{rise_after}
use Rattle.config_links.proofs.slices.is_rising.Given as goal

-- what is left rises after the last exactly if all do
abbrev pub invariant-loop-leaf : goal.invariant-loop-leaf
invariant-loop-leaf l = rise_after l.last (drop l.leaf-index l.leaves) ≡ rise_after None l.leaves
