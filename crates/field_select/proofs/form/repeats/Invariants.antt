use Rattle.std.proofs.Common.{◌≡◌, drop}
use Rattle.field_select.specs.FieldSets.{has_repeat}
use Rattle.field_select.proofs.RepeatLemmas.{repeat_after}
use Rattle.field_select.proofs.form.repeats.Given as goal

-- what is left, after the leaves that were seen, decides
abbrev pub invariant-loop-leaf : goal.invariant-loop-leaf
invariant-loop-leaf l = repeat_after l.seen.keys (drop l.leaf-index l.leaves) ≡ has_repeat l.leaves
