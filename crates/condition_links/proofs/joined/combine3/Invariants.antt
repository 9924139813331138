use Rattle.std.proofs.Common.{◌≡◌, take}
use Rattle.condition_links.specs.SeenTruths.{seen_of}
use Rattle.condition_links.proofs.joined.combine3.Given as goal

abbrev pub invariant-loop-truth : goal.invariant-loop-truth
invariant-loop-truth l = l.seen ≡ seen_of (take l.truth-index l.children)
