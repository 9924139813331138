-- The copy has what was seen so far.
use Rattle.std.proofs.Common.{◌≡◌, take}
use Rattle.atom_record.proofs.key.DimKeyDuplicate.duplicate.Given as goal

abbrev pub invariant-loop-one : goal.invariant-loop-one
invariant-loop-one l = l.present.items ≡ take l.one-index l.one-items
