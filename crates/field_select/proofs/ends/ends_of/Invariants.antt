use Rattle.std.proofs.Common.{◌≡◌, ℕ, ◌<◌, length, drop, slice_index}
use Rattle.field_select.specs.LeafValues.{field_indexes}
use Rattle.field_select.specs.FieldEnds.{nearer_index, end_index}
use Rattle.field_select.proofs.ends.ends_of.Given as goal

-- of each field the nearest index so far, or a nearer one of what is left, is the nearest of all
abbrev pub invariant-loop-entry : goal.invariant-loop-entry
invariant-loop-entry l = record {
  long : length l.ends ≡ 256;
  nearest : (field : ℕ) → field < 256 → nearer_index l.end (slice_index l.ends field)
      (end_index l.end (field_indexes field (drop l.entry-index l.entries))) ≡ end_index l.end
      (field_indexes field l.entries);
}
