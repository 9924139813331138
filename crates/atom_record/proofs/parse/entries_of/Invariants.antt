-- The entries so far, and those of the rest after them, are those of all the bytes.
use Rattle.std.proofs.Common.{◌≡◌, [], length}
use Rattle.std.specs.List.{list_any}
use Rattle.atom_record.specs.Flags.{is_exclusive}
use Rattle.atom_record.specs.AtomReading.{entries_at}
use Rattle.atom_record.proofs.parse.entries_of.Given as goal

abbrev pub invariant-loop-rest : goal.invariant-loop-rest
invariant-loop-rest l = record {
  reads : entries_at l.entries.items l.rest ≡ entries_at [] l.bytes;
  exclusive : l.exclusive ≡ list_any is_exclusive l.entries.items;
}

abbrev pub decreases-loop-rest : goal.decreases-loop-rest
decreases-loop-rest l = length l.rest
