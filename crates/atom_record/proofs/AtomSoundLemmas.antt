-- For the crates above: an atom that keeps some of its entries has no fault.
use Rattle.std.proofs.Common.{ℕ, ◌≤◌, Bool, not, List, length, refl, arith}
use Rattle.std.specs.Prelude.{filter, if◌then◌else◌}
use Rattle.std.specs.Int.{w32, to_le_bytes}
use Rattle.std.specs.List.{flat_map, sum_by}
use Rattle.std.proofs.lemmas.List.{length-append}
use Rattle.std.proofs.lemmas.List.Concat.{length-flat_map}
use Rattle.std.proofs.lemmas.List.Elements.{All-filter}
use Rattle.std.proofs.lemmas.List.Filters.{sum_by-filter_both}
use Rattle.std.proofs.lemmas.List.Kept.{AllPairs-filter}
use Rattle.atom_record.specs.declared.atom.Atom.{Atom}
use Rattle.atom_record.specs.declared.atom.AtomField.{AtomField}
use Rattle.atom_record.specs.Flags.{is_exclusive}
use Rattle.atom_record.specs.AtomSpelling.{entry_bytes}
use Rattle.atom_record.specs.AtomSound.{IsEntry, IsBelow, AreEntries, HasNoFault}

-- a sum over some of the entries is no larger than that over all
sum_by-filter-le : (f : AtomField → ℕ) (kept : AtomField → Bool) (entries : List AtomField)
    → sum_by f (filter kept entries) ≤ sum_by f entries
sum_by-filter-le f kept entries =
    let both = sum_by-filter_both kept (λ entry. not (kept entry)) (λ entry. refl) f entries in omega arith

-- some of the entries, in their order
pub AreEntries-filter : (kept : AtomField → Bool) (entries : List AtomField)
    → AreEntries entries
    → AreEntries (filter kept entries)
AreEntries-filter kept entries are = record {
  each = All-filter kept IsEntry entries are.each;
  rising = AllPairs-filter IsBelow kept entries are.rising;
  one_state =
      let fewer = sum_by-filter-le (λ entry. if is_exclusive entry then 1 else 0) kept entries in
      omega (arith, are.one_state);
}

-- an atom with some of its entries
pub HasNoFault-filter : (kept : AtomField → Bool) (atom : Atom)
    → HasNoFault atom
    → HasNoFault (record atom { fields = filter kept atom.fields })
HasNoFault-filter kept atom sound =
    let shorter = sum_by-filter-le (λ entry. length (entry_bytes entry)) kept atom.fields in
    let before = length-flat_map entry_bytes atom.fields in
    let after = length-flat_map entry_bytes (filter kept atom.fields) in
    let whole = length-append (to_le_bytes w32 atom.id) (flat_map entry_bytes atom.fields) in
    let part = length-append (to_le_bytes w32 atom.id) (flat_map entry_bytes (filter kept atom.fields)) in
    record {
      id = sound.id;
      entries = AreEntries-filter kept atom.fields sound.entries;
      fits = omega (arith, sound.fits);
    }
