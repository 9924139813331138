-- Atoms and rows of samples take no more bytes than they weigh.
use Rattle.std.proofs.Common.{◌≡◌, ◌+◌, ◌*◌, ◌≤◌, List, [], ◌∷◌, length, refl, arith}
use Rattle.std.specs.List.{sum_by}
use Rattle.std.proofs.lemmas.List.Sums.{sum_by-cons}
use Rattle.atom_record.specs.declared.atom.Atom.{Atom}
use Rattle.atom_record.specs.declared.value.MetricKey.{MetricKey}
use Rattle.flat_form.specs.Flat.{key_items, atom_items, list_items, pair_items}
use Rattle.gauge_metric.specs.EventItems.{atom_row_items}
use Rattle.metric_producer.specs.declared.row.Row.{Row}
use Rattle.saved_weight.proofs.SizeLaws.{full_size, full-append, full-list, full-key, full-atom, full-row}
use Rattle.saved_weight.specs.Entries.{atom_weight, atom_entry, key_entry, samples_entry}

-- atoms, each seven bytes and what it holds
atoms_sum : (atoms : List Atom)
    → sum_by (λ atom. full_size (atom_items atom)) atoms ≡ 7 * length atoms + sum_by atom_weight atoms
atoms_sum [] = omega arith
atoms_sum (atom ∷ atoms) =
    let rest = atoms_sum atoms in
    let here = full-atom atom in
    let sizes = sum_by-cons (λ atom. full_size (atom_items atom)) atom atoms in
    let weights = sum_by-cons atom_weight atom atoms in
    omega arith

-- a list of atoms
pub full-atoms : (atoms : List Atom)
    → full_size (list_items atom_items atoms) ≡ 9 + 7 * length atoms + sum_by atom_weight atoms
full-atoms atoms = let all = full-list atom_items atoms in let sum = atoms_sum atoms in omega arith

-- atoms that are entries
entries_sum : (atoms : List Atom) → sum_by atom_entry atoms ≡ 128 * length atoms + sum_by atom_weight atoms
entries_sum [] = omega arith
entries_sum (atom ∷ atoms) =
    let rest = entries_sum atoms in
    let one = sum_by-cons atom_entry atom atoms in
    let weights = sum_by-cons atom_weight atom atoms in
    omega arith

-- a key with its samples is within its entries
pub samples_within : (key : MetricKey) (atoms : List Atom)
    → full_size (pair_items key_items (list_items atom_items) (key, atoms))
    ≤ key_entry key + sum_by atom_entry atoms
samples_within key atoms =
    let size = full-append (key_items key) (list_items atom_items atoms) in
    let one = full-key key in
    let all = full-atoms atoms in
    let entries = entries_sum atoms in
    omega arith

-- a row of samples is within its entries
pub sample_row_within : (row : Row (List Atom)) → full_size (atom_row_items row) ≤ samples_entry row
sample_row_within row =
    let size = full-row (list_items atom_items) row in
    let all = full-atoms row.value in
    let entries = entries_sum row.value in
    omega arith

-- what weighs nothing
pub nothing_weighs : {X : Type 0} (xs : List X) → sum_by (λ x. 0) xs ≡ 0
nothing_weighs [] = refl
nothing_weighs (x ∷ xs) = let rest = nothing_weighs xs in let sum = sum_by-cons (λ x. 0) x xs in omega arith
