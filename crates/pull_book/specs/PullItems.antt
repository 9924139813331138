-- The items of a book: those of the table of its rows. An atom is saved as its payload, since the payloads are exactly
-- the spellings of the atoms that have no fault.
use Rattle.std.specs.Prelude.{◌≢◌, ℕ, ◌≤◌, List, [], ◌∷◌, length, All, AllPairs}
use Rattle.std.specs.Map.{keys_of}
use Rattle.std.proofs.Common.{arith}
use Rattle.std.proofs.lemmas.List.Elements.{All-weaker}
use Rattle.atom_record.specs.declared.atom.Atom.{Atom}
use Rattle.atom_record.specs.declared.log.PullOutcome.{PullOutcome}
use Rattle.atom_record.specs.declared.log.PullOutcome.TheVariants.{Atoms, Failed}
use Rattle.atom_record.specs.AtomSound.{HasNoFault}
use Rattle.atom_record.specs.AtomSpelling.{payload_of}
use Rattle.flat_form.specs.declared.item.Item.{Item}
use Rattle.flat_form.specs.declared.item.Item.TheVariants.{Num, Chunk}
use Rattle.flat_form.specs.Flat.{Anything, IsValidPair, number_items, list_items}
use Rattle.flat_form.specs.Savable.{AreSavable}
use Rattle.flat_form.specs.SavableLaws.{items_savable, none_savable, number_savable, list_savable}
use Rattle.flat_form.specs.Weight.{most_items, list_entries}
use Rattle.flat_form.specs.Bounded.{list_bounded, list_few}
use Rattle.dim_table.specs.Table.{Table}
use Rattle.dim_table.specs.TableItems.{table_items, IsTable, table_entries, table_bounded, table_few, table_savable}
use Rattle.book_meaning.specs.BookLimits.{most_pulled_ids}
use Rattle.pull_book.specs.PullBooks.{IsSnapshotAtom, IsRecordable, IsKeptRow}

-- an atom is its payload
abbrev pub payload_items : Atom → List Item
payload_items atom = Chunk (payload_of atom) ∷ []

-- a failed pull is the number 0; another one is the number 1, the number of its atoms, and these
abbrev pub outcome_items : PullOutcome → List Item
outcome_items Failed = Num 0 ∷ []
outcome_items (Atoms atoms) = Num 1 ∷ list_items payload_items atoms

-- the atoms of an outcome have no fault
abbrev pub HoldsSoundAtoms : PullOutcome → Type 0
HoldsSoundAtoms Failed = Unit {0}
HoldsSoundAtoms (Atoms atoms) = All HasNoFault atoms

-- an entry for each eight atoms that are begun
abbrev pub outcome_entries : PullOutcome → ℕ
outcome_entries Failed = 0
outcome_entries (Atoms atoms) = list_entries payload_items atoms

-- an outcome is a head of two items, and eight at most for each entry
pub outcome_bounded : (outcome : PullOutcome) → HoldsSoundAtoms outcome
    → length (outcome_items outcome) ≤ most_items 2 (outcome_entries outcome)
outcome_bounded Failed valid = omega arith
outcome_bounded (Atoms atoms) valid = let part = list_bounded payload_items HasNoFault atoms valid in omega arith

-- an entry is an item at least
pub outcome_few : (outcome : PullOutcome) → outcome_entries outcome ≤ length (outcome_items outcome)
outcome_few Failed = omega arith
outcome_few (Atoms atoms) = let part = list_few payload_items atoms in omega arith

-- the payload of an atom without a fault can be spelled
payload_savable : (atom : Atom) → HasNoFault atom → Anything atom → AreSavable (payload_items atom)
payload_savable atom sound any =
    items_savable (Chunk (payload_of atom)) [] (omega (arith, sound.fits)) none_savable

-- the items of an outcome can be spelled
pub outcome_savable : (outcome : PullOutcome) → HoldsSoundAtoms outcome → Anything outcome
    → AreSavable (outcome_items outcome)
outcome_savable Failed valid any = items_savable (Num 0) [] tt none_savable
outcome_savable (Atoms atoms) valid any =
    items_savable (Num 1) (list_items payload_items atoms) tt
    (list_savable payload_items HasNoFault Anything payload_savable atoms valid
    (All-weaker HasNoFault Anything (λ atom sound. tt) atoms valid))

-- the table of these rows
abbrev pub book_table : List (ℕ × PullOutcome) → Table ℕ PullOutcome
book_table rows = record { rows = rows; bound = most_pulled_ids; dropped = 0 }

-- a book is the table of its rows
abbrev pub book_items : List (ℕ × PullOutcome) → List Item
book_items rows = table_items number_items outcome_items (book_table rows)

-- these rows may stand in a book: they are no more than it keeps, no id comes twice, and each is pulled and may be
-- recorded
pub record IsPullBook (rows : List (ℕ × PullOutcome)) : Type 0 where
  pub most : length rows ≤ most_pulled_ids
  pub distinct : AllPairs (λ one other. one ≢ other) (keys_of rows)
  pub rows_kept : All IsKeptRow rows

-- what may be recorded has atoms without a fault
pub recordable_sound : (id : ℕ) (outcome : PullOutcome) → IsRecordable id outcome → HoldsSoundAtoms outcome
recordable_sound id Failed may = tt
recordable_sound id (Atoms atoms) may = All-weaker (IsSnapshotAtom id) HasNoFault (λ atom is. is.1) atoms may

-- the table of a book's rows is one
pub book_is_table : (rows : List (ℕ × PullOutcome)) → IsPullBook rows
    → IsTable Anything HoldsSoundAtoms (book_table rows)
book_is_table rows valid = record {
  bounded = record { least = omega arith; most = omega arith; within = valid.most };
  distinct = valid.distinct;
  rows_valid = All-weaker IsKeptRow (IsValidPair Anything HoldsSoundAtoms)
      (λ row kept. (tt, recordable_sound row.0 row.1 kept.1)) rows valid.rows_kept;
}

-- the entries of a book are those of its table
abbrev pub book_entries : List (ℕ × PullOutcome) → ℕ
book_entries rows = table_entries number_items outcome_items (book_table rows)

-- a book is a head of three items, and eight at most for each entry
pub book_bounded : (rows : List (ℕ × PullOutcome)) → IsPullBook rows
    → length (book_items rows) ≤ most_items 3 (book_entries rows)
book_bounded rows valid =
    table_bounded number_items outcome_items Anything HoldsSoundAtoms (book_table rows) (book_is_table rows valid)

-- an entry is an item at least
pub book_few : (rows : List (ℕ × PullOutcome)) → book_entries rows ≤ length (book_items rows)
book_few rows = table_few number_items outcome_items (book_table rows)

-- the items of a book can be spelled
pub book_savable : (rows : List (ℕ × PullOutcome)) → IsPullBook rows → Anything rows → AreSavable (book_items rows)
book_savable rows valid any =
    table_savable number_items outcome_items Anything HoldsSoundAtoms Anything Anything number_savable outcome_savable
    (book_table rows) (book_is_table rows valid)
    (All-weaker IsKeptRow (IsValidPair Anything Anything) (λ row kept. (tt, tt)) rows valid.rows_kept)
