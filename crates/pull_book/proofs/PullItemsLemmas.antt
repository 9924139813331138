-- For the builds of what a pull gave and of a book: an atom is saved as its payload, an outcome as a number and maybe
-- a list, and a book as its table.
use Rattle.std.proofs.Common.{◌≡◌, ℕ, ◌+◌, List, length, All, Some, Ok, Err, refl, sym, ap, subst, ◌∙◌, arith}
use Rattle.std.specs.Prelude.{slice_get}
use Rattle.sd_base.specs.Reads.{GivesBy}
use Rattle.atom_record.specs.declared.atom.Atom.{Atom}
use Rattle.atom_record.specs.declared.fault.AtomFault.{AtomFault}
use Rattle.atom_record.specs.declared.fault.AtomFault.TheVariants as faults
use Rattle.atom_record.specs.declared.log.PullOutcome.{PullOutcome}
use Rattle.atom_record.specs.declared.log.PullOutcome.TheVariants.{Atoms, Failed}
use Rattle.atom_record.specs.AtomReading.{reason_of}
use Rattle.atom_record.specs.AtomSound.{HasNoFault}
use Rattle.atom_record.specs.AtomSpelling.{payload_of}
use Rattle.flat_form.specs.declared.item.Item.{Item}
use Rattle.flat_form.specs.declared.item.Item.TheVariants.{Chunk}
use Rattle.flat_form.specs.declared.flat_error.FlatError.{FlatError}
use Rattle.flat_form.specs.declared.flat_error.FlatError.TheVariants.{Bad, Memory}
use Rattle.flat_form.specs.Flat.{Anything, StandsAt, IsBuilt, Builds, number_items, list_items, chunk_items}
use Rattle.flat_form.proofs.FlatLaws as laws
use Rattle.dim_table.specs.Table.{Table}
use Rattle.dim_table.specs.TableItems.{table_items, IsTable}
use Rattle.pull_book.specs.PullBooks.{IsPullTable}
use Rattle.pull_book.specs.PullItems.{payload_items, outcome_items, HoldsSoundAtoms, book_table, book_items, IsPullBook, book_is_table}

-- the items of the tables of books
abbrev pull_table_items : Table ℕ PullOutcome → List Item
pull_table_items = table_items number_items outcome_items

-- which tables there are
abbrev IsSoundTable : Table ℕ PullOutcome → Type 0
IsSoundTable = IsTable Anything HoldsSoundAtoms

-- a table that a book has is that of its rows
pub as_book : (table : Table ℕ PullOutcome) → IsPullTable table → table ≡ book_table table.rows
as_book table is = λ i. record { rows = table.rows; bound = is.bound i; dropped = is.none_dropped i }

-- so it has the items of the book
pub as_book_items : (table : Table ℕ PullOutcome) → IsPullTable table → pull_table_items table ≡ book_items table.rows
as_book_items table is = ap pull_table_items (as_book table is)

-- one of the two numbers that an outcome begins with
kind_of : PullOutcome → ℕ
kind_of Failed = 0
kind_of (Atoms atoms) = 1

module _ (items : List Item) (place : ℕ) where
  -- no payload stands there
  pub no_payload : (e : FlatError) → Builds Anything chunk_items items place (Err e)
      → Builds HasNoFault payload_items items place (Err e)
  no_payload Bad never = λ atom sound there. never (payload_of atom) tt there
  no_payload Memory none = tt

  module _ (payload : List ℕ) (here : slice_get items place ≡ Some (Chunk payload)) where
    -- an atom that stands there has this payload
    payload_is : (atom : Atom) → StandsAt items place (payload_items atom) → payload ≡ payload_of atom
    payload_is atom there =
        let other : slice_get items place ≡ Some (Chunk (payload_of atom)) =
        laws.item_is items place (Chunk (payload_of atom)) there in
        cc

    -- the atom that was read is built
    pub atom_built : (atom : Atom) (next : ℕ) → next ≡ place + 1 → HasNoFault atom → payload ≡ payload_of atom
        → ((other : Atom) → HasNoFault other → payload ≡ payload_of other
        → GivesBy {X = Atom} {Y = Atom} {E = AtomFault} {F = ℕ} reason_of (λ x. x) (Ok atom) (Ok other))
        → IsBuilt HasNoFault payload_items items place atom next
    atom_built atom next after sound spelled read = record {
      is_valid = sound;
      stands = laws.item_here items place (Chunk (payload_of atom)) (here ∙ ap (λ bytes. Some (Chunk bytes)) spelled);
      ends = after;
      only = λ other other_sound there.
          let same = read other other_sound (payload_is other there) in
          let is : other ≡ atom = cc in
          is;
    }

    -- what stands there is the payload of no atom
    pub no_atom : (fault : AtomFault) (reason : ℕ) → fault ≡ faults.Bad reason
        → ((other : Atom) → HasNoFault other → payload ≡ payload_of other
        → GivesBy {X = Atom} {Y = Atom} {E = AtomFault} {F = ℕ} reason_of (λ x. x) (Err fault) (Ok other))
        → Builds HasNoFault payload_items items place (Err Bad)
    no_atom fault reason is read atom sound there =
        let never = subst
        (λ (f : AtomFault). GivesBy {X = Atom} {Y = Atom} {E = AtomFault} {F = ℕ} reason_of (λ x. x) (Err f) (Ok atom))
        is (read atom sound (payload_is atom there)) in
        absurd cc

  no_number : Builds Anything number_items items place (Err Bad) → (outcome : PullOutcome)
      → ¬ (StandsAt items place (outcome_items outcome))
  no_number never Failed there = never 0 tt there
  no_number never (Atoms atoms) there =
      never 1 tt (laws.StandsAt-front items place (number_items 1) (list_items payload_items atoms) there)

  -- where no number stands, no outcome does
  pub kind_fails : (e : FlatError) → Builds Anything number_items items place (Err e)
      → Builds HoldsSoundAtoms outcome_items items place (Err e)
  kind_fails Bad never = λ outcome valid there. no_number never outcome there
  kind_fails Memory none = tt

  module _ (kind middle : ℕ) (one : IsBuilt Anything number_items items place kind middle) where
    -- an outcome that stands there begins with this number
    kind_is : (outcome : PullOutcome) → StandsAt items place (outcome_items outcome) → kind_of outcome ≡ kind
    unfolding kind_of
    kind_is Failed there = one.only 0 tt there
    kind_is (Atoms atoms) there =
        one.only 1 tt (laws.StandsAt-front items place (number_items 1) (list_items payload_items atoms) there)

    -- the atoms of one that stands there stand after the number
    atoms_stand : (atoms : List Atom) → StandsAt items place (outcome_items (Atoms atoms))
        → StandsAt items middle (list_items payload_items atoms)
    atoms_stand atoms there =
        subst (λ (p : ℕ). StandsAt items p (list_items payload_items atoms)) (sym one.ends)
        (laws.StandsAt-back items place (number_items 1) (list_items payload_items atoms) there)

    only_failed : kind ≡ 0 → (outcome : PullOutcome) → StandsAt items place (outcome_items outcome)
        → outcome ≡ Failed
    unfolding kind_of
    only_failed is Failed there = refl
    only_failed is (Atoms atoms) there =
        let other = kind_is (Atoms atoms) there in absurd (omega (arith, is, other))

    -- a failed pull is built
    pub failed_built : kind ≡ 0 → IsBuilt HoldsSoundAtoms outcome_items items place Failed middle
    failed_built is = record {
      is_valid = tt;
      stands = subst (λ (k : ℕ). StandsAt items place (number_items k)) is one.stands;
      ends = one.ends;
      only = λ other valid there. only_failed is other there;
    }

    module _ (is : kind ≡ 1) where
      only_atoms : (atoms : List Atom) (next : ℕ)
          → IsBuilt (All HasNoFault) (list_items payload_items) items middle atoms next
          → (outcome : PullOutcome) → HoldsSoundAtoms outcome → StandsAt items place (outcome_items outcome)
          → outcome ≡ Atoms atoms
      unfolding kind_of
      only_atoms atoms next built Failed valid there =
          let other = kind_is Failed there in absurd (omega (arith, is, other))
      only_atoms atoms next built (Atoms others) valid there =
          ap (λ (xs : List Atom). Atoms xs) (built.only others valid (atoms_stand others there))

      -- a pull with these atoms is built
      pub snapshot_built : (atoms : List Atom) (next : ℕ)
          → IsBuilt (All HasNoFault) (list_items payload_items) items middle atoms next
          → IsBuilt HoldsSoundAtoms outcome_items items place (Atoms atoms) next
      snapshot_built atoms next built = record {
        is_valid = built.is_valid;
        stands = laws.StandsAt-join items place (number_items 1) (list_items payload_items atoms)
            (subst (λ (k : ℕ). StandsAt items place (number_items k)) is one.stands)
            (subst (λ (p : ℕ). StandsAt items p (list_items payload_items atoms)) one.ends built.stands);
        ends = let start = one.ends in let end = built.ends in omega (arith, start, end);
        only = λ other valid there. only_atoms atoms next built other valid there;
      }

      never_atoms : Builds (All HasNoFault) (list_items payload_items) items middle (Err Bad)
          → (outcome : PullOutcome) → HoldsSoundAtoms outcome → ¬ (StandsAt items place (outcome_items outcome))
      unfolding kind_of
      never_atoms never Failed valid there =
          let other = kind_is Failed there in absurd (omega (arith, is, other))
      never_atoms never (Atoms others) valid there = never others valid (atoms_stand others there)

      -- no atoms stand after the number
      pub snapshot_fails : (e : FlatError)
          → Builds (All HasNoFault) (list_items payload_items) items middle (Err e)
          → Builds HoldsSoundAtoms outcome_items items place (Err e)
      snapshot_fails Bad never = never_atoms never
      snapshot_fails Memory none = tt

    never_kind : ¬ (kind ≡ 0) → ¬ (kind ≡ 1) → (outcome : PullOutcome)
        → ¬ (StandsAt items place (outcome_items outcome))
    unfolding kind_of
    never_kind not_failed not_atoms Failed there = not_failed (sym (kind_is Failed there))
    never_kind not_failed not_atoms (Atoms atoms) there = not_atoms (sym (kind_is (Atoms atoms) there))

    -- no outcome begins with another number
    pub no_kind : ¬ (kind ≡ 0) → ¬ (kind ≡ 1) → Builds HoldsSoundAtoms outcome_items items place (Err Bad)
    no_kind not_failed not_atoms = λ outcome valid there. never_kind not_failed not_atoms outcome there

  -- where no table stands, no book does
  pub book_fails : (e : FlatError) → Builds IsSoundTable pull_table_items items place (Err e)
      → Builds IsPullBook book_items items place (Err e)
  book_fails e fails = laws.form_fails IsSoundTable pull_table_items IsPullBook book_items book_table (λ rows. refl)
      book_is_table items place e fails

  module _ (table : Table ℕ PullOutcome) (next : ℕ) (one : IsBuilt IsSoundTable pull_table_items items place table next)
    where
      -- a book is built from its table
      pub book_built : (book : List (ℕ × PullOutcome)) → book ≡ table.rows → IsPullTable table
          → IsBuilt IsPullBook book_items items place book next
      book_built book is pull =
          let within = one.is_valid.bounded.within in
          let bound = pull.bound in
          let same : pull_table_items table ≡ book_items table.rows = as_book_items table pull in
          subst (λ rows. IsBuilt IsPullBook book_items items place rows next) (sym is) (record {
            is_valid = record {
              most = omega (arith, within, bound);
              distinct = one.is_valid.distinct;
              rows_kept = pull.rows_kept;
            };
            stands = subst (StandsAt items place) same one.stands;
            ends = one.ends ∙ ap (λ part. place + length part) same;
            only = λ other valid there.
                ap (λ (t : Table ℕ PullOutcome). t.rows)
                (one.only (book_table other) (book_is_table other valid) there);
          })

      -- no book has the table that stands there
      pub no_book : ¬ (IsPullTable table) → Builds IsPullBook book_items items place (Err Bad)
      no_book never = λ other valid there.
          never (subst IsPullTable (one.only (book_table other) (book_is_table other valid) there)
          (record { bound = refl; none_dropped = refl; rows_kept = valid.rows_kept }))
