-- What a book stands for after one more frame: for the proofs of callers, too.
use Rattle.std.proofs.Common.{◌≡◌, ℕ, ℤ, true, false, if◌then◌else◌, List, [], ◌∷◌, ◌++◌, Result, Ok, Err, OnOk, inl, inr, refl, sym, ap, subst, ◌∙◌}
use Rattle.std.proofs.lemmas.List.{append-nil}
use Rattle.std.proofs.lemmas.List.Concat.{flat_map-append}
use Rattle.atom_record.specs.declared.value.Leaf.{Leaf}
use Rattle.atom_record.specs.declared.atom.Atom.{Atom}
use Rattle.atom_record.specs.declared.log.LogFrame.{LogFrame}
use Rattle.atom_record.specs.declared.log.LogFrame.TheVariants.{AtomAt}
use Rattle.dim_table.specs.Table.{Table}
use Rattle.book_meaning.specs.BookLimits.{most_state_ids}
use Rattle.book_meaning.specs.States.{tells_state, state_atom_in, state_atoms}
use Rattle.state_slicer.specs.StateBooks.{StateBookStandsFor, AppliesAtom, BookTakes, IsTakenAt, IsTakenFirst}
use Rattle.state_slicer.proofs.BookAtomsLemmas.{book_in, book_at, book_first}

-- a book that stands for frames is what their state atoms make of an empty one, and the other way round
pub is_book : (book : Table ℕ (Table (List Leaf) ℤ)) (frames : List LogFrame) → StateBookStandsFor book frames
    → book ≡ book_in (state_atoms frames)
is_book book frames stands =
    ap (λ rows. record { rows = rows; bound = book.bound; dropped = book.dropped }) stands.ids
    ∙ ap (λ n. record { rows = (book_in (state_atoms frames)).rows; bound = n; dropped = book.dropped }) stands.bound
    ∙ ap (λ n. record { rows = (book_in (state_atoms frames)).rows; bound = most_state_ids; dropped = n })
    stands.dropped

book_stands : (book : Table ℕ (Table (List Leaf) ℤ)) (frames : List LogFrame) → book ≡ book_in (state_atoms frames)
    → StateBookStandsFor book frames
book_stands book frames is = record {
  ids = ap (λ (t : Table ℕ (Table (List Leaf) ℤ)). t.rows) is;
  bound = ap (λ (t : Table ℕ (Table (List Leaf) ℤ)). t.bound) is;
  dropped = ap (λ (t : Table ℕ (Table (List Leaf) ℤ)). t.dropped) is;
}

-- the state atoms with one more frame
pub state_atoms-push : (frames : List LogFrame) (frame : LogFrame)
    → state_atoms (frames ++ frame ∷ []) ≡ state_atoms frames ++ state_atom_in frame
state_atoms-push frames frame =
    flat_map-append state_atom_in frames (frame ∷ [])
    ∙ ap (λ l. state_atoms frames ++ l) (append-nil (state_atom_in frame))

-- a frame that tells no state leaves the book
pub StateBookStandsFor-other : (book : Table ℕ (Table (List Leaf) ℤ)) (frames : List LogFrame) (frame : LogFrame)
    → state_atom_in frame ≡ [] → StateBookStandsFor book frames → StateBookStandsFor book (frames ++ frame ∷ [])
StateBookStandsFor-other book frames frame none stands =
    book_stands book (frames ++ frame ∷ [])
    (is_book book frames stands
    ∙ ap book_in (sym (append-nil (state_atoms frames)) ∙ ap (λ l. state_atoms frames ++ l) (sym none)
    ∙ sym (state_atoms-push frames frame)))

module _ (old : Table ℕ (Table (List Leaf) ℤ)) (atom : Atom) where
  -- an atom that tells no state
  pub applies_none : tells_state atom ≡ false → AppliesAtom old old atom
  applies_none none frames at stands =
      StateBookStandsFor-other old frames (AtomAt at atom) (ap (λ b. if b then atom ∷ [] else []) none) stands

  pub takes_none : tells_state atom ≡ false → BookTakes old old atom
  takes_none none = inl (none, refl)

  module _ (new : Table ℕ (Table (List Leaf) ℤ)) (tells : tells_state atom ≡ true) where
    pub ok_takes_at : {X E : Type 0} (place : ℕ) (result : Result X E) → OnOk result (IsTakenAt old new place atom)
        → OnOk result (BookTakes old new atom)
    ok_takes_at place (Ok x) takes = inr (tells, inl (place, takes))
    ok_takes_at place (Err e) takes = tt

    pub ok_takes_first : {X E : Type 0} (result : Result X E) → OnOk result (IsTakenFirst old new atom)
        → OnOk result (BookTakes old new atom)
    ok_takes_first (Ok x) takes = inr (tells, inr takes)
    ok_takes_first (Err e) takes = tt

    one_atom : (frames : List LogFrame) (at : ℕ)
        → book_in (state_atoms frames ++ atom ∷ []) ≡ book_in (state_atoms (frames ++ AtomAt at atom ∷ []))
    one_atom frames at =
        ap book_in (sym (state_atoms-push frames (AtomAt at atom)
        ∙ ap (λ b. state_atoms frames ++ (if b then atom ∷ [] else [])) tells))

    -- a state atom of an id that is there, and of a new one
    applies_at : (place : ℕ) → IsTakenAt old new place atom → AppliesAtom old new atom
    applies_at place takes frames at stands =
        book_stands new (frames ++ AtomAt at atom ∷ [])
        (book_at (state_atoms frames) atom new place
        (subst (λ book. IsTakenAt book new place atom) (is_book old frames stands) takes)
        ∙ one_atom frames at)

    applies_first : IsTakenFirst old new atom → AppliesAtom old new atom
    applies_first takes frames at stands =
        book_stands new (frames ++ AtomAt at atom ∷ [])
        (book_first (state_atoms frames) atom new
        (subst (λ book. IsTakenFirst book new atom) (is_book old frames stands) takes)
        ∙ one_atom frames at)

    pub ok_applies_at : {X E : Type 0} (place : ℕ) (result : Result X E) → OnOk result (IsTakenAt old new place atom)
        → OnOk result (AppliesAtom old new atom)
    ok_applies_at place (Ok x) takes = applies_at place takes
    ok_applies_at place (Err e) takes = tt

    pub ok_applies_first : {X E : Type 0} (result : Result X E) → OnOk result (IsTakenFirst old new atom)
        → OnOk result (AppliesAtom old new atom)
    ok_applies_first (Ok x) takes = applies_first takes
    ok_applies_first (Err e) takes = tt
