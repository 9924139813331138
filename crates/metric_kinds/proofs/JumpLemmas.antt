-- Full buckets with nothing between their ends, as in a jump: each gives the same again. For the proofs of producers of
-- pulled values, where a part closes with what comes, and of pulled gauges, where it opens with it.
use Rattle.std.proofs.Common.{◌≡◌, ℕ, zero, suc, ◌+◌, ◌*◌, List, [], ◌∷◌, ◌++◌, map, refl, sym, ap, ◌∙◌, arith, append_assoc}
use Rattle.std.specs.Bool.{Decides}
use Rattle.std.specs.List.{flat_map}
use Rattle.std.proofs.lemmas.List.{append-nil}
use Rattle.bucket_meaning.specs.Ends.{ends_from}
use Rattle.bucket_meaning.specs.Guard.{arrival_key}
use Rattle.bucket_meaning.specs.Rows.{Kind, drops}
use Rattle.bucket_meaning.specs.Marks.{Mark, Ends, Came, Missed, Edges, edges_again, boundary, boundary_marks, Part, Books, after, books_from}
use Rattle.bucket_meaning.proofs.MarksLemmas.{books-append}
use Rattle.metric_kinds.proofs.ArrivalsLemmas.{dropped_of, have_come}

-- behind the first boundary each has the same
pub boundaries_again : {X : Type 0} (edges : Edges X) (ends : List ℕ)
    → boundary_marks (edges_again edges) ends ≡ flat_map (boundary (edges_again edges)) ends
boundaries_again edges [] = refl
boundaries_again edges (at ∷ ends) =
    ap (λ later. boundary (edges_again edges) at ++ later) (boundaries_again edges ends)

module _ {X : Type 0} where
  -- books of a part that began at a time, in which this has come
  abbrev pub books_at : ℕ → List X → List (Part X) → ℕ → ℕ → Books X
  books_at start came closed dropped missing =
      record { start = start; came = came; closed = closed; dropped = dropped; missing = missing }

  -- so many parts of one length, in each of which the same came
  abbrev pub parts_again : ℕ → ℕ → List X → ℕ → List (Part X)
  parts_again start size came zero = []
  parts_again start size came (suc n) =
      record { start = start; end = start + size; came = came } ∷ parts_again (start + size) size came n

  -- books are equal where all that they have is
  same_books : {start start' : ℕ} {closed closed' : List (Part X)} {dropped dropped' missing missing' : ℕ}
      (came : List X) → start ≡ start' → closed ≡ closed' → dropped ≡ dropped' → missing ≡ missing'
      → books_at start came closed dropped missing ≡ books_at start' came closed' dropped' missing'
  same_books {start} {start'} {closed} {closed'} {dropped} {dropped'} {missing} {missing'} came s c d m =
      ap (λ x. books_at x came closed dropped missing) s
      ∙ ap (λ x. books_at start' came x dropped missing) c
      ∙ ap (λ x. books_at start' came closed' x missing) d
      ∙ ap (λ x. books_at start' came closed' dropped' x) m

module _ {X : Type 0} (drops : List X → X → ℕ) (marks : List (Mark X)) (came : List X) (lost missed : ℕ) where
  -- marks within a part bring this, with so many drops and missing snapshots, wherever the part stands
  abbrev pub BringAgain : Type 0
  BringAgain = (start : ℕ) (closed : List (Part X)) (dropped missing : ℕ)
      → books_from drops (books_at start [] closed dropped missing) marks
      ≡ books_at start came closed (dropped + lost) (missing + missed)

  module _ (size : ℕ) where
    -- the books after so many parts, of which the last is open with this
    abbrev pub jumped : List X → ℕ → List (Part X) → ℕ → ℕ → ℕ → Books X
    jumped last start closed dropped missing n = books_at (start + n * size) last
        (closed ++ parts_again start size came n) (dropped + n * lost) (missing + n * missed)

    -- no part more
    jumped-zero : (last : List X) (start : ℕ) (closed : List (Part X)) (dropped missing : ℕ)
        → books_at start last closed dropped missing ≡ jumped last start closed dropped missing zero
    jumped-zero last start closed dropped missing =
        same_books last (omega arith) (sym (append-nil closed)) (omega arith) (omega arith)

    -- a part more, at the front
    jumped-suc : (last : List X) (start : ℕ) (closed : List (Part X)) (dropped missing n : ℕ)
        → let part : Part X = record { start = start; end = start + size; came = came } in
        jumped last (start + size) (closed ++ part ∷ []) (dropped + lost) (missing + missed) n
        ≡ jumped last start closed dropped missing (suc n)
    jumped-suc last start closed dropped missing n =
        let part : Part X = record { start = start; end = start + size; came = came } in
        same_books last (omega arith)
        (append_assoc closed (part ∷ []) (parts_again (start + size) size came n)) (omega arith) (omega arith)

    -- So many parts that close with the same marks.
    pub closed_again : BringAgain → (n start : ℕ) (closed : List (Part X)) (dropped missing : ℕ)
        → books_from drops (books_at start [] closed dropped missing)
        (flat_map (λ at. marks ++ (Ends at ∷ [])) (ends_from (start + size) size n))
        ≡ jumped [] start closed dropped missing n
    closed_again bring zero start closed dropped missing = jumped-zero [] start closed dropped missing
    closed_again bring (suc n) start closed dropped missing =
        let books : Books X = books_at start [] closed dropped missing in
        let at = start + size in
        let part : Part X = record { start = start; end = at; came = came } in
        let later = flat_map (λ at. marks ++ (Ends at ∷ [])) (ends_from (at + size) size n) in
        books-append drops books (marks ++ (Ends at ∷ [])) later
        ∙ ap (λ b. books_from drops b later)
        (books-append drops books marks (Ends at ∷ [])
        ∙ ap (λ b. after drops b (Ends at)) (bring start closed dropped missing))
        ∙ closed_again bring n at (closed ++ part ∷ []) (dropped + lost) (missing + missed)
        ∙ jumped-suc [] start closed dropped missing n

    -- So many parts that open with the same marks, after one in which the same came.
    pub opened_again : BringAgain → (n start : ℕ) (closed : List (Part X)) (dropped missing : ℕ)
        → books_from drops (books_at start came closed dropped missing)
        (flat_map (λ at. Ends at ∷ marks) (ends_from (start + size) size n))
        ≡ jumped came start closed dropped missing n
    opened_again bring zero start closed dropped missing = jumped-zero came start closed dropped missing
    opened_again bring (suc n) start closed dropped missing =
        let at = start + size in
        let part : Part X = record { start = start; end = at; came = came } in
        let later = flat_map (λ at. Ends at ∷ marks) (ends_from (at + size) size n) in
        books-append drops (books_at at [] (closed ++ part ∷ []) dropped missing) marks later
        ∙ ap (λ b. books_from drops b later) (bring at (closed ++ part ∷ []) dropped missing)
        ∙ opened_again bring n at (closed ++ part ∷ []) (dropped + lost) (missing + missed)
        ∙ jumped-suc came start closed dropped missing n

-- a missing snapshot is one in each part
pub missed_again : {X : Type 0} (drops : List X → X → ℕ) → BringAgain drops (Missed ∷ []) [] 0 1
missed_again drops start closed dropped missing = same_books [] refl refl (omega arith) refl

-- several arrivals come again in each part, and those of them that are dropped are dropped again
pub came_again : {K C R : Type 0} (kind : Kind (K × C) K C R) (bound : ℕ)
    (exact : (one other : K) → Decides (kind.same one other) (one ≡ other))
    (keys : (came : List (K × C)) → kind.keys came ≡ map arrival_key came) (arrivals : List (K × C))
    → BringAgain (drops kind bound) (map Came arrivals) arrivals (dropped_of kind bound arrivals) 0
came_again {K} {C} kind bound exact keys arrivals start closed dropped missing =
    let books : Books (K × C) = books_at start [] closed dropped missing in
    let new : Books (K × C) = books_from (drops kind bound) books (map Came arrivals) in
    let have = have_come kind bound exact keys books arrivals in
    let counted = have.counted in
    ap (λ came. books_at new.start came new.closed new.dropped new.missing) have.came
    ∙ same_books arrivals have.start have.closed (omega (arith, counted)) (have.missing ∙ omega arith)
