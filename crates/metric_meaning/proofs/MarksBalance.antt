-- What marks without a report among them make of books: all that comes is in their parts, and what is dropped is
-- counted.
use Rattle.std.proofs.Common.{◌≡◌, ℕ, ◌+◌, List, [], ◌∷◌, ◌++◌, sym, ap, ◌∙◌, arith, append_assoc}
use Rattle.std.specs.List.{flat_map, sum_by}
use Rattle.std.proofs.lemmas.List.{append-nil}
use Rattle.std.proofs.lemmas.List.Concat.{flat_map-append}
use Rattle.std.proofs.lemmas.List.Sums.{sum_by-cons, sum_by_push}
use Rattle.bucket_meaning.specs.Marks.{Mark, Ends, Came, Lost, Missed, Asked, Part, Books, after, books_from}
use Rattle.metric_meaning.specs.Balance.{arrived_by, part_until}

-- what comes with these marks
abbrev pub arrived_by_all : {X : Type 0} → List (Mark X) → List X
arrived_by_all marks = flat_map arrived_by marks

-- how many reports a mark is
abbrev pub asks : {X : Type 0} → Mark X → ℕ
asks (Ends at) = 0
asks (Came what) = 0
asks Lost = 0
asks Missed = 0
asks Asked = 1

-- no report is among these marks
abbrev pub HasNoReport : {X : Type 0} → List (Mark X) → Type 0
HasNoReport marks = sum_by asks marks ≡ 0

-- how many keys a table of the metric's own turned away with a mark
abbrev pub lost_at : {X : Type 0} → Mark X → ℕ
lost_at (Ends at) = 0
lost_at (Came what) = 0
lost_at Lost = 1
lost_at Missed = 0
lost_at Asked = 0

-- what came in all parts of some books, the open one among them
abbrev pub all_that_came : {X : Type 0} → Books X → List X
all_that_came {X} books = flat_map (λ (part : Part X). part.came) books.closed ++ books.came

module _ {X : Type 0} (drops : List X → X → ℕ) where
  -- what one mark adds
  one_comes : (books : Books X) (mark : Mark X) → asks mark ≡ 0
      → all_that_came (after drops books mark) ≡ all_that_came books ++ arrived_by mark
  one_comes books (Ends at) quiet =
      append-nil (flat_map (λ (part : Part X). part.came) (books.closed ++ part_until books at ∷ []))
      ∙ flat_map-append (λ (part : Part X). part.came) books.closed (part_until books at ∷ [])
      ∙ ap (λ l. flat_map (λ (part : Part X). part.came) books.closed ++ l) (append-nil books.came)
      ∙ sym (append-nil (all_that_came books))
  one_comes books (Came what) quiet =
      sym (append_assoc (flat_map (λ (part : Part X). part.came) books.closed) books.came (what ∷ []))
  one_comes books Lost quiet = sym (append-nil (all_that_came books))
  one_comes books Missed quiet = sym (append-nil (all_that_came books))
  one_comes books Asked quiet = absurd (omega (arith, quiet))

  -- What marks add to all that came.
  pub marks_come : (books : Books X) (marks : List (Mark X)) → HasNoReport marks
      → all_that_came (books_from drops books marks) ≡ all_that_came books ++ arrived_by_all marks
  marks_come books [] quiet = sym (append-nil (all_that_came books))
  marks_come books (mark ∷ marks) quiet =
      let both = sum_by-cons asks mark marks in
      marks_come (after drops books mark) marks (omega (arith, both, quiet))
      ∙ ap (λ l. l ++ arrived_by_all marks) (one_comes books mark (omega (arith, both, quiet)))
      ∙ append_assoc (all_that_came books) (arrived_by mark) (arrived_by_all marks)

  module _ (held : List X → ℕ) (nothing : held [] ≡ 0)
      (counts : (came : List X) (what : X) → held came + drops came what ≡ held (came ++ what ∷ [])) where
    -- what is dropped of all parts, the open one among them
    abbrev pub dropped_in_all : Books X → ℕ
    dropped_in_all books = sum_by (λ (part : Part X). held part.came) books.closed + held books.came

    -- what one mark drops
    one_drops : (books : Books X) (mark : Mark X) → asks mark ≡ 0
        → (after drops books mark).dropped + dropped_in_all books
        ≡ books.dropped + dropped_in_all (after drops books mark) + lost_at mark
    one_drops books (Ends at) quiet =
        omega (arith, nothing, sum_by_push (λ (part : Part X). held part.came) books.closed (part_until books at))
    one_drops books (Came what) quiet = omega (arith, counts books.came what)
    one_drops books Lost quiet = omega arith
    one_drops books Missed quiet = omega arith
    one_drops books Asked quiet = absurd (omega (arith, quiet))

    -- What marks drop is counted.
    pub marks_drop : (books : Books X) (marks : List (Mark X)) → HasNoReport marks
        → (books_from drops books marks).dropped + dropped_in_all books
        ≡ books.dropped + dropped_in_all (books_from drops books marks) + sum_by lost_at marks
    marks_drop books [] quiet = omega arith
    marks_drop books (mark ∷ marks) quiet =
        let both = sum_by-cons asks mark marks in
        let lost = sum_by-cons lost_at mark marks in
        let one = one_drops books mark (omega (arith, both, quiet)) in
        let rest = marks_drop (after drops books mark) marks (omega (arith, both, quiet)) in
        omega (arith, lost, one, rest)
