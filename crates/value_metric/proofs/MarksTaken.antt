-- Marks taken one after the other, of the rows or differences of a list up to a place.
use Rattle.std.proofs.Common.{◌≡◌, ℕ, ℤ, ◌+◌, ◌≤◌, List, [], ◌∷◌, ◌++◌, map, length, take, Some, slice_get, sym, ap, subst, ◌∙◌, append-nil}
use Rattle.std.specs.List.{flat_map}
use Rattle.std.proofs.lemmas.Grind.{flat_map-append}
use Rattle.std.proofs.lemmas.List.{map-append, take_more, take_all}
use Rattle.std.proofs.lemmas.Option.{slice_get_within, get_or_from_slice_get}
use Rattle.atom_record.specs.declared.value.MetricKey.{MetricKey}
use Rattle.bucket_meaning.specs.Marks.{Mark, Came, books_from}
use Rattle.bucket_meaning.specs.Rows.{drops}
use Rattle.bucket_meaning.proofs.MarksLemmas.{books-append}
use Rattle.value_metric.specs.declared.value_books.ValueBooks.{ValueBooks}
use Rattle.value_metric.specs.ValueBooksStand.{form_kind, HoldsBooks, TakesValueMarks}

-- marks and more marks
pub takes-append : (old mid new : ValueBooks) (marks more : List (Mark (MetricKey × ℤ)))
    → TakesValueMarks old mid marks → TakesValueMarks mid new more → TakesValueMarks old new (marks ++ more)
takes-append old mid new marks more first second form books has =
    subst (HoldsBooks new form) (sym (books-append (drops (form_kind form) form.bound) books marks more))
    (second form (books_from (drops (form_kind form) form.bound) books marks) (first form books has))

-- what one item more of a list gives
pub given_more : {X Y : Type 0} (gives : X → List Y) (xs : List X) (place : ℕ) (x : X) → slice_get xs place ≡ Some x
    → flat_map gives (take (place + 1) xs) ≡ flat_map gives (take place xs) ++ gives x
given_more gives xs place x at =
    let is : take (place + 1) xs ≡ take place xs ++ x ∷ [] =
    take_more xs place x (slice_get_within xs place x at)
    ∙ ap (λ r. take place xs ++ r ∷ []) (get_or_from_slice_get xs place x x at) in
    ap (flat_map gives) is ∙ flat_map-append gives (take place xs) (x ∷ [])
    ∙ ap (λ l. flat_map gives (take place xs) ++ l) (append-nil (gives x))

-- and what all items give
pub given_all : {X Y : Type 0} (gives : X → List Y) (xs : List X) (place : ℕ) → length xs ≤ place
    → flat_map gives (take place xs) ≡ flat_map gives xs
given_all gives xs place end = ap (flat_map gives) (take_all place xs end)

-- one item more came
pub comes_more : {X : Type 0} (gives : X → List (MetricKey × ℤ)) (xs : List X) (place : ℕ) (x : X)
    (old mid new : ValueBooks) → slice_get xs place ≡ Some x
    → TakesValueMarks old mid (map Came (flat_map gives (take place xs))) → TakesValueMarks mid new (map Came (gives x))
    → TakesValueMarks old new (map Came (flat_map gives (take (place + 1) xs)))
comes_more gives xs place x old mid new at before one =
    subst (TakesValueMarks old new)
    (sym (map-append Came (flat_map gives (take place xs)) (gives x))
    ∙ ap (map Came) (sym (given_more gives xs place x at)))
    (takes-append old mid new (map Came (flat_map gives (take place xs))) (map Came (gives x)) before one)

-- all came
pub comes_all : {X : Type 0} (gives : X → List (MetricKey × ℤ)) (xs : List X) (place : ℕ) (old new : ValueBooks)
    → length xs ≤ place → TakesValueMarks old new (map Came (flat_map gives (take place xs)))
    → TakesValueMarks old new (map Came (flat_map gives xs))
comes_all gives xs place old new end came =
    subst (λ arrivals. TakesValueMarks old new (map Came arrivals)) (given_all gives xs place end) came
