-- What the private steps of a producer of pulled values do: for private clauses.
use Rattle.std.specs.Prelude.{◌≡◌, ℕ, ℤ, ◌+◌, ◌*◌, ◌<◌, List, [], ◌∷◌, ◌++◌, Option}
use Rattle.std.specs.List.{flat_map}
use Rattle.atom_record.specs.declared.value.MetricKey.{MetricKey}
use Rattle.bucket_meaning.specs.Ends.{ends_from}
use Rattle.bucket_meaning.specs.Limits.{time_limit}
use Rattle.bucket_meaning.specs.Marks.{Mark, Ends, Books, books_from}
use Rattle.bucket_meaning.specs.Rows.{drops}
use Rattle.metric_kinds.specs.Diffs.{KeyedInts}
use Rattle.value_metric.specs.declared.pulled_value.Open.{Open}
use Rattle.value_metric.specs.declared.pulled_value.Open.TheVariants.{Nothing, AtLast, Earlier}
use Rattle.value_metric.specs.declared.pulled_value.PulledValue.{PulledValue}
use Rattle.value_metric.specs.declared.value_books.ValueBooks.{ValueBooks}
use Rattle.value_metric.specs.ValueBooksStand.{ValueForm, form_kind, HoldsBooks, TakesValueMarks}
use Rattle.value_metric.specs.Sums.{opened_marks}
use Rattle.value_metric.specs.PulledStands.{begun_sums}

-- an interval that is open begins anew with the last snapshot
abbrev pub opened_again : Open → Open
opened_again Nothing = Nothing
opened_again AtLast = AtLast
opened_again (Earlier sums) = AtLast

-- an interval that began at the last snapshot began at an earlier one, with these sums, once another is the last
abbrev pub opened_before : Option KeyedInts → Open → Open
opened_before last Nothing = Nothing
opened_before last AtLast = Earlier last
opened_before last (Earlier sums) = Earlier sums

-- a true condition opens an interval where none is open
abbrev pub opened_by : Open → Open
opened_by Nothing = AtLast
opened_by AtLast = AtLast
opened_by (Earlier sums) = Earlier sums

-- what the open interval of a producer gives where it ends now
abbrev pub ending_marks : PulledValue → List (Mark (MetricKey × ℤ))
ending_marks it = opened_marks it.spec (begun_sums it.interval it.last) it.last

-- the part is closed after what its open interval gives, and the next begins with the last snapshot
pub record ClosesPulled (old new : PulledValue) (end : ℕ) : Type 0 where
  pub others : new ≡ record old { books = new.books; interval = opened_again old.interval }
  pub marks : TakesValueMarks old.books new.books (ending_marks old ++ (Ends end ∷ []))

-- the marks of so many ends of buckets, before each of which the same comes
abbrev pub marks_again : List (Mark (MetricKey × ℤ)) → ℕ → ℕ → ℕ → List (Mark (MetricKey × ℤ))
marks_again marks size first number = flat_map (λ at. marks ++ (Ends at ∷ [])) (ends_from first size number)

-- whatever books the old object holds of a part in which nothing came yet, the new one holds those after so many full
-- buckets, in each of which the same comes
abbrev pub TakesAgain : ValueBooks → ValueBooks → List (Mark (MetricKey × ℤ)) → ℕ → ℕ → Type 0
TakesAgain old new marks size number =
    (form : ValueForm) (books : Books (MetricKey × ℤ)) → books.came ≡ [] → books.start + number * size < time_limit
    → HoldsBooks old form books
    → HoldsBooks new form
    (books_from (drops (form_kind form) form.bound) books (marks_again marks size (books.start + size) number))

-- so many full buckets are closed, in each of which the same interval begins and ends
pub record Jumps (old new : PulledValue) (size number : ℕ) : Type 0 where
  pub others : new ≡ record old { books = new.books }
  pub marks : TakesAgain old.books new.books (ending_marks old) size number
