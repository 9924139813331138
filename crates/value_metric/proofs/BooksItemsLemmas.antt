-- For the builds of books and of a producer of pushed values: each is saved as its parts.
use Rattle.std.proofs.Common.{◌≡◌, ℕ, Bool, List, Some, None, Err, refl, sym, ap, ◌∙◌}
use Rattle.std.specs.Option.{option_map}
use Rattle.std.specs.Global.{Global}
use Rattle.config_types.specs.declared.metric.Aggregation.{Aggregation}
use Rattle.flat_form.specs.declared.item.Item.{Item}
use Rattle.flat_form.specs.declared.flat_error.FlatError.{FlatError}
use Rattle.flat_form.specs.declared.flat_error.FlatError.TheVariants.{Bad}
use Rattle.flat_form.specs.Flat.{Anything, IsValidPair, IsBuilt, Builds, number_items, key_items, pair_items}
use Rattle.flat_form.proofs.FlatLaws as laws
use Rattle.dim_table.specs.TableItems.{table_items, IsTable}
use Rattle.kept_rows.specs.KeptItems.{kept_items, IsKeeping}
use Rattle.value_metric.specs.declared.value_books.ValueBooks.{ValueBooks}
use Rattle.value_metric.specs.ChoiceNumbers.{aggregation_number, aggregation_by, asked_number, asked_of_number}
use Rattle.value_metric.specs.Totals.{row_weighs}
use Rattle.value_metric.specs.BooksItems.{total_items, IsTotal, value_row_items, IsValueRow, books_items, AreValueBooks, BooksForm, books_of_form, pushed_value_items, IsPushedValue}
use Rattle.value_metric.proofs.ChoiceNumbersLemmas.{aggregation_back, aggregation_is, flag_back, flag_is, and_then_some, map_some}
use Rattle.value_metric.proofs.FormLemmas.{form_found, form_strange}

-- the items of the parts of books
abbrev pub books_form_items : BooksForm → List Item
books_form_items = pair_items number_items (pair_items number_items (pair_items number_items (pair_items number_items
    (pair_items (table_items key_items total_items) (kept_items value_row_items)))))

-- any four numbers, a table, and kept rows
abbrev pub IsBooksForm : BooksForm → Type 0
IsBooksForm = IsValidPair Anything (IsValidPair Anything (IsValidPair Anything (IsValidPair Anything
    (IsValidPair (IsTable Anything IsTotal) (IsKeeping row_weighs IsValueRow)))))

-- the parts of books
abbrev form_of : ValueBooks → BooksForm
form_of it =
    (it.start, (aggregation_number it.aggregation, (asked_number it.hides_zeros, (it.missing, (it.table, it.kept)))))

-- they are valid where the books are
form_valid : (it : ValueBooks) → AreValueBooks it → IsBooksForm (form_of it)
form_valid it is = (tt, (tt, (tt, (tt, (is.table, is.kept)))))

-- and the other way
valid_back : (it : ValueBooks) → IsBooksForm (form_of it) → AreValueBooks it
valid_back it is = record { table = is.1.1.1.1.0; kept = is.1.1.1.1.1 }

-- the books with this aggregation and these zeros, of some parts
abbrev books_with : Global → BooksForm → Aggregation → Bool → ValueBooks
books_with alloc form aggregation hides_zeros = record {
  start = form.0;
  aggregation = aggregation;
  hides_zeros = hides_zeros;
  table = form.1.1.1.1.0;
  kept = form.1.1.1.1.1;
  missing = form.1.1.1.0;
  alloc = alloc;
}

module _ (alloc : Global) where
  -- the parts of books lead back to them
  leads_back : (it : ValueBooks) → books_of_form alloc (form_of it) ≡ Some it
  leads_back it = rw (aggregation_back it.aggregation, flag_back it.hides_zeros) refl

  -- the books of some parts have these parts
  is_form : (form : BooksForm) (it : ValueBooks) → books_of_form alloc form ≡ Some it → form_of it ≡ form
  is_form form it is =
      let one = and_then_some
      (λ aggregation. option_map (books_with alloc form aggregation) (asked_of_number form.1.1.0))
      (aggregation_by form.1.0) it is in
      let two = map_some (books_with alloc form one.0) (asked_of_number form.1.1.0) it one.2 in
      ap form_of (sym two.2)
      ∙ ap (λ n. (form.0, (n, (asked_number two.0, form.1.1.1)))) (aggregation_is form.1.0 one.0 one.1)
      ∙ ap (λ n. (form.0, (form.1.0, (n, form.1.1.1)))) (flag_is form.1.1.0 two.0 two.1)

  module _ (items : List Item) (place : ℕ) (form : BooksForm) (next : ℕ)
      (one : IsBuilt IsBooksForm books_form_items items place form next) where
    -- the books of the parts that stand there
    pub books_built : (it : ValueBooks) → books_of_form alloc form ≡ Some it
        → IsBuilt AreValueBooks books_items items place it next
    books_built = form_found IsBooksForm books_form_items AreValueBooks books_items form_of (books_of_form alloc)
        (λ it. refl) form_valid valid_back leads_back is_form items place form next one

    -- the parts that stand there are those of no books
    pub books_none : books_of_form alloc form ≡ None → Builds AreValueBooks books_items items place (Err Bad)
    books_none = form_strange IsBooksForm books_form_items AreValueBooks books_items form_of (books_of_form alloc)
        (λ it. refl) form_valid valid_back leads_back is_form items place form next one

-- no such parts stand there, so no books do
pub books_fails : (items : List Item) (place : ℕ) (e : FlatError)
    → Builds IsBooksForm books_form_items items place (Err e) → Builds AreValueBooks books_items items place (Err e)
books_fails items place e fails = laws.form_fails IsBooksForm books_form_items AreValueBooks books_items form_of
    (λ it. refl) form_valid items place e fails

-- no books stand there, so no producer of pushed values does
pub pushed_value_fails : (items : List Item) (place : ℕ) (e : FlatError)
    → Builds AreValueBooks books_items items place (Err e) → Builds IsPushedValue pushed_value_items items place (Err e)
pushed_value_fails items place e fails = laws.form_fails AreValueBooks books_items IsPushedValue pushed_value_items
    (λ it. it.books) (λ it. refl) (λ it is. is) items place e fails

-- the producer of the books that stand there
pub pushed_value_built : (items : List Item) (place : ℕ) (books : ValueBooks) (next : ℕ)
    → IsBuilt AreValueBooks books_items items place books next
    → IsBuilt IsPushedValue pushed_value_items items place (record { books = books }) next
pushed_value_built items place books next one = record {
  is_valid = one.is_valid;
  stands = one.stands;
  ends = one.ends;
  only = λ other ok there. ap (λ (b : ValueBooks). record { books = b }) (one.only other.books ok there);
}
