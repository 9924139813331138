-- The items of a watch, added part by part.
use Rattle.std.proofs.Common.{◌≡◌, ℕ, List, [], ◌∷◌, ◌++◌, length, All, refl, sym, ap, subst, ◌∙◌, append_assoc}
use Rattle.std.specs.List.{flat_map}
use Rattle.std.proofs.lemmas.List.{length-map}
use Rattle.std.proofs.lemmas.List.Elements.{All-nil, All-cons, All-head, All-tail}
use Rattle.flat_form.specs.declared.item.Item.{Item}
use Rattle.flat_form.specs.declared.item.Item.TheVariants.{Num}
use Rattle.flat_form.specs.Flat.{number_items, list_items}
use Rattle.alert_watch.specs.Watches.{KeyCounts, WatchContents, IsPartTable, IsWatch}
use Rattle.alert_watch.specs.WatchItems.{window_part_items, window_rows, FitsPartTable, IsWholeWatch}

-- two parts, one after the other
pub adds_both : (old middle new x y : List Item) → middle ≡ old ++ x → new ≡ middle ++ y → new ≡ old ++ (x ++ y)
adds_both old middle new x y first second = second ∙ ap (λ l. l ++ y) first ∙ append_assoc old x y

-- the items of a table, where it is one of several
abbrev pub table_part : KeyCounts → List Item
table_part table = window_part_items table.rows

-- the parts of a window are those of its tables
parts_flat : (tables : List KeyCounts) → flat_map table_part tables ≡ flat_map window_part_items (window_rows tables)
parts_flat [] = refl
parts_flat (table ∷ tables) = ap (λ l. table_part table ++ l) (parts_flat tables)

-- a window is the number of its tables, and their parts
pub window_added : (tables : List KeyCounts) (old middle new : List Item) (n : ℕ) → n ≡ length tables
    → middle ≡ old ++ number_items n → new ≡ middle ++ flat_map table_part tables
    → new ≡ old ++ list_items window_part_items (window_rows tables)
window_added tables old middle new n counted first second =
    adds_both old middle new (number_items n) (flat_map table_part tables) first second
    ∙ ap (λ l. old ++ (Num n ∷ l)) (parts_flat tables)
    ∙ ap (λ m. old ++ (Num m ∷ flat_map window_part_items (window_rows tables)))
    (counted ∙ sym (length-map tables (λ (table : KeyCounts). table.rows)))

-- the rows of tables with one bound
rows_fit : (bound : ℕ) (tables : List KeyCounts) → All (IsPartTable bound) tables
    → All (λ (table : KeyCounts). FitsPartTable table.bound table.rows) tables
    → All (FitsPartTable bound) (window_rows tables)
rows_fit bound [] are fit = All-nil (FitsPartTable bound)
rows_fit bound (table ∷ tables) are fit =
    All-cons (FitsPartTable bound) table.rows (window_rows tables)
    (subst (λ n. FitsPartTable n table.rows) (All-head (IsPartTable bound) table tables are).has_bound
    (All-head (λ (one : KeyCounts). FitsPartTable one.bound one.rows) table tables fit))
    (rows_fit bound tables (All-tail (IsPartTable bound) table tables are)
    (All-tail (λ (one : KeyCounts). FitsPartTable one.bound one.rows) table tables fit))

-- a watch whose tables are such is whole
pub is_whole : (watch : WatchContents) → IsWatch watch
    → All (λ (table : KeyCounts). FitsPartTable table.bound table.rows) watch.tables → IsWholeWatch watch
is_whole watch is fit = record { is_watch = is; rows = rows_fit watch.spec.bound watch.tables is.tables fit }
