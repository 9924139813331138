-- The items of a book: those of the table of its ids, each with those of the table of its states. A reset leaves no
-- trace in them but the states that it made unknown.
use Rattle.std.specs.Prelude.{◌≡◌, ℕ, ℤ, ◌<◌, ◌≤◌, ◌^◌, List, [], ◌∷◌, length, All, FitsSigned}
use Rattle.std.specs.Int.{w32, cast_unsigned}
use Rattle.atom_record.specs.declared.value.Leaf.{Leaf}
use Rattle.flat_form.specs.declared.item.Item.{Item}
use Rattle.flat_form.specs.declared.item.Item.TheVariants.{Num}
use Rattle.flat_form.specs.Flat.{Anything, IsValidPair, number_items, dims_items, pair_items}
use Rattle.flat_form.specs.Savable.{AreSavable, AreShortLeaves}
use Rattle.flat_form.specs.SavableLaws.{items_savable, none_savable, number_savable, dims_savable}
use Rattle.flat_form.specs.Weight.{most_items}
use Rattle.dim_table.specs.Table.{Table}
use Rattle.dim_table.specs.TableItems.{table_items, IsTable, table_entries, table_bounded, table_few, table_savable}
use Rattle.book_meaning.specs.BookLimits.{most_state_ids, most_state_keys}

-- a state is the number of its 32 bits
abbrev pub state_items : ℤ → List Item
state_items state = Num (cast_unsigned w32 state) ∷ []

-- a number of 32 bits may be a state
abbrev pub FitsState : ℤ → Type 0
FitsState state = FitsSigned w32 state

-- a row of the states of an id: a key and its state
abbrev pub state_row_items : List Leaf × ℤ → List Item
state_row_items = pair_items dims_items state_items

-- any key may have a state
abbrev pub IsStateRow : List Leaf × ℤ → Type 0
IsStateRow = IsValidPair Anything FitsState

-- the states of an id are the table of the states by key
abbrev pub states_items : Table (List Leaf) ℤ → List Item
states_items = table_items dims_items state_items

-- this table may be the states of an id
pub record AreStates (states : Table (List Leaf) ℤ) : Type 0 where
  pub bound : states.bound ≡ most_state_keys
  pub is_table : IsTable Anything FitsState states

-- an entry for each key
abbrev pub states_entries : Table (List Leaf) ℤ → ℕ
states_entries = table_entries dims_items state_items

-- the states of an id are a head of three items, and eight at most for each entry
pub states_bounded : (states : Table (List Leaf) ℤ) → AreStates states
    → length (states_items states) ≤ most_items 3 (states_entries states)
states_bounded states valid = table_bounded dims_items state_items Anything FitsState states valid.is_table

-- an entry is an item at least
pub states_few : (states : Table (List Leaf) ℤ) → states_entries states ≤ length (states_items states)
states_few states = table_few dims_items state_items states

-- the keys of an id can be spelled
abbrev pub HaveShortKeys : Table (List Leaf) ℤ → Type 0
HaveShortKeys states = All (IsValidPair AreShortLeaves Anything) states.rows

-- a state can be spelled
state_savable : (state : ℤ) → FitsState state → Anything state → AreSavable (state_items state)
state_savable state valid any = items_savable (Num (cast_unsigned w32 state)) [] tt none_savable

-- so can the items of the states of an id, where its keys can
pub states_savable : (states : Table (List Leaf) ℤ) → AreStates states → HaveShortKeys states
    → AreSavable (states_items states)
states_savable states valid short =
    table_savable dims_items state_items Anything FitsState AreShortLeaves Anything dims_savable state_savable states
    valid.is_table short

-- a book is the table of the states of its ids
abbrev pub state_book_items : Table ℕ (Table (List Leaf) ℤ) → List Item
state_book_items = table_items number_items states_items

-- the id of a row is one of 32 bits
abbrev pub HasNarrowId : ℕ × Table (List Leaf) ℤ → Type 0
HasNarrowId row = row.0 < 2 ^ 32

-- the table of a book: it has room for the ids of a book, each of 32 bits
pub record IsStateTable (table : Table ℕ (Table (List Leaf) ℤ)) : Type 0 where
  pub bound : table.bound ≡ most_state_ids
  pub ids_fit : All HasNarrowId table.rows

-- this table may be a book
pub record IsStateBook (book : Table ℕ (Table (List Leaf) ℤ)) : Type 0 where
  pub is_state_table : IsStateTable book
  pub is_table : IsTable Anything AreStates book

-- an entry for each eight items of an id that are begun
abbrev pub state_book_entries : Table ℕ (Table (List Leaf) ℤ) → ℕ
state_book_entries = table_entries number_items states_items

-- a book is a head of three items, and eight at most for each entry
pub state_book_bounded : (book : Table ℕ (Table (List Leaf) ℤ)) → IsStateBook book
    → length (state_book_items book) ≤ most_items 3 (state_book_entries book)
state_book_bounded book valid = table_bounded number_items states_items Anything AreStates book valid.is_table

-- an entry is an item at least
pub state_book_few : (book : Table ℕ (Table (List Leaf) ℤ)) → state_book_entries book ≤ length (state_book_items book)
state_book_few book = table_few number_items states_items book

-- the keys of each id can be spelled
abbrev pub HasShortKeys : Table ℕ (Table (List Leaf) ℤ) → Type 0
HasShortKeys book = All (IsValidPair Anything HaveShortKeys) book.rows

-- so can the items of a book, where its keys can
pub state_book_savable : (book : Table ℕ (Table (List Leaf) ℤ)) → IsStateBook book → HasShortKeys book
    → AreSavable (state_book_items book)
state_book_savable book valid short =
    table_savable number_items states_items Anything AreStates Anything HaveShortKeys number_savable states_savable book
    valid.is_table short
