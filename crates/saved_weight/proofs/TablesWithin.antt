-- What predicates know, the books of activations, and the books of the log take no more bytes than they weigh.
use Rattle.std.proofs.Common.{◌≡◌, ℕ, ℤ, ◌+◌, ◌*◌, ◌≤◌, List, [], ◌∷◌, length, ap, ◌∙◌, arith}
use Rattle.std.specs.List.{sum_by}
use Rattle.std.proofs.lemmas.List.Sums.{sum_by-cons}
use Rattle.atom_record.specs.AtomSpelling.{payload_of}
use Rattle.atom_record.specs.declared.atom.Atom.{Atom}
use Rattle.atom_record.specs.declared.log.LogFrame.{LogFrame}
use Rattle.atom_record.specs.declared.log.PullOutcome.{PullOutcome}
use Rattle.atom_record.specs.declared.log.PullOutcome.TheVariants.{Failed, Atoms}
use Rattle.atom_record.specs.declared.value.Leaf.{Leaf}
use Rattle.book_meaning.specs.Snapshots.{outcomes_of}
use Rattle.book_meaning.specs.States.{state_atom_ids, first_keys, last_state}
use Rattle.dim_table.specs.Table.{Table}
use Rattle.dim_table.specs.TableItems.{table_items}
use Rattle.flat_form.specs.Bounded.{item_bounded}
use Rattle.flat_form.specs.Flat.{number_items, dims_items, pair_items, list_items}
use Rattle.flat_form.specs.declared.item.Item.{Item}
use Rattle.flat_form.specs.declared.item.Item.TheVariants.{Num, AtomItem, Chunk}
use Rattle.metric_activation.specs.BookItems.{timer_items, act_book_items}
use Rattle.metric_activation.specs.declared.timer.Timer.{Timer}
use Rattle.predicate_state.specs.PredicateItems.{flag_number, key_table, predicate_items}
use Rattle.predicate_state.specs.PredicateTable.{LeafKey, PredicateTable}
use Rattle.pull_book.specs.PullBooks.{PullBookStandsFor}
use Rattle.pull_book.specs.PullItems.{payload_items, outcome_items, book_table, book_items}
use Rattle.saved_weight.proofs.SizeLaws.{full_size, full-cons, full-number, full-append, full-list, full-one, full-dims, full-table, sum_by-map, each_within}
use Rattle.saved_weight.specs.BookWeights.{state_id_weight, states_weight, outcome_weight, pulls_weight}
use Rattle.saved_weight.specs.Entries.{entry_size, leaves_entry, atom_entry}
use Rattle.saved_weight.specs.HistoryWeights.{table_weight}
use Rattle.state_slicer.specs.StateBooks.{states_of_id, StateBookStandsFor}
use Rattle.state_slicer.specs.StateItems.{state_items, state_row_items, states_items, state_book_items}

-- a key with its count is within an entry
key_within : (row : LeafKey × ℕ) → full_size (pair_items dims_items number_items row) ≤ leaves_entry row.0
key_within row =
    let both = full-append (dims_items row.0) (number_items row.1) in
    let one = full-dims row.0 in
    let other = full-one row.1 in
    omega (arith, both, one, other)

-- what a predicate knows takes seven numbers, and an entry for each of its keys
pub predicate_within : (table : PredicateTable) → full_size (predicate_items table) ≤ 63 + table_weight table
predicate_within table =
    let keys = full-table dims_items number_items (key_table table) in
    let each = each_within (λ row. full_size (pair_items dims_items number_items row))
    (λ (row : LeafKey × ℕ). leaves_entry row.0) table.state.counts key_within in
    let keys_items = table_items dims_items number_items (key_table table) in
    let three : List Item = Num (flag_number table.state.unknown) ∷ keys_items in
    let two : List Item = Num table.spec.leaves ∷ three in
    let one : List Item = Num (flag_number table.spec.unknown) ∷ two in
    let a = full-number (flag_number table.state.unknown) keys_items in
    let b = full-number table.spec.leaves three in
    let c = full-number (flag_number table.spec.unknown) two in
    let d = full-number (flag_number table.spec.nesting) one in
    omega (arith, keys, each, a, b, c, d)

-- so many timers, each two numbers
timers_size : (timers : List Timer) → sum_by (λ timer. full_size (timer_items timer)) timers ≡ 18 * length timers
timers_size [] = omega arith
timers_size (timer ∷ timers) =
    let rest = timers_size timers in
    let one = sum_by-cons (λ timer. full_size (timer_items timer)) timer timers in
    let here = full-number timer.ttl (Num timer.end ∷ []) in
    let end = full-one timer.end in
    omega (arith, rest, one, here, end)

-- a book of activations takes a number, and an entry for each of them
pub activations_within : (timers : List Timer) → full_size (act_book_items timers) ≤ 9 + entry_size * length timers
activations_within timers =
    let all = full-list timer_items timers in let each = timers_size timers in omega (arith, all, each)

-- a state with its key is within an entry
state_within : (row : List Leaf × ℤ) → full_size (state_row_items row) ≤ leaves_entry row.0
state_within row =
    let both = full-append (dims_items row.0) (state_items row.1) in
    let one = full-dims row.0 in
    let other : full_size (state_items row.1) ≡ 9 = omega arith in
    omega (arith, both, one, other)

-- the states of an id are within the entries of its keys
states_within : (log : List LogFrame) (id : ℕ)
    → full_size (pair_items number_items states_items (id, states_of_id id log)) ≤ state_id_weight log id
states_within log id =
    let states = states_of_id id log in
    let keys = first_keys id log in
    let row : List Leaf → List Leaf × ℤ = λ key. (key, last_state id key log) in
    let size : List Leaf × ℤ → ℕ = λ row. full_size (state_row_items row) in
    let all = full-table dims_items state_items states in
    let by_keys : sum_by size states.rows ≡ sum_by (λ key. size (row key)) keys = sum_by-map size row keys in
    let each = each_within (λ key. size (row key)) leaves_entry keys (λ key. state_within (row key)) in
    let both = full-append (number_items id) (states_items states) in
    let number = full-one id in
    omega (arith, all, by_keys, each, both, number)

-- a book of states takes three numbers, and what its ids weigh
pub state_book_within : (book : Table ℕ (Table (List Leaf) ℤ)) (log : List LogFrame) → StateBookStandsFor book log
    → full_size (state_book_items book) ≤ 27 + states_weight log
state_book_within book log stands =
    let ids = state_atom_ids log in
    let row : ℕ → ℕ × Table (List Leaf) ℤ = λ id. (id, states_of_id id log) in
    let size : ℕ × Table (List Leaf) ℤ → ℕ = λ row. full_size (pair_items number_items states_items row) in
    let all = full-table number_items states_items book in
    let by_ids : sum_by size book.rows ≡ sum_by (λ id. size (row id)) ids =
    ap (sum_by size) stands.ids ∙ sum_by-map size row ids in
    let each = each_within (λ id. size (row id)) (state_id_weight log) ids (states_within log) in
    omega (arith, all, by_ids, each)

-- a pulled atom takes no more than an entry
payload_within : (atom : Atom) → full_size (payload_items atom) ≤ atom_entry atom
payload_within atom =
    let spelled = item_bounded (AtomItem atom) in
    let all = full-cons (Chunk (payload_of atom)) [] in
    omega (arith, spelled, all)

-- an outcome of an id is within its entries
outcome_within : (id : ℕ) (outcome : PullOutcome)
    → full_size (pair_items number_items outcome_items (id, outcome)) ≤ outcome_weight (id, outcome)
outcome_within id Failed =
    let both = full-append (number_items id) (outcome_items Failed) in
    let one = full-one id in
    let other = full-one 0 in
    omega (arith, both, one, other)
outcome_within id (Atoms atoms) =
    let both = full-append (number_items id) (outcome_items (Atoms atoms)) in
    let one = full-one id in
    let head = full-number 1 (list_items payload_items atoms) in
    let list = full-list payload_items atoms in
    let each = each_within (λ atom. full_size (payload_items atom)) atom_entry atoms payload_within in
    omega (arith, both, one, head, list, each)

-- a book of pulls takes three numbers, and what its ids weigh
pub pull_book_within : (book : List (ℕ × PullOutcome)) (log : List LogFrame) → PullBookStandsFor book log
    → full_size (book_items book) ≤ 27 + pulls_weight log
pull_book_within book log stands =
    let size : ℕ × PullOutcome → ℕ = λ row. full_size (pair_items number_items outcome_items row) in
    let all = full-table number_items outcome_items (book_table book) in
    let same : sum_by size book ≡ sum_by size (outcomes_of log) = ap (sum_by size) stands.outcomes in
    let each = each_within size outcome_weight (outcomes_of log) (λ row. outcome_within row.0 row.1) in
    omega (arith, all, same, each)
