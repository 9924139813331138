-- For `save`, and for callers that know their rows: how many bytes values take.
use Rattle.std.proofs.Common.{◌≡◌, ℕ, ◌≤◌, List, [], ◌∷◌, length, Result, Ok, Err, IfOk, ap, ◌∙◌, arith}
use Rattle.std.proofs.lemmas.List.Sums.{sum_by-cons}
use Rattle.flat_form.specs.declared.item.Item.{Item}
use Rattle.flat_form.specs.ItemSpelling.{spelled_items}
use Rattle.flat_form.specs.Weight.{most_items, most_bytes, entries_for, list_entries}
use Rattle.flat_form.specs.Bounded.{bytes_bounded}

-- what is saved has no more bytes than its head, its entries and what it holds allow
pub saved_size : {E : Type 0} (items flat : List Item) (head entries : ℕ)
    → items ≡ flat
    → length flat ≤ most_items head entries
    → (saved : Result (List ℕ) E)
    → IfOk saved (λ bytes. bytes ≡ spelled_items items)
    → IfOk saved (λ bytes. length bytes ≤ most_bytes head entries flat)
saved_size items flat head entries are few (Ok bytes) is =
    let size : length bytes ≡ length (spelled_items flat) = ap length (is ∙ ap spelled_items are) in
    let most = bytes_bounded flat head entries few in
    omega (arith, size, most)
saved_size items flat head entries are few (Err e) is = tt

-- an entry for each element of one to eight items
pub one_each : {X : Type 0} (flat : X → List Item) (xs : List X)
    → ((x : X) → 1 ≤ length (flat x))
    → ((x : X) → length (flat x) ≤ 8)
    → list_entries flat xs ≡ length xs
one_each flat [] least most = omega arith
one_each flat (x ∷ xs) least most =
    let rest = one_each flat xs least most in
    let low = least x in
    let high = most x in
    let one : entries_for (length (flat x)) ≡ 1 = omega (arith, low, high) in
    let sum = sum_by-cons (λ value. entries_for (length (flat value))) x xs in
    omega (arith, rest, one, sum)
