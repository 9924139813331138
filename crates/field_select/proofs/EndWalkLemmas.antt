-- Lemmas on specs/FieldEnds.antt: the walk to an end finds the first value that the leaf picks.
use Rattle.std.proofs.Common.{◌≡◌, ◌≢◌, ℕ, ◌≤◌, ◌==◌, nat_lt, cond, Bool, true, false, ◌&&◌, List, [], ◌∷◌, map, filter, drop, length, Option, Some, None, is_none, refl, sym, ap, ◌∙◌}
use Rattle.std.proofs.lemmas.Bool.{eqb-false, eqb-true, eq-eqb}
use Rattle.std.proofs.lemmas.List.{drop_all}
use Rattle.atom_record.specs.declared.value.Value.{Value}
use Rattle.atom_record.specs.declared.atom.AtomField.{AtomField}
use Rattle.field_select.specs.declared.ends.End.{End}
use Rattle.field_select.specs.declared.ends.End.TheVariants.{First, Last}
use Rattle.field_select.specs.declared.leaf.LeafPath.{LeafPath}
use Rattle.field_select.specs.LeafValues.{is_repeated_at, field_indexes, first_value, picks_index, picks_entry, picked_values}
use Rattle.field_select.specs.FieldEnds.{nearer_index, end_index, end_position, found_after, nearest_step, nearest_after}
use Rattle.field_select.proofs.EndLemmas.{nearer_none, none_nearer, nearer_moves, nearer_stays, nearer_leaves, end_of_none, end_moves_on}

-- whether an entry stands at this place
abbrev stands_at : ℕ → ℕ → ℕ → AtomField → Bool
stands_at field sub index entry = is_repeated_at field entry && (entry.sub == sub && entry.index == index)

-- the first value of some entries
abbrev first_of : List AtomField → Option Value
first_of entries = first_value (map (λ (entry : AtomField). entry.value) entries)

-- the first value at a place
abbrev first_at : ℕ → ℕ → ℕ → List AtomField → Option Value
first_at field sub index entries = first_of (filter (stands_at field sub index) entries)

-- what was found before, or else this
abbrev earlier_or : Option Value → Option Value → Option Value
earlier_or (Some value) later = Some value
earlier_or None later = later

earlier-none : (found : Option Value) → found ≡ earlier_or found None
earlier-none (Some value) = refl
earlier-none None = refl

-- what a walk finds: where the index so far is the nearest after all, what it had or finds there; else what stands at
-- the nearest
abbrev Walks : ℕ → ℕ → Option Value → Option Value → (ℕ → Option Value) → Type 0
Walks index nearest found result at = (nearest ≡ index → result ≡ earlier_or found (at index))
    × (nearest ≢ index → result ≡ at nearest)

differs_by : (test : Bool) (x y : ℕ) → (x == y) ≡ test → x ≢ y → test ≡ false
differs_by true x y is apart = absurd (apart (eqb-true x y is))
differs_by false x y is apart = refl

differs : (x y : ℕ) → x ≢ y → (x == y) ≡ false
differs x y apart = differs_by (x == y) x y refl apart ∙ refl

-- an entry at the nearest index so far comes after what was found there
kept_there : (at here : Bool) (found : Option Value) (entry : AtomField) (rest : List AtomField)
    → earlier_or (cond at (cond (here && is_none found) (Some entry.value) found) found) (first_of rest)
    ≡ earlier_or found (first_of (cond (here && at) (entry ∷ rest) rest))
kept_there true true (Some value) entry rest = refl
kept_there true true None entry rest = refl
kept_there true false (Some value) entry rest = refl
kept_there true false None entry rest = refl
kept_there false true found entry rest = refl
kept_there false false found entry rest = refl

-- an entry at another index isn't among those at this one
passed_over : (at here : Bool) (entry : AtomField) (rest : List AtomField) → at ≡ false
    → first_of rest ≡ first_of (cond (here && at) (entry ∷ rest) rest)
passed_over true here entry rest apart = cc
passed_over false true entry rest apart = refl
passed_over false false entry rest apart = refl

-- the first entry at a nearer index begins anew
begins_there : (at here : Bool) (entry : AtomField) (rest : List AtomField) → at ≡ true
    → earlier_or (cond (here && true) (Some entry.value) None) (first_of rest) ≡ first_of
    (cond (here && at) (entry ∷ rest) rest)
begins_there true true entry rest there = refl
begins_there true false entry rest there = refl
begins_there false here entry rest there = cc

-- a walk over the entries that are left, from each state
abbrev WalksFrom : End → LeafPath → List AtomField → Type 0
WalksFrom end leaf entries =
    (index : ℕ) (found : Option Value)
    → Walks index (nearer_index end index (end_index end (field_indexes leaf.field entries))) found
    (nearest_after end leaf (index, found) entries).1 (λ at. first_at leaf.field leaf.sub at entries)

-- what stands at an index, with an entry of the field before these
abbrev with_entry : LeafPath → AtomField → List AtomField → ℕ → Option Value
with_entry leaf entry more at =
    first_of (cond (entry.sub == leaf.sub && entry.index == at) (entry ∷ filter (stands_at leaf.field leaf.sub at) more)
    (filter (stands_at leaf.field leaf.sub at) more))

-- one step at an entry of the field: its index isn't nearer than the one so far
step_stays : (end : End) (leaf : LeafPath) (entry : AtomField) (more : List AtomField) (index : ℕ)
    (found : Option Value)
    → nearer_index end index entry.index ≡ index → WalksFrom end leaf more
    → Walks index (nearer_index end index (end_index end (entry.index ∷ field_indexes leaf.field more))) found
    (nearest_after end leaf (index, cond (entry.index == index) (found_after leaf.sub found entry) found) more).1
    (with_entry leaf entry more)
step_stays end leaf entry more index found stays walks =
    let rest = end_index end (field_indexes leaf.field more) in
    let kept = cond (entry.index == index) (found_after leaf.sub found entry) found in
    let same : nearer_index end index (end_index end (entry.index ∷ field_indexes leaf.field more)) ≡ nearer_index end
    index rest =
    end_moves_on end index entry.index (field_indexes leaf.field more)
    ∙ ap (λ near. nearer_index end near rest) stays in (
      λ is. (walks index kept).0 (sym same ∙ is)
          ∙ kept_there (entry.index == index) (entry.sub == leaf.sub) found entry
          (filter (stands_at leaf.field leaf.sub index) more),
      λ isnt.
          let away : nearer_index end index rest ≢ index = λ is. isnt (same ∙ is) in
          let other : entry.index ≢ nearer_index end index rest =
          λ is. away (nearer_stays end index entry.index rest stays (sym is)) in
          (walks index kept).1 away
          ∙ passed_over (entry.index == nearer_index end index rest) (entry.sub == leaf.sub) entry
          (filter (stands_at leaf.field leaf.sub (nearer_index end index rest)) more) (differs _ _ other)
          ∙ ap (with_entry leaf entry more) (sym same),
    )

-- one step at an entry of the field: its index is nearer, and the nearest after all or not
step_moves_by : (test : Bool) (end : End) (leaf : LeafPath) (entry : AtomField) (more : List AtomField)
    → (nearer_index end entry.index (end_index end (field_indexes leaf.field more)) == entry.index) ≡ test
    → WalksFrom end leaf more
    → (nearest_after end leaf (entry.index, found_after leaf.sub None entry) more).1
    ≡ with_entry leaf entry more (nearer_index end entry.index (end_index end (field_indexes leaf.field more)))
step_moves_by true end leaf entry more test walks =
    let nearest = nearer_index end entry.index (end_index end (field_indexes leaf.field more)) in
    let is : nearest ≡ entry.index = eqb-true nearest entry.index test in
    (walks entry.index (found_after leaf.sub None entry)).0 is
    ∙ begins_there (entry.index == entry.index) (entry.sub == leaf.sub) entry
    (filter (stands_at leaf.field leaf.sub entry.index) more) (eq-eqb entry.index entry.index refl)
    ∙ ap (with_entry leaf entry more) (sym is)
step_moves_by false end leaf entry more test walks =
    let nearest = nearer_index end entry.index (end_index end (field_indexes leaf.field more)) in
    let isnt : nearest ≢ entry.index = eqb-false nearest entry.index test in
    (walks entry.index (found_after leaf.sub None entry)).1 isnt
    ∙ passed_over (entry.index == nearest) (entry.sub == leaf.sub) entry
    (filter (stands_at leaf.field leaf.sub nearest) more) (differs _ _ (λ is. isnt (sym is)))

step_moves : (end : End) (leaf : LeafPath) (entry : AtomField) (more : List AtomField) (index : ℕ)
    (found : Option Value)
    → nearer_index end index entry.index ≢ index → WalksFrom end leaf more
    → Walks index (nearer_index end index (end_index end (entry.index ∷ field_indexes leaf.field more))) found
    (nearest_after end leaf (entry.index, found_after leaf.sub None entry) more).1 (with_entry leaf entry more)
step_moves end leaf entry more index found moves walks =
    let rest = end_index end (field_indexes leaf.field more) in
    let same : nearer_index end index (end_index end (entry.index ∷ field_indexes leaf.field more)) ≡ nearer_index end
    entry.index rest =
    end_moves_on end index entry.index (field_indexes leaf.field more)
    ∙ ap (λ near. nearer_index end near rest) (nearer_moves end index entry.index moves) in (
      λ is. absurd (nearer_leaves end index entry.index rest moves (sym same ∙ is)),
      λ isnt. step_moves_by (nearer_index end entry.index rest == entry.index) end leaf entry more refl walks
          ∙ ap (with_entry leaf entry more) (sym same),
    )

-- one step at an entry of the field, nearer or not
step_walks : (test : Bool) (end : End) (leaf : LeafPath) (entry : AtomField) (more : List AtomField) (index : ℕ)
    (found : Option Value)
    → (nearer_index end index entry.index == index) ≡ test → WalksFrom end leaf more
    → Walks index (nearer_index end index (end_index end (entry.index ∷ field_indexes leaf.field more))) found
    (nearest_after end leaf (cond test (index, cond (entry.index == index) (found_after leaf.sub found entry) found)
    (entry.index, found_after leaf.sub None entry)) more).1
    (with_entry leaf entry more)
step_walks true end leaf entry more index found test walks =
    step_stays end leaf entry more index found (eqb-true (nearer_index end index entry.index) index test) walks
step_walks false end leaf entry more index found test walks =
    step_moves end leaf entry more index found (eqb-false (nearer_index end index entry.index) index test) walks

-- one step at any entry
entry_walks : (here : Bool) (end : End) (leaf : LeafPath) (entry : AtomField) (more : List AtomField) (index : ℕ)
    (found : Option Value)
    → WalksFrom end leaf more
    → Walks index
    (nearer_index end index (end_index end (map (λ (one : AtomField). one.index)
    (cond here (entry ∷ filter (is_repeated_at leaf.field) more) (filter (is_repeated_at leaf.field) more)))))
    found
    (cond here (nearest_after end leaf (nearest_step end leaf.sub index found entry) more)
    (nearest_after end leaf (index, found) more)).1
    (λ at. first_of (cond (here && (entry.sub == leaf.sub && entry.index == at))
    (entry ∷ filter (stands_at leaf.field leaf.sub at) more) (filter (stands_at leaf.field leaf.sub at) more)))
entry_walks true end leaf entry more index found walks =
    step_walks (nearer_index end index entry.index == index) end leaf entry more index found refl walks
entry_walks false end leaf entry more index found walks = walks index found

walk : (end : End) (leaf : LeafPath) (entries : List AtomField) → WalksFrom end leaf entries
walk end leaf [] index found =
    let same : nearer_index end index (end_index end []) ≡ index =
    ap (nearer_index end index) (end_of_none end) ∙ nearer_none end index in
    (λ is. earlier-none found, λ isnt. absurd (isnt same))
walk end leaf (entry ∷ more) index found =
    entry_walks (is_repeated_at leaf.field entry) end leaf entry more index found (walk end leaf more)

-- tests that agree keep the same entries
filter_alike : (test other : AtomField → Bool) → ((entry : AtomField) → test entry ≡ other entry)
    → (entries : List AtomField) → filter test entries ≡ filter other entries
filter_alike test other alike [] = refl
filter_alike test other alike (entry ∷ more) =
    ap (λ passes. cond passes (entry ∷ filter test more) (filter test more)) (alike entry)
    ∙ ap (λ rest. cond (other entry) (entry ∷ rest) rest) (filter_alike test other alike more)

-- four tests in another order
four_tests : (a b c d : Bool) → ((a && b) && (c && d)) ≡ (a && (c && (b && d)))
four_tests true true true d = refl
four_tests true true false d = refl
four_tests true false true d = refl
four_tests true false false d = refl
four_tests false b c d = refl

-- the position of an end picks the index that is nearest to it
end_picks : (end : End) (indexes : List ℕ) (index : ℕ)
    → (nat_lt 0 index && index == end_index end indexes) ≡ picks_index (Some (end_position end)) indexes index
end_picks First indexes index = refl
end_picks Last indexes index = refl

-- a leaf with the position of an end picks what stands at the nearest index
picks_there : (end : End) (leaf : LeafPath) (entries : List AtomField) → leaf.position ≡ Some (end_position end)
    → (entry : AtomField)
    → stands_at leaf.field leaf.sub (end_index end (field_indexes leaf.field entries)) entry ≡ picks_entry leaf entries
    entry
picks_there end leaf entries is entry =
    let indexes = field_indexes leaf.field entries in
    four_tests (entry.field == leaf.field) (nat_lt 0 entry.index) (entry.sub == leaf.sub)
    (entry.index == end_index end indexes)
    ∙ ap (λ picked. entry.field == leaf.field && (entry.sub == leaf.sub && picked))
    (end_picks end indexes entry.index ∙ ap (λ position. picks_index position indexes entry.index) (sym is))

-- from nothing the walk finds what stands at the nearest index
walk_from_none : (test : Bool) (end : End) (leaf : LeafPath) (entries : List AtomField)
    → (nearer_index end 0 (end_index end (field_indexes leaf.field entries)) == 0) ≡ test
    → (nearest_after end leaf (0, None) entries).1 ≡ first_at leaf.field leaf.sub
    (nearer_index end 0 (end_index end (field_indexes leaf.field entries))) entries
walk_from_none true end leaf entries test =
    let nearest = nearer_index end 0 (end_index end (field_indexes leaf.field entries)) in
    let is : nearest ≡ 0 = eqb-true nearest 0 test in
    (walk end leaf entries 0 None).0 is ∙ ap (λ at. first_at leaf.field leaf.sub at entries) (sym is)
walk_from_none false end leaf entries test = (walk end leaf entries 0 None).1 (eqb-false _ 0 test)

-- for `end_value`: the walk finds the first value that the leaf picks
pub walk_finds : (end : End) (leaf : LeafPath) (entries : List AtomField) → leaf.position ≡ Some (end_position end)
    → (nearest_after end leaf (0, None) entries).1 ≡ first_value (picked_values leaf entries)
walk_finds end leaf entries is =
    let last = end_index end (field_indexes leaf.field entries) in
    walk_from_none (nearer_index end 0 last == 0) end leaf entries refl
    ∙ ap (λ at. first_at leaf.field leaf.sub at entries) (none_nearer end last)
    ∙ ap first_of (filter_alike (stands_at leaf.field leaf.sub last) (picks_entry leaf entries)
    (picks_there end leaf entries is) entries)

-- for `end_value`: after its last step the walk has found it
pub walk_ends : (end : End) (leaf : LeafPath) (entries : List AtomField) (nearest : ℕ × Option Value) (steps : ℕ)
    → length entries ≤ steps → nearest_after end leaf nearest (drop steps entries) ≡ nearest_after end leaf (0, None)
    entries
    → leaf.position ≡ Some (end_position end) → nearest.1 ≡ first_value (picked_values leaf entries)
walk_ends end leaf entries nearest steps past walked is =
    ap (λ rest. (nearest_after end leaf nearest rest).1) (sym (drop_all steps entries past))
    ∙ ap (λ (pair : ℕ × Option Value). pair.1) walked
    ∙ walk_finds end leaf entries is
