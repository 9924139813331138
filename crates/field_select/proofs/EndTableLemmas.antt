-- Lemmas on specs/FieldEnds.antt: tables of ends, and which entries they say are picked.
use Rattle.std.proofs.Common.{◌≡◌, ◌≢◌, ℕ, ◌+◌, ◌<◌, ◌==◌, nat_lt, cond, Bool, true, false, ◌&&◌, ◌||◌, List, [], ◌∷◌, map, filter, length, drop, get_or, replicate, slice_index, slice_set, Option, Some, None, refl, sym, ap, ◌∙◌, subst}
use Rattle.std.specs.List.{list_any}
use Rattle.std.proofs.lemmas.Bool.{eqb-false, eqb-true}
use Rattle.std.proofs.lemmas.List.{drop_more, get_or-replicate, get_or-set_same, get_or-set_other}
use Rattle.config_types.specs.declared.fields.Position.{Position}
use Rattle.config_types.specs.declared.fields.Position.TheVariants as positions
use Rattle.atom_record.specs.declared.atom.AtomField.{AtomField}
use Rattle.field_select.specs.declared.ends.End.{End}
use Rattle.field_select.specs.declared.ends.End.TheVariants.{First, Last}
use Rattle.field_select.specs.declared.leaf.LeafPath.{LeafPath}
use Rattle.field_select.specs.LeafValues.{is_repeated_at, field_indexes, picks_index, picks_entry, some_leaf_picks}
use Rattle.field_select.specs.FieldEnds.{nearer_index, end_index, ends_after, picks_index_by, picks_by_ends}
use Rattle.field_select.proofs.EndLemmas.{none_nearer, end_moves_on}

-- the ends of a field say which indexes a position picks
by_ends : (position : Option Position) (indexes : List ℕ) (index : ℕ)
    → picks_index_by position (end_index First indexes) (end_index Last indexes) index ≡ picks_index position indexes
    index
by_ends None indexes index = refl
by_ends (Some positions.First) indexes index = refl
by_ends (Some positions.Last) indexes index = refl
by_ends (Some positions.Any) indexes index = refl
by_ends (Some positions.All) indexes index = refl

-- what is tested after an equation may use it
where_equal : (test : Bool) (x y : ℕ) (of : ℕ → Bool) → (x == y) ≡ test → (test && of x) ≡ (test && of y)
where_equal true x y of is = ap of (eqb-true x y is)
where_equal false x y of is = refl

-- the ends of an entry's field say whether a leaf picks it
entry_by_ends : (leaf : LeafPath) (entries : List AtomField) (entry : AtomField)
    → picks_by_ends leaf entry (end_index First (field_indexes entry.field entries))
    (end_index Last (field_indexes entry.field entries))
    ≡ picks_entry leaf entries entry
entry_by_ends leaf entries entry =
    let picked = λ (indexes : List ℕ). entry.sub == leaf.sub && picks_index leaf.position indexes entry.index in
    ap (λ one. entry.field == leaf.field && (entry.sub == leaf.sub && one))
    (by_ends leaf.position (field_indexes entry.field entries) entry.index)
    ∙ where_equal (entry.field == leaf.field) entry.field leaf.field (λ field. picked (field_indexes field entries))
    refl

-- tests that agree pass for the same lists
any_alike : {X : Type 0} (test other : X → Bool) → ((x : X) → test x ≡ other x) → (xs : List X)
    → list_any test xs ≡ list_any other xs
any_alike test other alike [] = refl
any_alike test other alike (x ∷ xs) =
    ap (λ passes. passes || list_any test xs) (alike x) ∙ ap (λ rest. other x || rest) (any_alike test other alike xs)

-- for `picked_entries`: the ends of an entry's field say whether some leaf picks it
pub picks_by_tables : (leaves : List LeafPath) (entries : List AtomField) (entry : AtomField) (first last : ℕ)
    → first ≡ end_index First (field_indexes entry.field entries)
    → last ≡ end_index Last (field_indexes entry.field entries)
    → list_any (λ leaf. picks_by_ends leaf entry first last) leaves ≡ some_leaf_picks leaves entries entry
picks_by_tables leaves entries entry first last is_first is_last =
    ap (λ low. list_any (λ leaf. picks_by_ends leaf entry low last) leaves) is_first
    ∙ ap (λ high. list_any (λ leaf. picks_by_ends leaf entry (end_index First (field_indexes entry.field entries)) high)
    leaves) is_last
    ∙ any_alike
    (λ leaf. picks_by_ends leaf entry (end_index First (field_indexes entry.field entries))
    (end_index Last (field_indexes entry.field entries)))
    (λ leaf. picks_entry leaf entries entry) (λ leaf. entry_by_ends leaf entries entry) leaves

-- a table of ends so far: of each field the nearest index so far, or a nearer one of what is left, is this
abbrev pub AreEnds : End → List ℕ → List AtomField → (ℕ → ℕ) → Type 0
AreEnds end ends rest wanted =
    (field : ℕ) → field < 256 → nearer_index end (slice_index ends field) (end_index end (field_indexes field rest))
    ≡ wanted field

-- an entry that isn't repeated moves no end
kept_by : (here : Bool) (end : End) (index : ℕ) (entry : AtomField) (more : List AtomField) (field : ℕ) → here ≡ false
    → nearer_index end index (end_index end (map (λ (one : AtomField). one.index)
    (cond here (entry ∷ filter (is_repeated_at field) more) (filter (is_repeated_at field) more))))
    ≡ nearer_index end index (end_index end (field_indexes field more))
kept_by true end index entry more field none = cc
kept_by false end index entry more field none = refl

-- an entry that is repeated moves the end of its field
moved_by : (here : Bool) (end : End) (index : ℕ) (entry : AtomField) (more : List AtomField) (field : ℕ) → here ≡ true
    → nearer_index end index (end_index end (map (λ (one : AtomField). one.index)
    (cond here (entry ∷ filter (is_repeated_at field) more) (filter (is_repeated_at field) more))))
    ≡ nearer_index end (nearer_index end index entry.index) (end_index end (field_indexes field more))
moved_by true end index entry more field is = end_moves_on end index entry.index (field_indexes field more)
moved_by false end index entry more field is = cc

and_none : (a : Bool) → (a && false) ≡ false
and_none true = refl
and_none false = refl

-- an entry without an index moves no end
stays_so : (end : End) (ends : List ℕ) (entry : AtomField) (more : List AtomField) (wanted : ℕ → ℕ)
    → nat_lt 0 entry.index ≡ false → AreEnds end ends (entry ∷ more) wanted → AreEnds end ends more wanted
stays_so end ends entry more wanted none are field within =
    sym (kept_by (is_repeated_at field entry) end (slice_index ends field) entry more field
    (ap (λ here. entry.field == field && here) none ∙ and_none (entry.field == field)))
    ∙ are field within

-- an entry with an index moves the end of its field
moves_so : (same : Bool) (end : End) (ends : List ℕ) (entry : AtomField) (more : List AtomField) (wanted : ℕ → ℕ)
    → nat_lt 0 entry.index ≡ true → length ends ≡ 256 → entry.field < 256 → AreEnds end ends (entry ∷ more) wanted
    → (field : ℕ) → field < 256 → (entry.field == field) ≡ same
    → nearer_index end (slice_index (slice_set ends entry.field
    (nearer_index end (slice_index ends entry.field) entry.index)) field) (end_index end (field_indexes field more))
    ≡ wanted field
moves_so true end ends entry more wanted is long low are field within same =
    let at : entry.field ≡ field = eqb-true entry.field field same in
    let near = nearer_index end (slice_index ends entry.field) entry.index in
    let written : slice_index (slice_set ends entry.field near) field ≡ near =
    ap (slice_index (slice_set ends entry.field near)) (sym at)
    ∙ get_or-set_same ends entry.field near 0 (subst (λ n. entry.field < n) (sym long) low) in
    ap (λ index. nearer_index end index (end_index end (field_indexes field more)))
    (written ∙ ap (λ one. nearer_index end (slice_index ends one) entry.index) at)
    ∙ sym (moved_by (is_repeated_at field entry) end (slice_index ends field) entry more field
    (ap (λ here. here && nat_lt 0 entry.index) same ∙ is))
    ∙ are field within
moves_so false end ends entry more wanted is long low are field within same =
    let near = nearer_index end (slice_index ends entry.field) entry.index in
    let apart : field ≢ entry.field = λ at. eqb-false entry.field field same (sym at) in
    ap (λ index. nearer_index end index (end_index end (field_indexes field more)))
    (get_or-set_other ends entry.field field near 0 apart)
    ∙ sym (kept_by (is_repeated_at field entry) end (slice_index ends field) entry more field
    (ap (λ here. here && nat_lt 0 entry.index) same))
    ∙ are field within

noted_by : (here : Bool) (end : End) (ends : List ℕ) (entry : AtomField) (more : List AtomField) (wanted : ℕ → ℕ)
    → nat_lt 0 entry.index ≡ here → length ends ≡ 256 → entry.field < 256 → AreEnds end ends (entry ∷ more) wanted
    → AreEnds end (cond here (slice_set ends entry.field (nearer_index end (slice_index ends entry.field) entry.index))
    ends) more wanted
noted_by true end ends entry more wanted is long low are =
    λ field within. moves_so (entry.field == field) end ends entry more wanted is long low are field within refl
noted_by false end ends entry more wanted is long low are = stays_so end ends entry more wanted is are

-- for `ends_of`: one entry is noted
pub entry_noted : (end : End) (ends : List ℕ) (entries : List AtomField) (entry : AtomField) (at : ℕ) (wanted : ℕ → ℕ)
    → at < length entries → entry ≡ get_or entries at entry → length ends ≡ 256 → entry.field < 256
    → AreEnds end ends (drop at entries) wanted
    → AreEnds end (ends_after end ends entry.field entry.index) (drop (at + 1) entries) wanted
entry_noted end ends entries entry at wanted within is long low are =
    let left : drop at entries ≡ entry ∷ drop (at + 1) entries =
    drop_more entries at entry within ∙ ap (λ one. one ∷ drop (at + 1) entries) (sym is) in
    noted_by (nat_lt 0 entry.index) end ends entry (drop (at + 1) entries) wanted refl long low
    (subst (λ rest. AreEnds end ends rest wanted) left are)

-- for `ends_of`: the table of no entries has 0 everywhere
pub none_noted : (end : End) (entries : List AtomField)
    → AreEnds end (replicate 256 0) entries (λ field. end_index end (field_indexes field entries))
none_noted end entries field within =
    ap (λ index. nearer_index end index (end_index end (field_indexes field entries)))
    (get_or-replicate 256 field 0 0 within)
    ∙ none_nearer end (end_index end (field_indexes field entries))
