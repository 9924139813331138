-- Each row stands under its own name, from change to change.
use Rattle.std.proofs.Common.{◌≡◌, Bool, true, false, cond, List, [], ◌∷◌, drop, Some, refl, sym, ap, ◌∙◌}
use Rattle.std.specs.List.{All}
use Rattle.std.specs.Map.{keys_of, set_value}
use Rattle.std.proofs.lemmas.List.Elements.{All-nil, All-cons, All-head, All-tail}
use Rattle.std.proofs.lemmas.Option.{none-some, same_Some}
use Rattle.indexmap.specs.IndexMap.{insert_entry, swap_remove_entry}
use Rattle.client_engine.specs.declared.live_id.LiveId.{LiveId}
use Rattle.hub_core.specs.declared.live_instance.LiveInstance.{LiveInstance}
use Rattle.hub_core.specs.NamedLives.{saved_rows, names_of, AreNamed}
use Rattle.hub_core.specs.Slots.{same_id, slot_at}
use Rattle.hub_core.proofs.NamesLemmas.{same_is}
use Rattle.hub_core.proofs.TableLemmas.{all_out}

-- the names of these as they are saved
abbrev pub own_names : List (LiveId × LiveInstance) → List LiveId
own_names rows = names_of (saved_rows rows)

-- a row stands under its own name
abbrev pub IsNamed : LiveId × LiveInstance → Type 0
IsNamed row = row.0 ≡ row.1.carried.name

-- the first of these names, if there is one
abbrev first_or : LiveId → List LiveId → LiveId
first_or name [] = name
first_or name (first ∷ names) = first

-- one row more, which stands under its own name
pub named_more : (row : LiveId × LiveInstance) (rows : List (LiveId × LiveInstance)) → IsNamed row → AreNamed rows
    → AreNamed (row ∷ rows)
named_more row rows here rest =
    ap (λ name. name ∷ keys_of rows) here ∙ ap (λ names. row.1.carried.name ∷ names) rest

named_head : (row : LiveId × LiveInstance) (rows : List (LiveId × LiveInstance)) → AreNamed (row ∷ rows) → IsNamed row
named_head row rows named = ap (first_or row.0) named

named_tail : (row : LiveId × LiveInstance) (rows : List (LiveId × LiveInstance)) → AreNamed (row ∷ rows)
    → AreNamed rows
named_tail row rows named = ap (drop 1) named

-- what comes in under its own name goes in under it
pub named_in : (name : LiveId) (live : LiveInstance) (rows : List (LiveId × LiveInstance))
    → AreNamed ((name, live) ∷ rows) → AreNamed (insert_entry same_id rows name live)
named_in name live [] named = named
named_in name live (row ∷ rows) named =
    let here : IsNamed (name, live) = named_head (name, live) (row ∷ rows) named in
    let later : AreNamed (row ∷ rows) = named_tail (name, live) (row ∷ rows) named in
    by_case (same_id name row.0) refl here later
    (named_in name live rows (named_more (name, live) rows here (named_tail row rows later))) where
      by_case : (same : Bool) → same_id name row.0 ≡ same → IsNamed (name, live) → AreNamed (row ∷ rows)
          → AreNamed (insert_entry same_id rows name live)
          → AreNamed (cond same ((row.0, live) ∷ rows) (row ∷ insert_entry same_id rows name live))
      by_case true e here later rest =
          named_more (row.0, live) rows (sym (same_is name row.0 e) ∙ here) (named_tail row rows later)
      by_case false e here later rest =
          named_more row (insert_entry same_id rows name live) (named_head row rows later) rest

-- by rows, and back
all_named : (rows : List (LiveId × LiveInstance)) → AreNamed rows → All IsNamed rows
all_named [] named = All-nil IsNamed
all_named (row ∷ rows) named =
    All-cons IsNamed row rows (named_head row rows named) (all_named rows (named_tail row rows named))

named_all : (rows : List (LiveId × LiveInstance)) → All IsNamed rows → AreNamed rows
named_all [] all = refl
named_all (row ∷ rows) all =
    named_more row rows (All-head IsNamed row rows all) (named_all rows (All-tail IsNamed row rows all))

-- what is taken out leaves the others under their names
pub named_out : (name : LiveId) (rows : List (LiveId × LiveInstance)) → AreNamed rows
    → AreNamed (swap_remove_entry (same_id name) rows)
named_out name rows named =
    named_all (swap_remove_entry (same_id name) rows) (all_out name IsNamed rows (all_named rows named))

-- what is written where one stood that has its name leaves all names
pub names-set_value : (name : LiveId) (old new : LiveInstance) → new.carried.name ≡ old.carried.name
    → (rows : List (LiveId × LiveInstance)) → slot_at name rows ≡ Some old
    → own_names (set_value (same_id name) rows new) ≡ own_names rows
names-set_value name old new same [] is = absurd (none-some old is)
names-set_value name old new same (row ∷ rows) is =
    by_case (same_id name row.0) is (names-set_value name old new same rows) where
      by_case : (passes : Bool) → cond passes (Some row.1) (slot_at name rows) ≡ Some old
          → (slot_at name rows ≡ Some old → own_names (set_value (same_id name) rows new) ≡ own_names rows)
          → own_names (cond passes ((row.0, new) ∷ rows) (row ∷ set_value (same_id name) rows new))
          ≡ own_names (row ∷ rows)
      by_case true found rest =
          let was : row.1 ≡ old = same_Some row.1 old found in
          ap (λ own. own ∷ own_names rows) (same ∙ sym (ap (λ (live : LiveInstance). live.carried.name) was))
      by_case false found rest = ap (λ names. row.1.carried.name ∷ names) (rest found)
