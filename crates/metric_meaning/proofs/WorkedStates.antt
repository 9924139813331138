-- Worked histories of metrics that are sliced by states, and of states that find no room, by computing.
use Rattle.std.proofs.Common.{◌≡◌, ℕ, pos, negsuc, true, false, List, [], ◌∷◌, Option, Some, None, refl}
use Rattle.std.specs.Prelude.{map}
use Rattle.std.specs.List.{range_with_len}
use Rattle.atom_record.specs.declared.value.Value.TheVariants.{Int}
use Rattle.atom_record.specs.declared.value.Slice.{Slice}
use Rattle.atom_record.specs.declared.value.Slice.TheVariants.{Plain, Group}
use Rattle.atom_record.specs.declared.log.LogFrame.{LogFrame}
use Rattle.atom_record.specs.declared.log.LogFrame.TheVariants.{AtomAt}
use Rattle.field_select.specs.declared.leaf.FieldSet.{FieldSet}
use Rattle.bucket_meaning.specs.Guard.{dropped}
use Rattle.bucket_meaning.specs.Kept.{Taken}
use Rattle.book_meaning.specs.States.{same_dims, named_keys}
use Rattle.config_links.specs.declared.linked.LState.{LState}
use Rattle.config_links.specs.declared.linked.LGroup.{LGroup}
use Rattle.config_links.specs.declared.linked.LMetric.{LMetric}
use Rattle.config_links.specs.declared.linked.LKind.TheVariants.{Count}
use Rattle.metric_producer.specs.declared.row.CountCell.{CountCell}
use Rattle.metric_producer.specs.declared.row.Row.{Row}
use Rattle.metric_meaning.specs.Histories.{Step, Installation}
use Rattle.metric_meaning.specs.StateDrops.{told_ids, drops_of_states, dropped_for}
use Rattle.metric_meaning.specs.CountSteps.{counts_shown}
use Rattle.metric_meaning.proofs.WorkedHistories.{logged}

-- no fields of an atom
abbrev no_fields : FieldSet
no_fields = record { atom_id = 0; leaves = [] }

-- the state that atoms of the id 27 tell, with these groups of its values or none
abbrev pub screen : Option (List LGroup) → LState
screen groups = record { atom_id = 27; map = groups }

-- a metric that counts what the first matcher means, sliced by the first state, whose key is field 1 or the empty one
abbrev sliced : Option FieldSet → LMetric
sliced link = record {
  id = pos 100;
  shown = true;
  what = 0;
  condition = None;
  links = [];
  dims = no_fields;
  size = 1000;
  bound = 800;
  slices = record { state = 0; in_what = link } ∷ [];
  kind = Count false;
  activations = [];
}

-- an installation with this state, after this log
abbrev pub beside : LState → List LogFrame → Installation
beside state opening = record {
  base = 0;
  opening = opening;
  linked = record { matchers = []; predicates = []; states = state ∷ []; metrics = []; alerts = [] };
}

-- an atom of the id 27 tells a state, of the empty key
abbrev pub screen_is : ℕ → ℕ → LogFrame
screen_is at state = AtomAt at
    (record { id = 27; fields = record { field = 1; index = 0; sub = 0; flags = 1; value = Int (pos state) } ∷ [] })

-- it tells a state, of a key
abbrev state_of_key : ℕ → ℕ → ℕ → LogFrame
state_of_key at key state = AtomAt at (record {
  id = 27;
  fields = record { field = 1; index = 0; sub = 0; flags = 2; value = Int (pos key) }
      ∷ record { field = 2; index = 0; sub = 0; flags = 1; value = Int (pos state) } ∷ [];
})

-- an atom of the id 5 with a number comes, and the first matcher means it
abbrev counted : ℕ → ℕ → Step
counted at number = logged at (AtomAt at (record {
  id = 5;
  fields = record { field = 1; index = 0; sub = 0; flags = 0; value = Int (pos number) } ∷ [];
})) (true ∷ [])

-- a step of a state atom, which no matcher means
abbrev told : ℕ → LogFrame → Step
told at frame = logged at frame (false ∷ [])

-- a row of a slice
abbrev row : Slice → ℕ → ℕ → Row CountCell
row slice end count =
    record {
      key = record { dims = []; slices = slice ∷ [] };
      start = 0;
      end = end;
      value =
          record { number = count; overflow = false };
    }

-- a report shows these rows, and nothing was dropped
abbrev shown : List (Row CountCell) → Taken (Row CountCell)
shown rows = record { rows = rows; not_kept = 0; dropped = 0; missing = 0 }

-- a state that was told before the installation is known, and a later one from its own frame on
states_of_the_whole_log :
    counts_shown (beside (screen None) (screen_is 0 2 ∷ [])) (sliced None)
    false (counted 2 1 ∷ told 5 (screen_is 5 3) ∷ counted 6 1 ∷ counted 7 1 ∷ []) true 9
    ≡ shown (row (Plain 27 (pos 2)) 9 1 ∷ row (Plain 27 (pos 3)) 9 2 ∷ [])
states_of_the_whole_log = refl

-- by groups, where one lists the value 2: another value shows as -1
states_by_groups :
    counts_shown (beside (screen (Some (record { group = pos 1; values = pos 2 ∷ [] } ∷ []))) (screen_is 0 2 ∷ []))
    (sliced None) false (counted 2 1 ∷ told 5 (screen_is 5 3) ∷ counted 6 1 ∷ []) true 9
    ≡ shown (row (Group 27 (pos 1)) 9 1 ∷ row (Plain 27 (negsuc 0)) 9 1 ∷ [])
states_by_groups = refl

-- where nothing was told, the state is -1; without a link the empty key is asked for
nothing_told :
    counts_shown (beside (screen None) []) (sliced None) false (told 1 (state_of_key 1 7 6) ∷ counted 2 7 ∷ []) true 9
    ≡ shown (row (Plain 27 (negsuc 0)) 9 1 ∷ [])
nothing_told = refl

-- a link asks for the atom's own key
by_link :
    counts_shown (beside (screen None) (state_of_key 0 7 6 ∷ []))
    (sliced (Some (record { atom_id = 5; leaves = record { field = 1; position = None; sub = 0 } ∷ [] })))
    false (counted 2 7 ∷ counted 3 8 ∷ []) true 9
    ≡ shown (row (Plain 27 (pos 6)) 9 1 ∷ row (Plain 27 (negsuc 0)) 9 1 ∷ [])
by_link = refl

-- an atom of this id tells the state 1 of the empty key
abbrev tells : ℕ → LogFrame
tells id = AtomAt 0
    (record { id = id; fields = record { field = 1; index = 0; sub = 0; flags = 1; value = Int (pos 1) } ∷ [] })

-- two states of one atom and one of another: each atom counts once, and none has found no room
each_atom_once : told_ids (screen None ∷ record { atom_id = 5; map = None } ∷ screen None ∷ []) ≡ 27 ∷ 5 ∷ []
each_atom_once = refl

nothing_dropped : drops_of_states (screen None ∷ screen None ∷ []) (state_of_key 0 1 6 ∷ state_of_key 0 2 6 ∷ []) ≡ []
nothing_dropped = refl

-- the 257th id finds no room, and the report of a configuration with a state says so
an_id_too_many : dropped_for (screen None ∷ []) (map tells (range_with_len 1 257)) ≡ 1
an_id_too_many = refl

-- a configuration without states says nothing of it
without_states : dropped_for [] (map tells (range_with_len 1 257)) ≡ 0
without_states = refl

-- where two keys have room, a third is dropped at each of its atoms
abbrev three_keys : List LogFrame
three_keys = state_of_key 0 1 6 ∷ state_of_key 1 2 6 ∷ state_of_key 2 3 6 ∷ state_of_key 3 1 7 ∷ state_of_key 4 3 7 ∷ []

a_key_too_many : dropped same_dims 2 (named_keys 27 three_keys) ≡ 2
a_key_too_many = refl
