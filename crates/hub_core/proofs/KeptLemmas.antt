-- What is kept where one configuration changes that keeps its own.
use Rattle.std.proofs.Common.{◌≡◌, Bool, true, false, cond, List, [], ◌∷◌, Option, Some, refl, sym, ap, subst, ◌∙◌}
use Rattle.std.specs.Map.{set_value}
use Rattle.std.specs.Option.{option_map}
use Rattle.std.proofs.lemmas.Map.{keys-set_value}
use Rattle.std.proofs.lemmas.Option.{none-some, same_Some}
use Rattle.client_engine.specs.declared.live_id.LiveId.{LiveId}
use Rattle.hub_core.specs.declared.live_instance.LiveInstance.{LiveInstance}
use Rattle.hub_core.specs.SharedTable.{HasSameSlots, KeepsSlots}
use Rattle.hub_core.specs.Slots.{same_id, slot_at}
use Rattle.hub_core.specs.NamedLives.{AreNamed}
use Rattle.hub_core.proofs.NamedRowsLemmas.{names-set_value}
use Rattle.hub_core.proofs.TableLemmas.{all-set_value, places-set_value}

-- what hasn't changed keeps its slots
pub kept_same : (rows : List (LiveId × LiveInstance)) → KeepsSlots rows rows
kept_same rows = record {
  names = refl;
  all = λ table held. held;
  places = λ s. refl;
  hearing = λ name. refl;
  configs = λ name. refl;
  named = refl;
}

-- and what is kept twice is kept
pub kept_twice : (first second third : List (LiveId × LiveInstance)) → KeepsSlots first second
    → KeepsSlots second third → KeepsSlots first third
kept_twice first second third one other = record {
  names = other.names ∙ one.names;
  all = λ table held. other.all table (one.all table held);
  places = λ s. other.places s ∙ one.places s;
  hearing = λ name. other.hearing name ∙ one.hearing name;
  configs = λ name. other.configs name ∙ one.configs name;
  named = other.named ∙ one.named;
}

-- A part of what stands under a name, where one configuration changes that keeps this part.
module _ {A : Type 0} (part : LiveInstance → A) (name : LiveId) (old new : LiveInstance) (same : part new ≡ part old)
  where
    -- the part of what is there, if something is
    abbrev part_at : LiveId → List (LiveId × LiveInstance) → Option A
    part_at other rows = option_map part (slot_at other rows)

    part-set_value : (other : LiveId) (rows : List (LiveId × LiveInstance)) → slot_at name rows ≡ Some old
        → part_at other (set_value (same_id name) rows new) ≡ part_at other rows
    part-set_value other [] is = absurd (none-some old is)
    part-set_value other (row ∷ rows) is =
        by_case (same_id name row.0) is (part-set_value other rows) where
          here : (found : Bool) → row.1 ≡ old → option_map part (cond found (Some new) (slot_at other rows))
              ≡ option_map part (cond found (Some row.1) (slot_at other rows))
          here true was = ap (λ (a : A). Some a) (same ∙ ap part (sym was))
          here false was = refl

          later : (found : Bool) → part_at other (set_value (same_id name) rows new) ≡ part_at other rows
              → option_map part (cond found (Some row.1) (slot_at other (set_value (same_id name) rows new)))
              ≡ option_map part (cond found (Some row.1) (slot_at other rows))
          later true rest = refl
          later false rest = rest

          by_case : (passes : Bool) → cond passes (Some row.1) (slot_at name rows) ≡ Some old
              → (slot_at name rows ≡ Some old
              → part_at other (set_value (same_id name) rows new) ≡ part_at other rows)
              → part_at other (cond passes ((row.0, new) ∷ rows) (row ∷ set_value (same_id name) rows new))
              ≡ part_at other (row ∷ rows)
          by_case true found rest = here (same_id other row.0) (same_Some row.1 old found)
          by_case false found rest = later (same_id other row.0) (rest found)

-- a configuration that keeps its own is written where it stood
pub kept_written : (name : LiveId) (old new : LiveInstance) → HasSameSlots old new
    → (olds news : List (LiveId × LiveInstance)) → slot_at name olds ≡ Some old
    → news ≡ set_value (same_id name) olds new → KeepsSlots olds news
kept_written name old new same olds news there is =
    subst (KeepsSlots olds) (sym is) (record {
      names = keys-set_value (same_id name) olds new;
      all = λ table all. all-set_value name table old new same olds there all;
      places = λ s. places-set_value name s old new same olds there;
      hearing = λ other.
          part-set_value (λ (live : LiveInstance). live.hearing) name old new same.hearing other olds there;
      configs = λ other.
          part-set_value (λ (live : LiveInstance). live.carried.config) name old new same.carried.config other olds
          there;
      named = names-set_value name old new same.carried.name olds there;
    })

-- what is kept stands under its own names
pub kept_named : (olds news : List (LiveId × LiveInstance)) → KeepsSlots olds news → AreNamed olds → AreNamed news
kept_named olds news kept named = kept.names ∙ named ∙ sym kept.named
