-- What is noted, from change to change.
use Rattle.std.proofs.Common.{◌≡◌, ℕ, ◌==◌, Bool, true, false, not, ◌&&◌, ◌||◌, List, [], Option, Some, None, refl, sym, ap, ◌∙◌, true≢false}
use Rattle.std.proofs.Props.{props}
use mathlib.Core.Logic.{∥∥₁_elim}
use Rattle.std.specs.Prelude.{if◌then◌else◌}
use Rattle.std.specs.List.{list_any}
use Rattle.std.specs.Option.{option_map, option_map_or}
use Rattle.heard_ids.specs.declared.hearing.Hearing.{Hearing}
use Rattle.id_notes.specs.declared.notes.Notes.{Notes}
use Rattle.id_notes.specs.Noted.{wants_id, is_named, names_under, names_for_all}
use Rattle.client_engine.specs.declared.live_id.LiveId.{LiveId}
use Rattle.hub_core.specs.declared.live_instance.LiveInstance.{LiveInstance}
use Rattle.hub_core.specs.declared.lives.Lives.{Lives}
use Rattle.hub_core.specs.NotedLives.{wants_at, wants_all_at, AreNoted, AreNotedBut, AreNotedApart}
use Rattle.hub_core.specs.SharedTable.{KeepsSlots}
use Rattle.hub_core.specs.Slots.{same_id, slot_at}
use Rattle.hub_core.proofs.NamesLemmas.{same_equiv, same_is, right_false}

-- what is merely noted is noted
pub noted_is : (notes : Notes LiveId) (rows : List (LiveId × LiveInstance)) → ∥ AreNoted notes rows ∥₁
    → AreNoted notes rows
noted_is notes rows noted = record {
  ids = λ id name. ∥∥₁_elim noted (hlevel props) (λ noted. noted.ids id name);
  all = λ name. ∥∥₁_elim noted (hlevel props) (λ noted. noted.all name);
}

-- the facts of the type
pub lives_noted : (lives : Lives) → AreNoted lives.notes lives.slots.entries
lives_noted lives = noted_is lives.notes lives.slots.entries lives.noted

-- where nothing is noted, nothing is live
pub none_noted : (notes : Notes LiveId) (rows : List (LiveId × LiveInstance)) → ((id : ℕ) → names_under notes id ≡ [])
    → names_for_all notes ≡ [] → rows ≡ [] → AreNoted notes rows
none_noted notes rows under all none = record {
  ids = λ id name. ap (is_named same_id name) (under id) ∙ ap (wants_at id name) (sym none);
  all = λ name. ap (is_named same_id name) all ∙ ap (wants_all_at name) (sym none);
}

-- what is wanted of a slot, by what it hears
abbrev wanted : (Hearing → Bool) → Option LiveInstance → Bool
wanted wants slot = option_map_or (λ (live : LiveInstance). wants live.hearing) slot false

abbrev for_id : ℕ → Hearing → Bool
for_id id hearing = wants_id hearing id

abbrev for_every_id : Hearing → Bool
for_every_id hearing = hearing.all

-- what is wanted hangs on what is heard alone
by_hearing : (wants : Hearing → Bool) (slot : Option LiveInstance)
    → wanted wants slot ≡ option_map_or wants (option_map (λ (live : LiveInstance). live.hearing) slot) false
by_hearing wants None = refl
by_hearing wants (Some live) = refl

-- where what is heard is kept, what is noted is as it should be
pub noted_kept : (notes : Notes LiveId) (olds news : List (LiveId × LiveInstance)) → KeepsSlots olds news
    → AreNoted notes olds → AreNoted notes news
noted_kept notes olds news kept noted = record {
  ids = λ id name. noted.ids id name ∙ sym (same (for_id id) name);
  all = λ name. noted.all name ∙ sym (same for_every_id name);
} where
  same : (wants : Hearing → Bool) (name : LiveId) → wanted wants (slot_at name news) ≡ wanted wants (slot_at name olds)
  same wants name =
      by_hearing wants (slot_at name news)
      ∙ ap (λ (h : Option Hearing). option_map_or wants h false) (kept.hearing name)
      ∙ sym (by_hearing wants (slot_at name olds))

-- no name is noted twice for an id
pub noted_apart : (notes : Notes LiveId) (rows : List (LiveId × LiveInstance)) → AreNoted notes rows → (id : ℕ)
    → AreNotedApart notes id
noted_apart notes rows noted id name =
    ap (λ b. b && is_named same_id name (names_for_all notes)) (noted.ids id name)
    ∙ ap (λ b. wants_at id name rows && b) (noted.all name) ∙ by_slot (slot_at name rows) where
      by_slot : (slot : Option LiveInstance) → (wanted (for_id id) slot && wanted for_every_id slot) ≡ false
      by_slot None = refl
      by_slot (Some live) = by_all live.hearing.all (list_any (λ heard. heard == id) live.hearing.ids) where
        by_all : (all named : Bool) → ((not all && named) && all) ≡ false
        by_all true named = refl
        by_all false true = refl
        by_all false false = refl

-- a name is taken away where it was noted
less : (same was wants : Bool) → (same ≡ true → was ≡ wants) → (was && not (same && wants)) ≡ (not same && was)
less true true true is = refl
less true true false is = absurd (true≢false (is refl))
less true false wants is = refl
less false true wants is = refl
less false false wants is = refl

-- and where it wasn't
least : (same was : Bool) → (same ≡ true → was ≡ false) → was ≡ (not same && was)
least true was is = is refl
least false was is = refl

module _ (name : LiveId) (rows : List (LiveId × LiveInstance)) where
  -- what stands under the same name wants the same
  same_wants : (wants : Hearing → Bool) (slot : Option LiveInstance) → slot_at name rows ≡ slot → (other : LiveId)
      → same_id name other ≡ true → wanted wants (slot_at other rows) ≡ wanted wants slot
  same_wants wants slot there other same =
      ap (λ (n : LiveId). wanted wants (slot_at n rows)) (sym (same_is name other same)) ∙ ap (wanted wants) there

  -- the notes of what stands under the name are taken away
  pub forgotten : (old new : Notes LiveId) (live : LiveInstance) → slot_at name rows ≡ Some live → AreNoted old rows
      → ((id : ℕ) (other : LiveId) → is_named same_id other (names_under new id)
      ≡ (is_named same_id other (names_under old id) && not (same_id other name && wants_id live.hearing id)))
      → ((other : LiveId) → is_named same_id other (names_for_all new)
      ≡ (is_named same_id other (names_for_all old) && not (same_id other name && live.hearing.all)))
      → AreNotedBut name new rows
  forgotten old new live there noted under all = record {
    ids = λ id other.
        under id other
        ∙ ap (λ b. b && not (same_id other name && wants_id live.hearing id)) (noted.ids id other)
        ∙ ap (λ b. wants_at id other rows && not (b && wants_id live.hearing id)) (same_equiv.symm other name)
        ∙ less (same_id name other) (wants_at id other rows) (wants_id live.hearing id)
        (same_wants (for_id id) (Some live) there other);
    all = λ other.
        all other
        ∙ ap (λ b. b && not (same_id other name && live.hearing.all)) (noted.all other)
        ∙ ap (λ b. wants_all_at other rows && not (b && live.hearing.all)) (same_equiv.symm other name)
        ∙ less (same_id name other) (wants_all_at other rows) live.hearing.all
        (same_wants for_every_id (Some live) there other);
  }

  -- nothing stands there
  pub forgotten_none : (notes : Notes LiveId) → slot_at name rows ≡ None → AreNoted notes rows
      → AreNotedBut name notes rows
  forgotten_none notes none noted = record {
    ids = λ id other.
        noted.ids id other
        ∙ least (same_id name other) (wants_at id other rows) (same_wants (for_id id) None none other);
    all = λ other.
        noted.all other
        ∙ least (same_id name other) (wants_all_at other rows) (same_wants for_every_id None none other);
  }

  module _ (news : List (LiveId × LiveInstance)) where
    -- what goes in under the name is noted
    pub noted_in : (old new : Notes LiveId) (live : LiveInstance) → AreNotedBut name old rows
        → ((other : LiveId) → slot_at other news ≡ (if same_id name other then Some live else slot_at other rows))
        → ((id : ℕ) (other : LiveId) → is_named same_id other (names_under new id)
        ≡ (is_named same_id other (names_under old id) || (same_id other name && wants_id live.hearing id)))
        → ((other : LiveId) → is_named same_id other (names_for_all new)
        ≡ (is_named same_id other (names_for_all old) || (same_id other name && live.hearing.all)))
        → AreNoted new news
    noted_in old new live but slots under all = record {
      ids = λ id other.
          under id other ∙ ap (λ b. b || (same_id other name && wants_id live.hearing id)) (but.ids id other)
          ∙ ap (λ b. (not (same_id name other) && wants_at id other rows) || (b && wants_id live.hearing id))
          (same_equiv.symm other name)
          ∙ either (for_id id) (same_id name other) (slot_at other rows) ∙ sym (ap (wanted (for_id id)) (slots other));
      all = λ other.
          all other ∙ ap (λ b. b || (same_id other name && live.hearing.all)) (but.all other)
          ∙ ap (λ b. (not (same_id name other) && wants_all_at other rows) || (b && live.hearing.all))
          (same_equiv.symm other name)
          ∙ either for_every_id (same_id name other) (slot_at other rows)
          ∙ sym (ap (wanted for_every_id) (slots other));
    } where
      either : (wants : Hearing → Bool) (same : Bool) (slot : Option LiveInstance)
          → ((not same && wanted wants slot) || (same && wants live.hearing))
          ≡ wanted wants (if same then Some live else slot)
      either wants true slot = refl
      either wants false slot = right_false (wanted wants slot)

    -- what is taken out is noted nowhere
    pub noted_out : (notes : Notes LiveId) → AreNotedBut name notes rows
        → ((other : LiveId) → slot_at other news ≡ (if same_id name other then None else slot_at other rows))
        → AreNoted notes news
    noted_out notes but slots = record {
      ids = λ id other.
          but.ids id other ∙ gone (for_id id) (same_id name other) (slot_at other rows)
          ∙ sym (ap (wanted (for_id id)) (slots other));
      all = λ other.
          but.all other ∙ gone for_every_id (same_id name other) (slot_at other rows)
          ∙ sym (ap (wanted for_every_id) (slots other));
    } where
      gone : (wants : Hearing → Bool) (same : Bool) (slot : Option LiveInstance)
          → (not same && wanted wants slot) ≡ wanted wants (if same then None else slot)
      gone wants true slot = refl
      gone wants false slot = refl
