-- How a store holds a table. No public clause cites this.
use Rattle.std.specs.Prelude.{◌≡◌, ◌≢◌, ◌⊎◌, ℕ, ◌+◌, ◌<◌, ◌≤◌, Bool, false, List, length, take, Option, Some, None, slice_index_or, slice_set, is_some, vec_len, vec_capacity}
use Rattle.std.specs.List.{count_by, remove}
use Rattle.atom_record.specs.declared.atom.Atom.{Atom}
use Rattle.config_types.specs.declared.matcher.SimpleMatcher.{SimpleMatcher}
use Rattle.config_types.specs.Askable.{IsAskable}
use Rattle.matcher_table.specs.declared.shared.SharedMatcher.{SharedMatcher}
use Rattle.matcher_table.specs.declared.shared.SharedMatcher.TheVariants.{Simple}
use Rattle.matcher_table.specs.declared.index.SlotIndex.{SlotIndex}
use Rattle.matcher_table.specs.declared.store.Store.{Store}
use Rattle.matcher_table.specs.Counts.{CanAdd}
use Rattle.matcher_table.specs.Finding.{slot_for, HasSpare}
use Rattle.matcher_table.specs.Slots.{matcher_at, children_of, times_among, child_uses, live_count}
use Rattle.matcher_table.specs.Tables.{SlotTable}
use Rattle.matcher_table.specs.Trees.{slot_tree}
use Rattle.matcher_table.specs.Truths.{IsEnough}
use Rattle.matcher_table.specs.Idle.{idle_truth}
use Rattle.matcher_table.specs.Hanging.{slots_under, atom_ids}
use Rattle.slab.specs.Slab.{HasRoomFor}

-- All that a table keeps between two calls, but for one thing: a slot may have no use.
pub record AreSlotsHeld (slots : List (Option SharedMatcher)) (order outside uses : List ℕ)
    (results : List Bool) : Type 0 where
  pub uses_are : (s : ℕ) → slice_index_or uses s 0 ≡ child_uses slots s
  pub none_outside : (s : ℕ) → matcher_at slots s ≡ None → slice_index_or outside s 0 ≡ 0
  pub none_below : (s : ℕ) → matcher_at slots s ≡ None → child_uses slots s ≡ 0
  pub listed : (s : ℕ) → times_among s order ≡ live_count (matcher_at slots s)
  pub once : length order ≡ count_by is_some slots
  pub after : (i c : ℕ) → i < length order
      → 0 < times_among c (children_of (matcher_at slots (slice_index_or order i 0)))
      → 0 < times_among c (take i order)
  pub room_outside : (s : ℕ) → matcher_at slots s ≢ None → s < length outside
  pub room_uses : (s : ℕ) → matcher_at slots s ≢ None → s < length uses
  pub room_results : (s : ℕ) → matcher_at slots s ≢ None → s < length results
  pub askable : (s : ℕ) (matcher : SimpleMatcher) → matcher_at slots s ≡ Some (Simple matcher) → IsAskable matcher

-- the slots of a store are held so
abbrev pub StoreIsHeld : Store → Type 0
StoreIsHeld store =
    AreSlotsHeld store.bodies.slots store.order.items store.outside.items store.uses.items store.results.items

-- The index of a store finds the live slots, each by its matcher.
pub record IsIndexed (slots : List (Option SharedMatcher)) (index : SlotIndex) : Type 0 where
  pub named : (s : ℕ) (shared : SharedMatcher) → matcher_at slots s ≡ Some shared → slot_for index shared ≡ Some s
  pub found : (s : ℕ) (shared : SharedMatcher) → slot_for index shared ≡ Some s → matcher_at slots s ≡ Some shared

-- the index of a store finds what is live
abbrev pub StoreIsIndexed : Store → Type 0
StoreIsIndexed store = IsIndexed store.bodies.slots store.index

-- Where a list of slots is kept for each atom id, and a list of ids for each slot: what stands in the list of an id has
-- the id, and of the slots that were there at the last atom those outside of its list have their idle truths.
pub record AreRested (slots : List (Option SharedMatcher)) (under ids : ℕ → List ℕ) (order : List ℕ) (settled last : ℕ)
    (idle results : List Bool) : Type 0 where
  pub known : (s id : ℕ) → 0 < times_among s (under id) → 0 < times_among id (ids s)
  pub idle_are : (s : ℕ) → matcher_at slots s ≢ None → slice_index_or idle s false ≡ idle_truth (slot_tree slots s)
  pub room : (s : ℕ) → matcher_at slots s ≢ None → s < length idle
  pub front : settled ≤ length order
  pub rest : (s : ℕ) → 0 < times_among s (take settled order) → times_among s (under last) ≡ 0
      → slice_index_or results s false ≡ slice_index_or idle s false

-- and the list of each id is enough for its atoms
pub record AreReady (slots : List (Option SharedMatcher)) (under ids : ℕ → List ℕ) (order : List ℕ) (settled last : ℕ)
    (idle results : List Bool) : Type 0 where
  pub enough : (atom : Atom) → IsEnough slots atom (under atom.id)
  pub rested : AreRested slots under ids order settled last idle results

-- the slots of a store are rested
abbrev pub StoreIsRested : Store → Type 0
StoreIsRested store =
    AreRested store.bodies.slots (slots_under store.hanging) (atom_ids store.hanging) store.order.items store.settled
    store.last store.idle.items store.results.items

-- a store is ready for the next atom
abbrev pub StoreIsReady : Store → Type 0
StoreIsReady store =
    AreReady store.bodies.slots (slots_under store.hanging) (atom_ids store.hanging) store.order.items store.settled
    store.last store.idle.items store.results.items

-- the lists are enough once a matcher stands in the slot that comes next
abbrev pub IsEnoughWith : Store → SharedMatcher → Type 0
IsEnoughWith store shared =
    (slots : List (Option SharedMatcher)) → matcher_at slots store.bodies.vacant_key ≡ Some shared
    → ((k : ℕ) → k ≢ store.bodies.vacant_key → matcher_at slots k ≡ matcher_at store.bodies.slots k)
    → (atom : Atom) → IsEnough slots atom (slots_under store.hanging atom.id)

-- the slot has a use
abbrev pub IsUsed : Store → ℕ → Type 0
IsUsed store s = (0 < slice_index_or store.outside.items s 0) ⊎ (0 < slice_index_or store.uses.items s 0)

-- each live slot has a use, but those in this front of the order may have none
abbrev pub UsedFrom : Store → ℕ → Type 0
UsedFrom store at =
    (s : ℕ) → matcher_at store.bodies.slots s ≢ None → IsUsed store s ⊎ (0 < times_among s (take at store.order.items))

-- what a store contains
abbrev pub table_in : Store → SlotTable
table_in store = record {
  slots = store.bodies.slots;
  next = store.bodies.vacant_key;
  outside = store.outside.items;
  results = store.results.items;
}

-- some slots without a use are gone, and the last of them is the next new one
pub record Frees (old new : Store) : Type 0 where
  pub outside : new.outside.items ≡ old.outside.items
  pub results : new.results.items ≡ old.results.items
  pub fewer : (s : ℕ) → slice_index_or new.uses.items s 0 ≤ slice_index_or old.uses.items s 0
  pub kept : (s : ℕ) → matcher_at new.bodies.slots s ≢ None
      → matcher_at new.bodies.slots s ≡ matcher_at old.bodies.slots s
  pub stays : (s : ℕ) → 0 < slice_index_or old.outside.items s 0
      → matcher_at new.bodies.slots s ≡ matcher_at old.bodies.slots s
  pub next : ((new.bodies.slots ≡ old.bodies.slots) × (new.bodies.vacant_key ≡ old.bodies.vacant_key))
      ⊎ ((matcher_at old.bodies.slots new.bodies.vacant_key ≢ None)
      × (matcher_at new.bodies.slots new.bodies.vacant_key ≡ None))

-- a matcher may be interned: its children are live, and a judge may be asked about it
pub record MayIntern (store : Store) (shared : SharedMatcher) : Type 0 where
  pub children : (c : ℕ) → 0 < times_among c (children_of (Some shared)) → matcher_at store.bodies.slots c ≢ None
  pub askable : (matcher : SimpleMatcher) → shared ≡ Simple matcher → IsAskable matcher

-- one slot more needs no memory
pub record HasRoomReserved (store : Store) : Type 0 where
  pub bodies : HasRoomFor store.bodies 1
  pub index : HasSpare store.index
  pub order : vec_len store.order < vec_capacity store.order
  pub outside : store.bodies.vacant_key < length store.outside.items
  pub uses : store.bodies.vacant_key < length store.uses.items
  pub results : store.bodies.vacant_key < length store.results.items
  pub idle : store.bodies.vacant_key < length store.idle.items

-- nothing but the outside uses of one slot is other
pub record ChangesOutside (old new : Store) (slot : ℕ) : Type 0 where
  pub bodies : new.bodies ≡ old.bodies
  pub index : new.index ≡ old.index
  pub order : new.order.items ≡ old.order.items
  pub uses : new.uses.items ≡ old.uses.items
  pub results : new.results.items ≡ old.results.items
  pub others : (s : ℕ) → s ≢ slot → slice_index_or new.outside.items s 0 ≡ slice_index_or old.outside.items s 0

-- What a store keeps between two calls. While slots are freed those in this front of its order may have no use.
pub record StoreStands (store : Store) (front : ℕ) : Type 0 where
  pub held : StoreIsHeld store
  pub indexed : StoreIsIndexed store
  pub ready : StoreIsReady store
  pub used : UsedFrom store front

-- a matcher that stands nowhere can be put into the slot that comes next
pub record AwaitsMatcher (store : Store) (shared : SharedMatcher) : Type 0 where
  pub held : StoreIsHeld store
  pub indexed : StoreIsIndexed store
  pub rested : StoreIsRested store
  pub enough : IsEnoughWith store shared
  pub used : UsedFrom store 0
  pub may : MayIntern store shared
  pub is_new : (s : ℕ) → matcher_at store.bodies.slots s ≢ Some shared
  pub room : HasRoomReserved store
  pub can_add : CanAdd store.uses.items (children_of (Some shared))

-- the slot at a place of the order
abbrev pub slot_in_order : Store → ℕ → ℕ
slot_in_order store at = slice_index_or store.order.items at 0

-- the slot at this place of the order is out of a store, and nothing else is other but the uses of its children
pub record LosesSlot (old new : Store) (at : ℕ) : Type 0 where
  pub slots : new.bodies.slots ≡ slice_set old.bodies.slots (slot_in_order old at) None
  pub next : new.bodies.vacant_key ≡ slot_in_order old at
  pub order : new.order.items ≡ remove old.order.items at
  pub outside : new.outside.items ≡ old.outside.items
  pub results : new.results.items ≡ old.results.items
  pub uses : (s : ℕ) → slice_index_or new.uses.items s 0
      + times_among s (children_of (matcher_at old.bodies.slots (slot_in_order old at)))
      ≡ slice_index_or old.uses.items s 0
  pub same : length new.uses.items ≡ length old.uses.items
  pub gone : (wanted : SharedMatcher) → matcher_at old.bodies.slots (slot_in_order old at) ≡ Some wanted
      → slot_for new.index wanted ≡ None
  pub stay : (wanted : SharedMatcher) → matcher_at old.bodies.slots (slot_in_order old at) ≢ Some wanted
      → slot_for new.index wanted ≡ slot_for old.index wanted
  pub hanging : new.hanging ≡ old.hanging
  pub idle : new.idle.items ≡ old.idle.items
  pub last : new.last ≡ old.last
  pub settled : new.settled ≡ old.settled
