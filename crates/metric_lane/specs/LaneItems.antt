-- The items of a lane, and which lanes there are.
use Rattle.std.specs.Prelude.{ℕ, ◌+◌, ◌≤◌, List, [], ◌++◌, length, Option, Some, None}
use Rattle.std.proofs.Common.{arith}
use Rattle.std.proofs.lemmas.List.{length-append}
use Rattle.std.proofs.lemmas.List.Elements.{All-nil, All-cons, All-append}
use Rattle.bucket_clock.specs.Sound.{Times}
use Rattle.bucket_clock.specs.ClockItems.{clock_items, IsClock, clock_savable}
use Rattle.flat_form.specs.declared.item.Item.{Item}
use Rattle.flat_form.specs.Flat.{Anything, IsMissingOr, option_items}
use Rattle.flat_form.specs.Savable.{IsSavable, AreSavable}
use Rattle.flat_form.specs.SavableLaws.{option_savable}
use Rattle.flat_form.specs.Weight.{most_items, head_within, entries_within}
use Rattle.flat_form.specs.Bounded.{parts_bounded, parts_few}
use Rattle.metric_lane.specs.declared.lane.Lane.{Lane}

-- the most items of a lane's clock: whether there is one, and its four numbers
abbrev pub clock_head : ℕ
clock_head = 5

-- a lane's clock has no more
clock_few : (clock : Option Times) → length (option_items clock_items clock) ≤ clock_head
clock_few None = omega arith
clock_few (Some clock) = omega arith

-- nothing is asked of a lane's clock before it can be spelled
clock_free : (clock : Option Times) → IsMissingOr Anything clock
clock_free None = All-nil Anything
clock_free (Some clock) = All-cons Anything clock [] tt (All-nil Anything)

module _ {P Event After Value : Type 0} where
  -- a lane is its clock, which may be missing, and its producer
  abbrev pub lane_items : (P → List Item) → Lane P Event After Value → List Item
  lane_items flat lane = option_items clock_items lane.clock ++ flat lane.producer

  -- both are valid
  abbrev pub IsLane : (P → Type 0) → Lane P Event After Value → Type 0
  IsLane valid lane = IsMissingOr IsClock lane.clock × valid lane.producer

  -- its producer can be spelled
  abbrev pub IsSavableLane : (P → Type 0) → Lane P Event After Value → Type 0
  IsSavableLane savable lane = savable lane.producer

  -- a lane has the items of its clock, and the head and the entries of its producer
  pub lane_bounded : (flat : P → List Item) (valid : P → Type 0) (head : ℕ) (entries : P → ℕ)
      → ((it : P) → valid it → length (flat it) ≤ most_items head (entries it))
      → (lane : Lane P Event After Value) → IsLane valid lane
      → length (lane_items flat lane) ≤ most_items (head_within (clock_head + head))
      (entries_within (clock_head + head) (length (lane_items flat lane)) (entries lane.producer))
  lane_bounded flat valid head entries each lane is =
      let one = each lane.producer is.1 in
      let clock = clock_few lane.clock in
      let size = length-append (option_items clock_items lane.clock) (flat lane.producer) in
      parts_bounded (clock_head + head) (length (lane_items flat lane)) (entries lane.producer) (omega arith)

  -- an entry of a lane is an item at least
  pub lane_few : (flat : P → List Item) (head : ℕ) (entries : P → ℕ) → ((it : P) → entries it ≤ length (flat it))
      → (lane : Lane P Event After Value)
      → entries_within (clock_head + head) (length (lane_items flat lane)) (entries lane.producer)
      ≤ length (lane_items flat lane)
  lane_few flat head entries each lane =
      let one = each lane.producer in
      let size = length-append (option_items clock_items lane.clock) (flat lane.producer) in
      parts_few (clock_head + head) (length (lane_items flat lane)) (entries lane.producer) (omega arith)

  -- the items of a lane can be spelled where those of its producer can
  pub lane_savable : (flat : P → List Item) (valid savable : P → Type 0)
      → ((it : P) → valid it → savable it → AreSavable (flat it))
      → (lane : Lane P Event After Value) → IsLane valid lane → IsSavableLane savable lane
      → AreSavable (lane_items flat lane)
  lane_savable flat valid savable each lane is can =
      All-append IsSavable (option_items clock_items lane.clock) (flat lane.producer)
      (option_savable clock_items IsClock Anything clock_savable lane.clock is.0 (clock_free lane.clock))
      (each lane.producer is.1 can)
