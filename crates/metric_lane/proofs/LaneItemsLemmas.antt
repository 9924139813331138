-- For the build of a lane, which has the items of the pair of its parts.
use Rattle.std.proofs.Common.{ℕ, List, Option, Err, refl, ap}
use Rattle.bucket_clock.specs.Sound.{Times}
use Rattle.bucket_clock.specs.ClockItems.{clock_items, IsClock}
use Rattle.flat_form.specs.declared.item.Item.{Item}
use Rattle.flat_form.specs.declared.flat_error.FlatError.{FlatError}
use Rattle.flat_form.specs.Flat.{IsMissingOr, IsValidPair, IsBuilt, Builds, option_items, pair_items}
use Rattle.flat_form.proofs.FlatLaws as laws
use Rattle.metric_lane.specs.declared.lane.Lane.{Lane}
use Rattle.metric_lane.specs.LaneItems.{lane_items, IsLane}

-- the parts of a lane
abbrev Parts : Type 0 → Type 0
Parts P = Option Times × P

-- their items
abbrev parts_items : {P : Type 0} → (P → List Item) → Parts P → List Item
parts_items flat = pair_items (option_items clock_items) flat

-- both are valid
abbrev AreParts : {P : Type 0} → (P → Type 0) → Parts P → Type 0
AreParts valid = IsValidPair (IsMissingOr IsClock) valid

-- a lane's
abbrev parts_of : {P Event After Value : Type 0} → Lane P Event After Value → Parts P
parts_of lane = (lane.clock, lane.producer)

-- the lane of these
abbrev lane_of : {P Event After Value : Type 0} → Parts P → Lane P Event After Value
lane_of parts = record { clock = parts.0; producer = parts.1 }

module _ {P : Type 0} (Event After Value : Type 0) (valid : P → Type 0) (flat : P → List Item) where
  -- where such parts don't stand, no lane does
  pub lane_fails : (items : List Item) (place : ℕ) (e : FlatError)
      → Builds (AreParts valid) (parts_items flat) items place (Err e)
      → Builds {X = Lane P Event After Value} (IsLane valid) (lane_items flat) items place (Err e)
  lane_fails items place e fails =
      laws.form_fails (AreParts valid) (parts_items flat) (IsLane valid) (lane_items flat) parts_of (λ lane. refl)
      (λ lane is. is) items place e fails

module _ {P Event After Value : Type 0} (valid : P → Type 0) (flat : P → List Item) where
  -- a lane, built from the parts that stand there
  pub lane_built : (items : List Item) (place : ℕ) (parts : Parts P) (next : ℕ)
      → IsBuilt (AreParts valid) (parts_items flat) items place parts next
      → IsBuilt {X = Lane P Event After Value} (IsLane valid) (lane_items flat) items place (lane_of parts) next
  lane_built items place parts next one = record {
    is_valid = one.is_valid;
    stands = one.stands;
    ends = one.ends;
    only = λ other other_valid there. ap lane_of (one.only (parts_of other) other_valid there);
  }
