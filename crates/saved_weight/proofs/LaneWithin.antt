-- A lane takes five numbers more than its producer.
use Rattle.std.proofs.Common.{◌≡◌, ◌+◌, ◌≤◌, List, Option, Some, None, arith}
use Rattle.bucket_clock.specs.ClockItems.{clock_items}
use Rattle.bucket_clock.specs.Sound.{Times}
use Rattle.flat_form.specs.Flat.{option_items}
use Rattle.flat_form.specs.declared.item.Item.{Item}
use Rattle.metric_lane.specs.LaneItems.{lane_items}
use Rattle.metric_lane.specs.declared.lane.Lane.{Lane}
use Rattle.saved_weight.proofs.SizeLaws.{full_size, full-append, full-none, full-some}

-- a clock is four numbers
clock_size : (clock : Times) → full_size (clock_items clock) ≡ 36
clock_size clock = omega arith

-- a lane's clock takes five numbers at most
lane_clock_size : (clock : Option Times) → full_size (option_items clock_items clock) ≤ 45
lane_clock_size None = let size = full-none clock_items in omega (arith, size)
lane_clock_size (Some clock) =
    let size = full-some clock_items clock in let four = clock_size clock in omega (arith, size, four)

-- a lane takes five numbers, and its producer
pub lane_within : {P Event After Value : Type 0} (flat : P → List Item) (lane : Lane P Event After Value)
    → full_size (lane_items flat lane) ≤ 45 + full_size (flat lane.producer)
lane_within flat lane =
    let both = full-append (option_items clock_items lane.clock) (flat lane.producer) in
    let clock = lane_clock_size lane.clock in
    omega (arith, both, clock)
