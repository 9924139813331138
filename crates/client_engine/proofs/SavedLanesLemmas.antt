-- For the builds of lanes: a lane of counts has the items of the pair of its parts, and any lane the number of its kind
-- and what it has by it.
use Rattle.std.proofs.Common.{ℕ, List, Err, All, refl, ap}
use Rattle.alert_watch.specs.Watches.{WatchContents}
use Rattle.alert_watch.specs.WatchItems.{watch_items, IsWholeWatch}
use Rattle.count_metric.specs.CountItems.{count_items, HasBounds}
use Rattle.flat_form.specs.declared.item.Item.{Item}
use Rattle.flat_form.specs.declared.flat_error.FlatError.{FlatError}
use Rattle.flat_form.specs.Flat.{Anything, IsValidPair, IsBuilt, Builds, number_items, pair_items, list_items}
use Rattle.flat_form.proofs.FlatLaws as laws
use Rattle.flat_form.proofs.VariantLaws as kinds
use Rattle.metric_lane.specs.LaneItems.{lane_items, IsLane}
use Rattle.client_engine.specs.CountsAlong.{CountLane, WatchedLane}
use Rattle.client_engine.specs.SavedLanes.{watched_items, IsWatchedLane, kind_number, kind_items, metric_lane_items, IsMetricLane}

-- the parts of a lane of counts
abbrev pub WatchedParts : Type 0
WatchedParts = CountLane × List WatchContents

-- those of a lane
abbrev parts_of : WatchedLane → WatchedParts
parts_of it = (it.lane, it.watches)

-- the lane of these
abbrev pub watched_of : WatchedParts → WatchedLane
watched_of parts = record { lane = parts.0; watches = parts.1 }

-- their items
abbrev parts_items : WatchedParts → List Item
parts_items = pair_items (lane_items count_items) (list_items watch_items)

-- both are valid
abbrev AreParts : WatchedParts → Type 0
AreParts = IsValidPair (IsLane HasBounds) (All IsWholeWatch)

module _ (items : List Item) (place : ℕ) where
  -- where such parts don't stand, no lane of counts does
  pub watched_fails : (e : FlatError) → Builds AreParts parts_items items place (Err e)
      → Builds IsWatchedLane watched_items items place (Err e)
  watched_fails e fails =
      laws.form_fails AreParts parts_items IsWatchedLane watched_items parts_of (λ it. refl) (λ it is. is) items place e
      fails

  -- a lane of counts, built from the parts that stand there
  pub watched_built : (parts : WatchedParts) (next : ℕ) → IsBuilt AreParts parts_items items place parts next
      → IsBuilt IsWatchedLane watched_items items place (watched_of parts) next
  watched_built parts next one = record {
    is_valid = one.is_valid;
    stands = one.stands;
    ends = one.ends;
    only = λ other is there. ap watched_of (one.only (parts_of other) is there);
  }

  -- where no number stands, no lane does
  pub kind_fails : (e : FlatError) → Builds Anything number_items items place (Err e)
      → Builds IsMetricLane metric_lane_items items place (Err e)
  kind_fails e fails = kinds.kind_fails IsMetricLane kind_number kind_items items place e fails
