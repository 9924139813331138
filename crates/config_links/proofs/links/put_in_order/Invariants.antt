use Rattle.std.proofs.Common.{◌≡◌, map}
use Rattle.config_links.specs.MetricLinks.{leaf_bound, rising_places}
use Rattle.config_links.proofs.links.put_in_order.Given as goal

-- the places so far, and their leaves
abbrev pub invariant-loop-place : goal.invariant-loop-place
invariant-loop-place l =
    (l.places ≡ rising_places l.place-counter l.named)
    × (l.ordered ≡ map (leaf_bound l.named l.leaves) (rising_places l.place-counter l.named))
