-- One place more.
use Rattle.std.proofs.Common.{get_or, nat_eq, sym, ap, ◌∙◌}
use Rattle.std.specs.Option.{unwrap_or}
use Rattle.std.specs.List.{list_any}
use Rattle.distinct.specs.Places.{first_place}
use Rattle.config_links.specs.LinkReasons.{no_leaf}
use Rattle.config_links.proofs.LinkOrderLemmas.{places_with, places_without}
use Rattle.config_links.proofs.links.put_in_order.Goals as goal
use Rattle.config_links.proofs.links.put_in_order.Goals.{then-contains+in_ok-push+in_ok-push-2, else-contains}

pub loop-place-preserved : goal.loop-place-preserved
loop-place-preserved c =
    let named = c.args.named.now in
    let leaves = c.args.leaves.now in
    let place = c.loop-place.place-counter in
    let there = c.contains.ensures ∙ ap (λ turns. list_any (nat_eq place) turns) c.in_ok-turns.ensures.1 in
    elim c.if-contains.branch [
      | then-contains+in_ok-push+in_ok-push-2 w ↦
          places_with named leaves place c.loop-place.places c.loop-place.ordered c.if-contains.places
          c.if-contains.ordered w.leaf_at.result c.loop-place.invariant (sym there ∙ w.if-contains.true)
          (w.places-is ∙ w.in_ok-push-2.ensures.added) (w.ordered-is ∙ w.in_ok-push.ensures.added)
          (w.leaf_at.ensures
          ∙ ap (λ turn. get_or leaves turn no_leaf)
          (w.unwrap_or-turn.ensures
          ∙ ap (λ found. unwrap_or found 0)
          (w.place.ensures.place ∙ ap (first_place (nat_eq place)) c.in_ok-turns.ensures.1)))
      | else-contains w ↦
          places_without named leaves place c.loop-place.places c.loop-place.ordered c.if-contains.places
          c.if-contains.ordered c.loop-place.invariant (sym there ∙ w.if-contains.false) w.places-is w.ordered-is
    ]
