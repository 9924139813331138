use Rattle.std.proofs.Common.{◌≡◌, ◌++◌, drop, map, length, ◌≤◌}
use Rattle.std.specs.Ordering.{int_eq}
use Rattle.distinct.specs.Repeats.{repeat_after, repeat_in}
use Rattle.link_rules.specs.EntityIds.{set_ids}
use Rattle.link_rules.proofs.ids.ids_of.Given as goal

-- the first repeat among what is left is that of all, and what was added and what is left are all
abbrev pub invariant-loop-entity : goal.invariant-loop-entity
invariant-loop-entity g l = record {
  few : length l.ids ≤ l.entity-index;
  first : repeat_after int_eq l.ids (set_ids (map g.E.Entity.id (drop l.entity-index l.entities)))
      ≡ repeat_in int_eq (set_ids (map g.E.Entity.id l.entities));
  whole : l.ids ++ set_ids (map g.E.Entity.id (drop l.entity-index l.entities))
      ≡ set_ids (map g.E.Entity.id l.entities);
}
