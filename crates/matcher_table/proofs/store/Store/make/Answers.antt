use Rattle.std.proofs.Common.{◌≡◌, ◌≢◌, ◌<◌, ℕ, List, length, get_or, Option, Some, None, refl, sym, ap, subst, ◌∙◌, arith}
use Rattle.std.specs.Prelude.{IsTrue}
use Rattle.std.specs.List.{All}
use Rattle.matcher_table.specs.Counts.{CanAdd}
use Rattle.matcher_table.specs.declared.shared.SharedMatcher.{SharedMatcher}
use Rattle.matcher_table.specs.Slots.{matcher_at, times_among, children_of}
use Rattle.matcher_table.proofs.HeldLaws.{listed_live}
use Rattle.matcher_table.proofs.MadeLaws.{all_there}
use Rattle.matcher_table.proofs.TreeLaws.{named_live}
use Rattle.matcher_table.proofs.ReadyLaws.{vacant_under, rested_hung, enough_hung}
use Rattle.matcher_table.proofs.store.Store.make.Goals as goal

pub can_add-requires : goal.can_add-requires
can_add-requires c =
    subst (λ (us : List ℕ). All (λ x. x < length us) c.children.result.now) (sym c.as_slice.ensures.value)
    (subst (λ (xs : List ℕ). All (λ x. x < length c.args.self.now.uses.items) xs) (sym c.children.ensures)
    (all_there (children_of (Some c.args.shared)) (length c.args.self.now.uses.items)
    (λ x named. c.requires.stands.held.room_uses x (c.requires.may.children x named))))

pub add-requires : goal.add-requires
add-requires c = vacant_under c.in_ok-reserve.ensures.stands.ready c.vacant_key.result c.vacant_key.ensures.vacant

pub place-requires-clause-awaits : goal.place-requires-clause-awaits
place-requires-clause-awaits c =
    let now = c.reserve.new.self in
    let stands = c.in_ok-reserve.ensures.stands in
    let room = c.in_ok-reserve.ensures.room in
    let same : (s : ℕ) → matcher_at now.bodies.slots s ≡ matcher_at c.args.self.now.bodies.slots s =
    λ s. ap (λ (xs : List (Option SharedMatcher)). matcher_at xs s) c.in_ok-reserve.ensures.unchanged.slots in
    let live : (x : ℕ) → 0 < times_among x (children_of (Some c.args.shared)) → matcher_at now.bodies.slots x ≢ None =
    λ x named gone. c.requires.may.children x named (sym (same x) ∙ gone) in
    let told : IsTrue c.can_add.result = search in
    let can : CanAdd c.args.self.now.uses.items (children_of (Some c.args.shared)) =
    subst (λ (us : List ℕ). CanAdd us (children_of (Some c.args.shared))) c.as_slice.ensures.value
    (subst (λ (xs : List ℕ). CanAdd c.as_slice.result.now xs) c.children.ensures (c.can_add.ensures.0 told)) in
    record {
      held = stands.held;
      indexed = stands.indexed;
      rested = rested_hung stands.ready now.hanging c.add.new.self c.vacant_key.result c.args.shared
          c.vacant_key.ensures.vacant (λ id. refl) (λ s. refl) c.in_ok-add.ensures.hangs
          (λ s among e. listed_live stands.held s among (ap (matcher_at now.bodies.slots) e
          ∙ c.vacant_key.ensures.vacant));
      enough = λ slots here others.
          let key = c.vacant_key.ensures.value in
          enough_hung stands.ready now.hanging c.add.new.self c.vacant_key.result c.args.shared
          c.vacant_key.ensures.vacant (λ id. refl) (λ s. refl) c.in_ok-add.ensures.hangs (named_live stands.held) live
          slots (ap (matcher_at slots) key ∙ here) (λ k other. others k (λ e. other (e ∙ sym key)));
      used = stands.used;
      may = record { children = live; askable = c.requires.may.askable };
      is_new = λ s there. c.requires.is_new s (sym (same s) ∙ there);
      room = record {
        bodies = room.bodies;
        index = room.index;
        order = room.order;
        outside = room.outside;
        uses = room.uses;
        results = room.results;
        idle = room.idle;
      };
      can_add = λ k d within. omega (
        arith,
        can k d within,
        c.in_ok-reserve.ensures.uses (get_or (children_of (Some c.args.shared)) k d),
      );
    }
