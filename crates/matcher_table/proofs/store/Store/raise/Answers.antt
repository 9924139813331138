use Rattle.std.proofs.Common.{◌+◌, ◌<◌, length, refl, arith, inl}
use Rattle.std.proofs.lemmas.List.{get_or-set_same, get_or-set_other, get_or_default}
use Rattle.matcher_table.proofs.HeldLaws.{some_live}
use Rattle.matcher_table.proofs.IndexLaws.{one_slot}
use Rattle.matcher_table.specs.Slots.{matcher_at}
use Rattle.matcher_table.proofs.store.Store.raise.Goals as goal

pub returns-clause-interns : goal.returns-clause-interns
returns-clause-interns c =
    let counts = c.args.self.now.outside.items in
    let slot = c.args.slot in
    let count = c.index_mut.result.now in
    let live = some_live (matcher_at c.args.self.now.bodies.slots slot) c.args.shared.now c.requires.live in
    let room : slot < length counts = c.requires.stands.held.room_outside slot live in
    record {
      here = c.requires.live;
      outside = omega (
        arith,
        get_or-set_same counts slot (count + 1) 0 room,
        get_or_default counts slot count 0 room,
        c.index_mut.ensures.value,
      );
      others = record {
        kept = λ s other. refl;
        outside = λ s other. get_or-set_other counts slot s (count + 1) 0 other;
        results = λ s other. refl;
      };
      one = λ s there. one_slot c.requires.stands.indexed slot s c.args.shared.now c.requires.live there;
      found = λ there. (refl, refl);
      made = λ none. absurd (live none);
      either = inl c.requires.live;
    }
