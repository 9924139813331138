use Rattle.std.proofs.Common.{◌<◌, ℕ, List, subst, sym, arith}
use Rattle.std.proofs.lemmas.List.{take_all}
use Rattle.matcher_table.specs.Slots.{times_among}
use Rattle.matcher_table.proofs.HangingLaws.{front_more}
use Rattle.matcher_table.proofs.id_lists.add_missing.Goals as goal

pub loop-id-preserved : goal.loop-id-preserved
loop-id-preserved c =
    let added = c.in_ok-add_if_missing.ensures in
    record {
      once = added.once;
      kept = λ id among. added.kept id (c.loop-id.invariant.kept id among);
      added = front_more (λ id. 0 < times_among id c.add_if_missing.new.ids) c.args.more.now c.loop-id.id-index
          (omega arith) (λ id among. added.kept id (c.loop-id.invariant.added id among)) added.added;
    }

pub returns-clause-added : goal.returns-clause-added
returns-clause-added c id among =
    c.loop-id.invariant.added id (subst (λ (xs : List ℕ). 0 < times_among id xs)
    (sym (take_all c.loop-id.id-index c.args.more.now (omega arith))) among)
