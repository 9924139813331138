-- A new key is listed last, or counted.
use Rattle.std.proofs.Common.{refl}
use Rattle.duration_metric.proofs.InnerLemmas.{lists_key}
use Rattle.duration_metric.proofs.inner.InnerTable.append.Goals as goal

pub returns : goal.returns
returns c = lists_key c.args.self.now _ c.admit_copy.new.self c.args.key.now c.args.count c.in_ok-admit_copy.field-0
    c.requires.absent c.in_ok-admit_copy.ensures.answer refl
