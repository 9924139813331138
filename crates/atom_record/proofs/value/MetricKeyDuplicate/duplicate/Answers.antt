-- Both lists are copied whole.
use Rattle.std.proofs.Common.{rules}
use Rattle.atom_record.proofs.value.MetricKeyDuplicate.duplicate.Goals as goal

pub returns : goal.returns
returns c = search rules
