-- One more record: the last of what was meant is what it means, or stays.
use Rattle.std.proofs.Common.{arith}
use Rattle.std.proofs.lemmas.Grind.{common_steps}
use Rattle.std.proofs.lemmas.List.Elements.{filter_map-append}
use Rattle.config_decode.proofs.ValuesLemmas.{varints_more, last_append}
use Rattle.config_decode.proofs.message.Message.read_scalar.Goals as goal

pub loop-field-preserved : goal.loop-field-preserved
loop-field-preserved g c = grind (arith, common_steps, varints_more, last_append, filter_map-append)
