-- What the numbers so far mean.
use Rattle.std.proofs.Common.{◌≡◌, take}
use Rattle.std.specs.List.{filter_map}
use Rattle.config_decode.proofs.message.Message.read_scalars.Given as goal

abbrev pub invariant-loop-value : goal.invariant-loop-value
invariant-loop-value g l = l.scalars ≡ filter_map g.T.Scalar.meaning (take l.value-index l.value-items)
