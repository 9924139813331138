-- A product that wraps leaves the number of the sum.
use Rattle.std.proofs.Common.{◌*◌, ◌^◌}
use Rattle.std.proofs.Math.Nat.{mod-add-mod}
use Rattle.load_session.specs.Numbers.{next_number}
use Rattle.load_session.proofs.numbers.next_number.Goals as goal

pub returns : goal.returns
unfolding next_number
returns c = mod-add-mod (c.args.number * 6364136223846793005) (2 ^ 64) 1442695040888963407
