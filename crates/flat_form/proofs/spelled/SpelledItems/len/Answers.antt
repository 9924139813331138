-- There are no more items than bytes, of which memory has room.
use Rattle.std.proofs.Common.{arith}
use Rattle.flat_form.proofs.SpelledLaws.{few_held}
use Rattle.flat_form.proofs.spelled.SpelledItems.len.Goals as goal

pub returns-clause-bound : goal.returns-clause-bound
returns-clause-bound c =
    let few = few_held c.self.inside.bytes.items c.self.inside.starts c.self.invariant in
    let long = c.self.inside.bytes.ok in
    let small = c.self.inside.bytes.small in
    let count = c.len.ensures in
    omega arith
