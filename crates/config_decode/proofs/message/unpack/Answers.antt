-- Each number that is read is the next of those that are packed.
use Rattle.std.proofs.Common.{append_assoc, arith}
use Rattle.std.proofs.lemmas.Grind.{common_steps}
use Rattle.config_decode.proofs.ValuesLemmas.{numbers-none, numbers-after, numbers-broken}
use Rattle.config_decode.proofs.message.unpack.Goals as goal

pub returns-in_default : goal.returns-in_default
returns-in_default c =
    let rest = c.loop-rest.rest.now in
    let broken = numbers-broken 0 rest c.loop-rest-test.ensures c.in_default.field-0 c.in_default.ensures.number in
    grind (arith, common_steps, broken)

pub loop-rest-preserved : goal.loop-rest-preserved
loop-rest-preserved c =
    let rest = c.loop-rest.rest.now in
    let left = c.in-Ok.left.now in
    let next = numbers-after 0 rest c.loop-rest-test.ensures c.in-Ok.number left c.in-Ok.ensures.number in
    grind (arith, common_steps, append_assoc, next)

pub returns : goal.returns
returns c =
    let none = numbers-none 0 c.loop-rest.rest.now c.loop-rest-test.ensures in
    grind (arith, common_steps, none)
