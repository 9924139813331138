-- Each byte that is put is the next of the spelling, and there is room for all of it.
use Rattle.std.proofs.Common.{append_assoc}
use Rattle.std.proofs.lemmas.Grind.{common_steps}
use Rattle.std.proofs.Common.{arith}
use Rattle.proto_wire.proofs.VarintLemmas.{varint-last, varint-step, varint-shortest, room-left}
use Rattle.proto_wire.proofs.writer.put_varint.Goals as goal

pub loop-rest-preserved : goal.loop-rest-preserved
loop-rest-preserved c =
    let step = varint-step c.loop-rest.rest (omega arith) (omega arith) in
    grind (arith, common_steps, step, append_assoc)

pub push_reserved-requires : goal.push_reserved-requires
push_reserved-requires c =
    let left = room-left c.args.out.now.items c.loop-rest.out.items c.args.value c.loop-rest.rest
    c.loop-rest.invariant.spelled in
    omega (arith, left, varint-shortest c.loop-rest.rest, c.requires.room, c.loop-rest.invariant.room)

pub push_reserved-requires-2 : goal.push_reserved-requires-2
push_reserved-requires-2 c =
    let left = room-left c.args.out.now.items c.loop-rest.out.items c.args.value c.loop-rest.rest
    c.loop-rest.invariant.spelled in
    omega (arith, left, varint-shortest c.loop-rest.rest, c.requires.room, c.loop-rest.invariant.room)

pub returns-clause-spelled : goal.returns-clause-spelled
returns-clause-spelled c =
    let last = varint-last c.loop-rest.rest (omega arith) in
    grind (arith, common_steps, last)

pub returns-clause-len : goal.returns-clause-len
returns-clause-len c =
    let left = room-left c.args.out.now.items c.loop-rest.out.items c.args.value c.loop-rest.rest
    c.loop-rest.invariant.spelled in
    omega (arith, left, varint-shortest c.loop-rest.rest, c.push_reserved-2.ensures.len)
