-- Each byte that is put in is the next of the spelling.
use Rattle.std.proofs.Common.{ap, ◌++◌, ◌∙◌, ◌+◌, ◌/◌, ◌%◌, sym, take, drop, arith}
use Rattle.proto_wire.proofs.VarintLemmas.{varint-last, varint-step, written, put-in}
use Rattle.proto_wire.specs.Spelling.{varint}
use Rattle.proto_wire.proofs.writer.put_varint_at.Goals as goal

pub loop-rest-preserved : goal.loop-rest-preserved
loop-rest-preserved c =
    let bytes = c.loop-rest.bytes.items in
    let at = c.loop-rest.at in
    let rest = c.loop-rest.rest in
    let step = varint-step rest (omega arith) (omega arith) in
    record {
      spelled = ap (λ (after : _). take (at + 1) after ++ (varint (rest / 128) ++ drop (at + 1 + 1) after))
          c.in_ok-insert.ensures.items
          ∙ put-in bytes at (rest % 128 + 128) (omega (arith, c.loop-rest.invariant.there)) (varint (rest / 128))
          ∙ ap (λ (spelled : _). take at bytes ++ (spelled ++ drop (at + 1) bytes)) (sym step)
          ∙ c.loop-rest.invariant.spelled;
      there = omega (arith, c.in_ok-insert.ensures.len, c.loop-rest.invariant.there);
    }

pub returns : goal.returns
returns c =
    let bytes = c.loop-rest.bytes.items in
    let at = c.loop-rest.at in
    written bytes at c.loop-rest.rest (omega (arith, c.loop-rest.invariant.there))
    ∙ ap (λ (spelled : _). take at bytes ++ (spelled ++ drop (at + 1) bytes))
    (sym (varint-last c.loop-rest.rest (omega arith)))
    ∙ c.loop-rest.invariant.spelled
