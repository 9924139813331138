-- One more can be spelled, and its spelling comes after those of the others.
use Rattle.std.proofs.Common.{sym, subst}
use Rattle.atom_record.proofs.LoopLemmas.{adds_one, adds_all}
use Rattle.flat_form.proofs.encode.encode_all.Goals as goal

pub encode-requires : goal.encode-requires
encode-requires g c =
    subst g.T.Encode.can_be (sym c.one-item.is)
    (c.requires c.loop-one.one-index c.one-item.result c.loop-one-test.true)

pub loop-one-preserved : goal.loop-one-preserved
loop-one-preserved g c =
    adds_one c.args.all.now c.loop-one.one-index c.one-item.result c.loop-one-test.true c.one-item.is
    g.T.Encode.spelling _ _ _ c.loop-one.invariant c.in_ok-encode.ensures

pub returns : goal.returns
returns g c = adds_all c.args.all.now c.loop-one.one-index c.loop-one-test.false g.T.Encode.spelling _ _
    c.loop-one.invariant
