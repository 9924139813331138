-- One more fits, and in the end all do.
use Rattle.std.proofs.Common.{get_or, pos}
use Rattle.std.proofs.lemmas.List.{get_or_default}
use Rattle.atom_record.specs.declared.value.Slice.TheVariants.{Plain}
use Rattle.atom_record.proofs.LoopLemmas.{holds_one, holds_all}
use Rattle.flat_form.specs.ItemRange.{IsSliceInRange}
use Rattle.flat_form.proofs.range.fit_slices.Goals as goal

pub loop-one-preserved : goal.loop-one-preserved
loop-one-preserved c =
    let one = get_or c.args.slices.now c.loop-one.one-index (Plain 0 (pos 0)) in
    holds_one c.args.slices.now c.loop-one.one-index one c.loop-one-test.true
    (get_or_default c.args.slices.now c.loop-one.one-index (Plain 0 (pos 0)) one c.loop-one-test.true) IsSliceInRange
    c.loop-one.invariant c.fit_slice.ensures

pub returns : goal.returns
returns c = holds_all c.args.slices.now c.loop-one.one-index c.loop-one-test.false IsSliceInRange c.loop-one.invariant
