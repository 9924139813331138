-- One slice after the other.
use Rattle.std.proofs.Common.{◌∙◌, ◌++◌, sym, ap, arith, append-nil}
use Rattle.std.proofs.lemmas.List.{drop_all}
use Rattle.metric_meaning.specs.StateSlices.{named_slices}
use Rattle.client_engine.proofs.SliceLemmas.{slices_on}
use Rattle.client_engine.proofs.slices.slices_into.Goals as goal

-- one more slice
pub loop-by-preserved : goal.loop-by-preserved
loop-by-preserved g c = λ log stands.
    slices_on c.args.brought.now.states.now log (g.A.Asked.reading c.args.asked.now) c.args.slices.now
    c.loop-by.by-index
    c.by-item.result c.loop-by.shown c.add_slice.new.shown (omega arith) c.by-item.is (c.loop-by.invariant log stands)
    (c.in_ok-add_slice.ensures log stands)

-- all
pub returns : goal.returns
returns g c = λ log stands.
    let ends = c.loop-by-test.false in
    sym (append-nil c.loop-by.shown)
    ∙ ap (λ l. c.loop-by.shown ++ named_slices c.args.brought.now.states.now log (g.A.Asked.reading c.args.asked.now) l)
    (sym (drop_all c.loop-by.by-index c.args.slices.now (omega (arith, ends))))
    ∙ c.loop-by.invariant log stands
