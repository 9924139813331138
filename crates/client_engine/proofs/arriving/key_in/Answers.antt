-- The values at the dimensions, and the slices.
use Rattle.std.proofs.Common.{◌∙◌, ap}
use Rattle.metric_meaning.specs.StateSlices.{named_slices}
use Rattle.client_engine.specs.Bringing.{handed_with}
use Rattle.client_engine.proofs.ArrivingLemmas.{key_there}
use Rattle.client_engine.proofs.arriving.key_in.Goals as goal

pub returns : goal.returns
returns g c = λ known scene found.
    let brought = c.args.brought.now in
    let reading = g.A.Asked.reading c.args.asked.now in
    key_there (handed_with known brought) scene c.args.metric.now reading c.in_ok-dims.dims c.in_ok-slices.slices found
    c.in_ok-dims.ensures
    (c.in_ok-slices.ensures scene.log found.book
    ∙ ap (λ by. named_slices brought.states.now scene.log reading by) c.as_slice-by.ensures)
