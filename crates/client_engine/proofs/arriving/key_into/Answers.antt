-- The values at the dimensions, and the slices.
use Rattle.std.proofs.Common.{◌∙◌, ap}
use Rattle.std.proofs.lemmas.Result.{on_ok_weaker}
use Rattle.metric_meaning.specs.StateSlices.{named_slices}
use Rattle.client_engine.specs.Bringing.{handed_with}
use Rattle.client_engine.proofs.ArrivingLemmas.{key_there}
use Rattle.client_engine.proofs.arriving.key_into.Goals as goal

pub returns : goal.returns
returns g c = λ known scene found.
    let brought = c.args.brought.now in
    let reading = g.A.Asked.reading c.args.asked.now in
    on_ok_weaker c.slices_into.result
    (λ shown. key_there (handed_with known brought) scene c.args.metric.now reading c.read_into.new.values
    c.slices_into.new.shown found c.in_ok-read_into.ensures
    (shown ∙ ap (λ by. named_slices brought.states.now scene.log reading by) c.as_slice-by.ensures))
    (c.slices_into.ensures scene.log found.book)
