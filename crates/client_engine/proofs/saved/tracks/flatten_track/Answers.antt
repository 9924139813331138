-- The items of the book stand after those of the lane.
use Rattle.std.proofs.lemmas.Result.{on_ok_weaker, on_err_weaker}
use Rattle.known_conditions.proofs.SavedListsLemmas.{adds_two, front_before}
use Rattle.client_engine.proofs.saved.tracks.flatten_track.Goals as goal

pub returns-clause-added : goal.returns-clause-added
returns-clause-added c = on_ok_weaker c.flatten-2.result
    (λ added. adds_two _ _ _ _ _ c.in_ok-flatten.ensures.added added) c.flatten-2.ensures.added

pub returns-clause-err : goal.returns-clause-err
returns-clause-err c = on_err_weaker c.flatten-2.result
    (λ front. front_before _ _ _ _ c.in_ok-flatten.ensures.added front) c.flatten-2.ensures.err
