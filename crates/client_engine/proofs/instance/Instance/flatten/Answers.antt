-- The items of the tracks stand after those of the tables, and these after the two times.
use Rattle.std.proofs.lemmas.Result.{on_ok_weaker, on_err_weaker}
use Rattle.client_engine.specs.Running.{Running}
use Rattle.client_engine.proofs.SavedInstancesLemmas.{adds_all}
use Rattle.known_conditions.proofs.SavedListsLemmas.{front_before}
use Rattle.client_engine.proofs.instance.Instance.flatten.Goals as goal

pub returns-clause-added : goal.returns-clause-added
returns-clause-added c =
    let inside = c.self.inside in
    let it : Running = record {
      matchers = inside.matchers;
      known = inside.conditions;
      states = inside.states;
      tracks = inside.tracks.list.items;
      alerts = inside.alerts;
      base = inside.base;
      last = inside.last;
    } in
    rw (← c.self.view_is)
    (on_ok_weaker c.flatten_tracks.result
    (λ added. adds_all it c.args.out.now c.flatten.new.out c.flatten-2.new.out c.flatten_tracks.new.out
    c.in_ok-flatten.ensures.added c.in_ok-flatten-2.ensures.added added)
    (rw c.as_slice.ensures.value at c.flatten_tracks.ensures.added))

pub returns-clause-err : goal.returns-clause-err
returns-clause-err c =
    on_err_weaker c.flatten_tracks.result
    (λ front. front_before _ _ _ _ c.in_ok-flatten.ensures.added
    (front_before _ _ _ _ c.in_ok-flatten-2.ensures.added front))
    c.flatten_tracks.ensures.err
