-- Whatever log the books stand for, the instance is a new one.
use Rattle.std.proofs.Common.{◌≡◌, [], refl, sym, subst, length, map, ap, ◌∙◌}
use Rattle.std.proofs.lemmas.Result.{IfOk-weaker}
use Rattle.std.specs.List.{All}
use Rattle.client_engine.specs.Finding.{MayAsk}
use Rattle.known_conditions.specs.Known.{Known, KnowsAfter}
use Rattle.client_engine.specs.InstanceStands.{IsFresh}
use Rattle.client_engine.specs.Running.{Running, linked_of}
use Rattle.client_engine.specs.declared.opening.Opening.{Opening}
use Rattle.client_engine.specs.Tracks.{metric_in, AsksWithin, AreNew}
use Rattle.client_engine.specs.Watches.{CanBeWatched}
use Rattle.client_engine.proofs.InstanceLemmas.{sound_kept, all_tracked, sound_asked, sound_askable, all_watchable, linked_whole, fresh}
use Rattle.client_engine.proofs.instance.Instance.new.Goals as goal

-- the predicates can be kept
pub new-requires : goal.new-requires
new-requires c = record { can_be_kept = sound_kept c.args.linked c.requires.sound }

-- the metrics can be tracked
pub new-requires-2-clause-ready : goal.new-requires-2-clause-ready
new-requires-2-clause-ready c = all_tracked c.args.linked c.requires.sound

-- each asks for one of the predicates
pub new-requires-2-clause-within : goal.new-requires-2-clause-within
new-requires-2-clause-within c =
    subst (λ ps. All (AsksWithin (length ps)) c.args.linked.metrics) (sym c.in_ok-conditions.ensures.predicates)
    (sound_asked c.args.linked c.requires.sound)

-- they can begin: the matchers may be asked, the alerts can be watched
pub new-requires-2-clause-opens : goal.new-requires-2-clause-opens
new-requires-2-clause-opens c = record {
  in_time = c.requires.fits;
  askable = subst (All MayAsk) (sym c.as_slice.ensures) (sound_askable c.args.linked c.requires.sound);
  watchable = subst (All CanBeWatched) (sym c.as_slice-2.ensures) (all_watchable c.args.linked c.requires.sound);
}

-- so they may be in the instance
pub listening-requires-clause-askable : goal.listening-requires-clause-askable
listening-requires-clause-askable c = sound_askable c.args.linked c.requires.sound

-- and its metrics ask for one of its predicates
pub listening-requires-clause-within : goal.listening-requires-clause-within
listening-requires-clause-within c =
    let metrics = map metric_in c.in_ok-tracks.tracks.list.items in
    subst (λ (k : Known). All (AsksWithin (length k.predicates)) metrics) (sym c.new-2.ensures.known)
    (subst (λ ps. All (AsksWithin (length ps)) metrics) (sym c.in_ok-conditions.ensures.predicates)
    (subst (All (AsksWithin (length c.args.linked.predicates))) (sym c.in_ok-tracks.ensures.new.metrics_are)
    (sound_asked c.args.linked c.requires.sound)))

-- what the tracks found is what predicates know
pub returns-clause-fresh : goal.returns-clause-fresh
returns-clause-fresh c = λ log pulls states.
    let linked = c.args.linked in
    let same = c.new-2.ensures.known in
    let tracks = c.in_ok-tracks.tracks.list.items in
    let opening : Opening = record {
      alloc = c.args.alloc;
      base = c.args.base;
      matchers = c.as_slice.result;
      alerts = c.as_slice-2.result;
      pulls = c.args.pulls;
    } in
    let it : Running = record {
      matchers = linked.matchers;
      known = c.new-2.new.conditions;
      states = linked.states;
      tracks = tracks;
      alerts = linked.alerts;
      base = c.args.base;
      last = c.args.base;
    } in
    let is_fresh : IsFresh linked c.args.base log it =
    fresh linked opening it refl
    (ap (λ (known : Known). known.predicates) same ∙ c.in_ok-conditions.ensures.predicates) refl refl refl refl
    c.as_slice.ensures c.as_slice-2.ensures (subst (KnowsAfter []) (sym same) c.in_ok-conditions.ensures.knows)
    (subst (λ known. AreNew opening known linked.metrics tracks) (sym same) c.in_ok-tracks.ensures.new)
    c.requires.sound log pulls in
    IfOk-weaker c.listening.result (λ new. new ≡ it) (IsFresh linked c.args.base log)
    (λ new is. subst (IsFresh linked c.args.base log) (sym is) is_fresh) c.listening.ensures

-- the configuration is the one that was installed
pub returns-clause-linked : goal.returns-clause-linked
returns-clause-linked c =
    let linked = c.args.linked in
    let it : Running = record {
      matchers = linked.matchers;
      known = c.new-2.new.conditions;
      states = linked.states;
      tracks = c.in_ok-tracks.tracks.list.items;
      alerts = linked.alerts;
      base = c.args.base;
      last = c.args.base;
    } in
    let whole : linked_of it ≡ linked =
    linked_whole linked it refl
    (ap (λ (known : Known). known.predicates) c.new-2.ensures.known ∙ c.in_ok-conditions.ensures.predicates) refl
    c.in_ok-tracks.ensures.new.metrics_are refl in
    IfOk-weaker c.listening.result (λ new. new ≡ it) (λ new. linked_of new ≡ linked)
    (λ new is. ap linked_of is ∙ whole) c.listening.ensures
