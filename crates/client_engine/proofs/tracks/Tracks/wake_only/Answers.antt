-- The frame comes to the one metric, as if only that were marked.
use Rattle.std.proofs.Common.{◌∙◌, false, length, get_or, replicate, set, refl, sym, ap, subst, arith}
use Rattle.std.proofs.lemmas.List.{get_or_past, get_or-replicate, length-replicate}
use Rattle.config_links.specs.SoundConfig.{MayBeWithin}
use Rattle.client_engine.specs.Bringing.{handed_with}
use Rattle.client_engine.specs.Tracks.{metric_in}
use Rattle.client_engine.specs.declared.track.Track.{Track}
use Rattle.known_conditions.proofs.MarksLemmas.{here_marked, only_marked}
use Rattle.client_engine.proofs.TracksLemmas.{asks_here}
use Rattle.known_conditions.proofs.ListsLemmas.{map-set_same}
use Rattle.client_engine.proofs.WokenLemmas.{due_sooner, item_few, item_woken, none_woken}
use Rattle.client_engine.proofs.tracks.Tracks.wake_only.Goals as goal

-- past the end there is no metric
pub returns-then-place-len-clause-woken : goal.returns-then-place-len-clause-woken
returns-then-place-len-clause-woken g c =
    let brought = c.args.brought.now in
    let tracks = c.args.self.now.list.items in
    let places = c.args.woken.now in
    let marks = replicate (length tracks) false in
    let long = c.len.ensures in
    let past = c.if-place-len.true in
    record {
      marks = marks;
      woken = none_woken (handed_with c.args.conditions.now brought) brought.frame.now brought.matched.now tracks
          c.args.asks.now c.args.due c.requires.due;
      all = only_marked places marks c.requires.one
          (get_or_past marks (get_or places 0 0) _ (omega (arith, long, past, length-replicate (length tracks) false)));
    }

-- the metric asks for one of the predicates
pub log-requires-clause-within : goal.log-requires-clause-within
log-requires-clause-within g c =
    let tracks = c.args.self.now.list.items in
    let place = get_or c.args.woken.now 0 0 in
    let known = c.args.conditions.now in
    let long = c.len.ensures in
    let inside = c.if-place-len.false in
    let item = c.index_mut-track.result.now in
    subst (λ (t : Track). MayBeWithin (length known.predicates) t.metric.condition)
    (sym c.index_mut-track.ensures.value)
    (asks_here known known tracks tracks place item refl (omega (arith, long, inside)) refl c.requires.within)

-- where memory is wanting, the metrics are what they were
pub returns-in_err-log-clause-metrics : goal.returns-in_err-log-clause-metrics
returns-in_err-log-clause-metrics g c =
    let long = c.len.ensures in
    let inside = c.if-place-len.false in
    map-set_same metric_in c.args.self.now.list.items (get_or c.args.woken.now 0 0) c.log.new.self
    c.index_mut-track.result.now (omega (arith, long, inside))
    (c.log.ensures.metric ∙ ap metric_in c.index_mut-track.ensures.value)

-- and no more was asked than all may
pub returns-in_err-log-clause-asks : goal.returns-in_err-log-clause-asks
returns-in_err-log-clause-asks g c =
    let brought = c.args.brought.now in
    let given = handed_with c.args.conditions.now brought in
    let tracks = c.args.self.now.list.items in
    let place = get_or c.args.woken.now 0 0 in
    let marks = replicate (length tracks) false in
    let long = c.len.ensures in
    let inside = c.if-place-len.false in
    item_few given brought.frame.now brought.matched.now tracks tracks c.args.asks.now c.args.asks.now c.args.due marks
    (none_woken given brought.frame.now brought.matched.now tracks c.args.asks.now c.args.due c.requires.due) place
    (get_or-replicate (length tracks) place false _ (omega (arith, long, inside))) c.index_mut-track.result.now
    c.index_mut-track.ensures.value c.log.new.asks c.log.ensures.asks

-- the frame came to it
pub returns-clause-woken : goal.returns-clause-woken
returns-clause-woken g c =
    let brought = c.args.brought.now in
    let given = handed_with c.args.conditions.now brought in
    let tracks = c.args.self.now.list.items in
    let places = c.args.woken.now in
    let place = get_or places 0 0 in
    let marks = replicate (length tracks) false in
    let long = c.len.ensures in
    let inside = c.if-place-len.false in
    let least = c.min.ensures in
    record {
      marks = set marks place _;
      woken = item_woken given brought.frame.now brought.matched.now tracks tracks c.args.asks.now c.args.asks.now
          c.args.due marks
          (none_woken given brought.frame.now brought.matched.now tracks c.args.asks.now
          c.args.due c.requires.due) place
          (get_or-replicate (length tracks) place false _ (omega (arith, long, inside))) c.index_mut-track.result.now
          c.index_mut-track.ensures.value c.log.new.self c.log.new.asks c.min.result c.log.ensures.metric
          c.in_ok-log.ensures.logs c.log.ensures.asks (omega (arith, least))
          (due_sooner c.log.new.self c.next_end.result c.min.result c.next_end.ensures (omega (arith, least)));
      all = only_marked places _ c.requires.one
          (here_marked marks place (omega (arith, long, inside, length-replicate (length tracks) false)));
    }

pub returns-clause-metrics : goal.returns-clause-metrics
returns-clause-metrics g c =
    let long = c.len.ensures in
    let inside = c.if-place-len.false in
    map-set_same metric_in c.args.self.now.list.items (get_or c.args.woken.now 0 0) c.log.new.self
    c.index_mut-track.result.now (omega (arith, long, inside))
    (c.log.ensures.metric ∙ ap metric_in c.index_mut-track.ensures.value)

pub returns-clause-asks : goal.returns-clause-asks
returns-clause-asks g c =
    let brought = c.args.brought.now in
    let given = handed_with c.args.conditions.now brought in
    let tracks = c.args.self.now.list.items in
    let place = get_or c.args.woken.now 0 0 in
    let marks = replicate (length tracks) false in
    let long = c.len.ensures in
    let inside = c.if-place-len.false in
    item_few given brought.frame.now brought.matched.now tracks tracks c.args.asks.now c.args.asks.now c.args.due marks
    (none_woken given brought.frame.now brought.matched.now tracks c.args.asks.now c.args.due c.requires.due) place
    (get_or-replicate (length tracks) place false _ (omega (arith, long, inside))) c.index_mut-track.result.now
    c.index_mut-track.ensures.value c.log.new.asks c.log.ensures.asks
