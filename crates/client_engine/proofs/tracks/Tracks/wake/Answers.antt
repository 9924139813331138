-- The frame comes to one metric more, unless it came to it before.
use Rattle.std.proofs.Common.{◌≡◌, ◌<◌, ◌∙◌, ℕ, Bool, List, true, false, length, get_or, refl, sym, ap, subst, arith}
use Rattle.config_links.specs.SoundConfig.{MayBeWithin}
use Rattle.client_engine.specs.Bringing.{handed_with}
use Rattle.client_engine.specs.Tracks.{metric_in}
use Rattle.client_engine.specs.declared.track.Track.{Track}
use Rattle.known_conditions.proofs.MarksLemmas.{marked_within}
use Rattle.client_engine.proofs.TracksLemmas.{asks_here}
use Rattle.known_conditions.proofs.ListsLemmas.{map-set_same}
use Rattle.client_engine.proofs.WokenLemmas.{all_few, due_sooner, item_few, item_woken}
use Rattle.client_engine.proofs.tracks.Tracks.wake.Goals as goal

-- the place isn't marked
isnt_marked : (marks given : List Bool) (place : ℕ) (says : Bool) → given ≡ marks → says ≡ get_or given place true
    → says ≡ false → get_or marks place true ≡ false
isnt_marked marks given place says same is off = sym (ap (λ l. get_or l place true) same) ∙ sym is ∙ off

-- so there is a metric at it
there : (marks : List Bool) (tracks : List Track) (place : ℕ) → length marks ≡ length tracks
    → get_or marks place true ≡ false → place < length tracks
there marks tracks place same off = subst (λ n. place < n) same (marked_within marks place off)

-- where the frame came to it, it asks nothing
pub returns-then-is_marked-clause-asks : goal.returns-then-is_marked-clause-asks
returns-then-is_marked-clause-asks g c = λ first before are.
    all_few (handed_with c.args.conditions.now c.args.brought.now) c.args.brought.now.frame.now
    c.args.brought.now.matched.now first c.args.self.now.list.items before c.args.asks.now c.args.due
    c.args.self.now.marks.items are

-- the metric asks for one of the predicates
pub log-requires-clause-within : goal.log-requires-clause-within
log-requires-clause-within g c =
    let marks = c.args.self.now.marks.items in
    let tracks = c.args.self.now.list.items in
    let place = c.args.place in
    let off = isnt_marked marks c.as_slice.result.now place c.is_marked.result c.as_slice.ensures.value
    c.is_marked.ensures (grind (arith, c.if-is_marked.false)) in
    let known = c.args.conditions.now in
    let item = c.index_mut-track.result.now in
    subst (λ (t : Track). MayBeWithin (length known.predicates) t.metric.condition)
    (sym c.index_mut-track.ensures.value)
    (asks_here known known tracks tracks place item refl (there marks tracks place c.requires.marks off) refl
    c.requires.within)

-- where memory is wanting, the metrics are what they were
pub returns-in_err-log-clause-metrics : goal.returns-in_err-log-clause-metrics
returns-in_err-log-clause-metrics g c =
    let marks = c.args.self.now.marks.items in
    let tracks = c.args.self.now.list.items in
    let place = c.args.place in
    let off = isnt_marked marks c.as_slice.result.now place c.is_marked.result c.as_slice.ensures.value
    c.is_marked.ensures (grind (arith, c.if-is_marked.false)) in
    map-set_same metric_in tracks place c.log.new.self c.index_mut-track.result.now
    (there marks tracks place c.requires.marks off)
    (c.log.ensures.metric ∙ ap metric_in c.index_mut-track.ensures.value)

-- and no more was asked than all may
pub returns-in_err-log-clause-asks : goal.returns-in_err-log-clause-asks
returns-in_err-log-clause-asks g c = λ first before are.
    let marks = c.args.self.now.marks.items in
    let place = c.args.place in
    let off = isnt_marked marks c.as_slice.result.now place c.is_marked.result c.as_slice.ensures.value
    c.is_marked.ensures (grind (arith, c.if-is_marked.false)) in
    item_few (handed_with c.args.conditions.now c.args.brought.now) c.args.brought.now.frame.now
    c.args.brought.now.matched.now first c.args.self.now.list.items before c.args.asks.now
    c.args.due marks are place off
    c.index_mut-track.result.now c.index_mut-track.ensures.value c.log.new.asks c.log.ensures.asks

-- the frame came to one more
pub returns-clause-woken : goal.returns-clause-woken
returns-clause-woken g c = λ first before are.
    let marks = c.args.self.now.marks.items in
    let place = c.args.place in
    let off = isnt_marked marks c.as_slice.result.now place c.is_marked.result c.as_slice.ensures.value
    c.is_marked.ensures (grind (arith, c.if-is_marked.false)) in
    let least = c.min.ensures in
    item_woken (handed_with c.args.conditions.now c.args.brought.now) c.args.brought.now.frame.now
    c.args.brought.now.matched.now first c.args.self.now.list.items before c.args.asks.now
    c.args.due marks are place off
    c.index_mut-track.result.now c.index_mut-track.ensures.value c.log.new.self c.log.new.asks c.min.result
    c.log.ensures.metric c.in_ok-log.ensures.logs c.log.ensures.asks (omega (arith, least))
    (due_sooner c.log.new.self c.next_end.result c.min.result c.next_end.ensures (omega (arith, least)))

pub returns-clause-metrics : goal.returns-clause-metrics
returns-clause-metrics g c =
    let marks = c.args.self.now.marks.items in
    let tracks = c.args.self.now.list.items in
    let place = c.args.place in
    let off = isnt_marked marks c.as_slice.result.now place c.is_marked.result c.as_slice.ensures.value
    c.is_marked.ensures (grind (arith, c.if-is_marked.false)) in
    map-set_same metric_in tracks place c.log.new.self c.index_mut-track.result.now
    (there marks tracks place c.requires.marks off)
    (c.log.ensures.metric ∙ ap metric_in c.index_mut-track.ensures.value)

pub returns-clause-asks : goal.returns-clause-asks
returns-clause-asks g c = λ first before are.
    let marks = c.args.self.now.marks.items in
    let place = c.args.place in
    let off = isnt_marked marks c.as_slice.result.now place c.is_marked.result c.as_slice.ensures.value
    c.is_marked.ensures (grind (arith, c.if-is_marked.false)) in
    item_few (handed_with c.args.conditions.now c.args.brought.now) c.args.brought.now.frame.now
    c.args.brought.now.matched.now first c.args.self.now.list.items before c.args.asks.now
    c.args.due marks are place off
    c.index_mut-track.result.now c.index_mut-track.ensures.value c.log.new.asks c.log.ensures.asks
