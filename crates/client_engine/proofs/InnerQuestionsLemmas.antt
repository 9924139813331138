-- How many questions a duration asks at an atom.
use Rattle.std.proofs.Common.{◌≡◌, ℕ, zero, suc, ◌+◌, ◌≤◌, ◌<◌, Bool, true, false, ◌||◌, List, [], ◌∷◌, ◌++◌, length, slice_get, Option, Some, None, if◌then◌else◌, refl, sym, ap, subst, ◌∙◌, arith}
use Rattle.std.specs.Prelude.{is_some}
use Rattle.std.specs.Borrow.{Bor}
use Rattle.std.specs.Map.{keys_of}
use Rattle.std.specs.Option.{option_map, option_and_then}
use Rattle.std.proofs.lemmas.Option.{none-some}
use Rattle.atom_record.specs.declared.atom.Atom.{Atom}
use Rattle.atom_record.specs.declared.log.LogFrame.{LogFrame}
use Rattle.atom_record.specs.declared.log.LogFrame.TheVariants.{AtomAt}
use Rattle.bucket_meaning.specs.Ends.{Moment}
use Rattle.bucket_meaning.specs.Guard.{is_among}
use Rattle.bucket_clock.specs.Clock.{Saw}
use Rattle.config_types.specs.declared.parameters.PredSpec.{PredSpec}
use Rattle.config_links.specs.declared.linked.LMetric.{LMetric}
use Rattle.config_links.specs.declared.linked.LPredicate.{LPredicate}
use Rattle.metric_producer.specs.Rules.{AreAdmitted}
use Rattle.metric_producer.specs.LaneCalls.{coming, told_by}
use Rattle.metric_producer.specs.Collecting.{Law}
use Rattle.metric_producer.specs.declared.row.Row.{Row}
use Rattle.metric_producer.proofs.RuleLemmas.{admits-front}
use Rattle.predicate_state.specs.declared.truth.Truth.{Truth}
use Rattle.predicate_state.specs.PredicateStates.{PredicateState}
use Rattle.predicate_state.specs.PredicateTable.{LeafKey, same_leaves}
use Rattle.session_frames.specs.FrameReading.{log_time}
use Rattle.metric_lane.specs.LaneStands.{LaneHas, GetsFrame, GetsCalls}
use Rattle.metric_lane.specs.declared.lane.Lane.{Lane}
use Rattle.duration_metric.specs.declared.change.InnerEvent.{InnerEvent}
use Rattle.duration_metric.specs.declared.change.InnerDelta.{InnerDelta}
use Rattle.duration_metric.specs.declared.inner.Known.{Known}
use Rattle.duration_metric.specs.InnerKeys.{DurationParams, DurationCall, inner_keys, last_known}
use Rattle.metric_meaning.specs.Histories.{Step, Installation, moment_of, log_after}
use Rattle.metric_meaning.specs.Ways.{Way}
use Rattle.metric_meaning.specs.DurationSteps.{measured, inner_events}
use Rattle.metric_meaning.specs.Touched.{names_atom_itself, acts_below, timed_predicate, is_touched}
use Rattle.metric_meaning.proofs.TouchedLemmas.{neither}
use Rattle.metric_meaning.proofs.TouchedDurations.{untouched_inner}
use Rattle.metric_calls.specs.Askings.{Asking, own_demands, steps_seen, calls_crossed, AsksWell}
use Rattle.metric_calls.specs.DurationCalls.{first_event_of, event_in, learning, InnerNews, duration_params, duration_asking, listed_after, inner_event_at, inner_news}
use Rattle.metric_calls.proofs.InnerToldLemmas.{TellsInner, KnowsActed, acted, listed_told}
use Rattle.client_engine.specs.Along.{Along}
use Rattle.client_engine.specs.AskedFew.{AsksOfAll}
use Rattle.client_engine.specs.Handed.{Handed}
use Rattle.client_engine.specs.NextSteps.{with_logged, ComeInTime, MayLog}
use Rattle.known_conditions.specs.Known.{logged_step}
use Rattle.client_engine.specs.Questions.{duration_questions}
use Rattle.client_engine.specs.Staying.{stays_by, stays_untold, truth_kept}
use Rattle.known_conditions.specs.Touchers.{tells_one}
use Rattle.client_engine.specs.declared.stays.Before.{Before}
use Rattle.client_engine.specs.declared.stays.Stays.{Stays}
use Rattle.client_engine.specs.declared.told.Told.{Told}
use Rattle.client_engine.proofs.AlongLemmas.{along_crosses}
use Rattle.client_engine.proofs.InnerLemmas.{event_is, shown_event}
use Rattle.client_engine.proofs.OldKeysLemmas.{among_there}
use Rattle.client_engine.proofs.OneMoreLemmas.{one_more_listed}
use Rattle.client_engine.proofs.ShownLemmas.{shown_moment}

-- at a place before the end a key stands
not_none : (keys : List LeafKey) (place : ℕ) → place < length keys → slice_get keys place ≡ None → ⊥
not_none [] place within is = omega (arith, within)
not_none (key ∷ keys) zero within is = none-some key (sym is)
not_none (key ∷ keys) (suc place) within is = not_none keys place (omega (arith, within)) is

-- where something was told of each key, a truth was told of the one at each place
told_at : (was : LeafKey → Option Known) (keys : List LeafKey)
    → ((place : ℕ) (key : LeafKey) → slice_get keys place ≡ Some key → is_some (was key) ≡ true)
    → (place : ℕ) → place < length keys
    → is_some (option_and_then (λ key. option_map (λ (known : Known). known.truth) (was key)) (slice_get keys place))
    ≡ true
told_at was keys told place within = by (slice_get keys place) refl where
  of_known : (known : Option Known) → is_some known ≡ true
      → is_some (option_map (λ (known : Known). known.truth) known) ≡ true
  of_known None is = is
  of_known (Some known) is = refl

  by : (found : Option LeafKey) → slice_get keys place ≡ found
      → is_some (option_and_then (λ key. option_map (λ (known : Known). known.truth) (was key)) found) ≡ true
  by None is = absurd (not_none keys place within is)
  by (Some key) is = of_known (was key) (told place key is)

-- a truth that was told stays where a state alone is told
kept_untold : (told : Option (Bor Told)) (listed : ℕ) (truth : Option Truth)
    → truth_kept (stays_untold told listed) truth ≡ truth
kept_untold None listed truth = refl
kept_untold (Some told) listed truth = refl

-- one of two, where the first isn't
second_of : (one other : Bool) → one ≡ false → (one || other) ≡ true → other ≡ true
second_of one other off both = subst (λ (b : Bool). (b || other) ≡ true) off both

module _ {P X K C V : Type 0} (law : Law P DurationParams InnerEvent InnerDelta X K C (Row V)) (metric : LMetric)
    (spec : PredSpec) (installed : Installation) (way : Way X K C (Row V))
    (well : AsksWell (duration_asking installed metric spec way) law.collecting)
    (base_is : (own_demands (duration_asking installed metric spec way) law.collecting).base ≡ installed.base)
    (tells : (before : List Step) (frame : LogFrame) (at : ℕ) → TellsInner installed metric spec
    (calls_crossed (duration_asking installed metric spec way) law.collecting before frame at) before)
    (times : timed_predicate metric ≡ Some metric.what) where
  abbrev own : Asking DurationParams InnerNews InnerEvent InnerDelta X K C (Row V)
  own = duration_asking installed metric spec way

  -- by the calls and what they tell: no more than the duration's questions, and none where the atom doesn't touch it
  known_few : (steps : List Step) (step : Step) (calls : List DurationCall) (at : ℕ) (event : Option InnerEvent)
      (middle : P) (stays : Stays) (before after : ℕ)
      → event ≡ inner_event_at installed metric step
      → TellsInner installed metric spec calls steps
      → law.stands middle (duration_params installed.base metric spec) (calls ++ coming at event)
      → AsksOfAll law.stands middle stays before after
      → (touched : Bool) → is_touched installed.linked.predicates metric step.truths ≡ touched
      → (touched ≡ false → (told : Option Truth) → truth_kept stays told ≡ told)
      → after ≤ before + (if touched then duration_questions installed steps metric spec else 0)
  known_few steps step calls at event middle stays before after event_there told stands asks true touch staying =
      let few = (asks (duration_params installed.base metric spec) (calls ++ coming at event) stands).0 in
      let more = one_more_listed spec calls at event in
      let same = ap (λ (s : PredicateState LeafKey). length s.counts) told.knows.state in
      omega (arith, few, more, same)
  known_few steps step calls at event middle stays before after event_there told stands asks false touch staying =
      let acts = calls ++ coming at event in
      let knows : KnowsActed installed metric spec acts steps step =
      acted installed metric spec steps step calls at event (sym event_there) told in
      let now = listed_after installed metric spec (steps ++ step ∷ []) in
      let same = (asks (duration_params installed.base metric spec) acts stands).1
      (λ place within. ap is_some (staying refl
      (option_and_then (λ key. option_map (λ (known : Known). known.truth) (last_known spec acts key))
      (slice_get (inner_keys spec acts) place)))
      ∙ told_at (last_known spec acts) (inner_keys spec acts)
      (λ place key is.
      let listed : is_among same_leaves key now ≡ true =
      subst (λ (s : PredicateState LeafKey). is_among same_leaves key (keys_of s.counts) ≡ true) knows.state
      (among_there (inner_keys spec acts) place key is) in
      ap is_some (knows.told key listed
      ∙ listed_told installed metric spec steps key
      (subst (λ (s : PredicateState LeafKey). is_among same_leaves key (keys_of s.counts) ≡ true)
      (untouched_inner installed metric spec steps step times touch) listed)))
      place within) in
      omega (arith, same)

  -- an atom that touches the metric or tells a state by which it is sliced costs no more than its questions
  pub atom_few : (shown frame : LogFrame) (truths : List Bool) (given : Handed)
      (old crossed middle : Lane P InnerEvent InnerDelta V) (event : Option InnerEvent) (steps : List Step)
      (was : Before) (stays : Stays) (before after at : ℕ) (atom : Atom) → shown ≡ AtomAt at atom
      → GetsFrame law old crossed (moment_of shown (log_time shown))
      → GetsCalls law crossed middle (coming (log_time shown) event)
      → event ≡ event_in (slice_get given.known.predicates metric.what) truths atom
      → stays ≡ stays_by (acts_below given.known.predicates truths metric.condition)
      (tells_one given.states atom.id metric.slices) was
      → (is_touched given.known.predicates metric truths || tells_one given.states atom.id metric.slices) ≡ true
      → AsksOfAll law.stands middle.producer stays before after
      → MayLog installed steps given shown frame truths → Along own law steps old
      → after ≤ before + (if is_touched installed.linked.predicates metric truths
      then duration_questions installed steps metric spec else 0)
  atom_few shown frame truths given old crossed middle event steps was stays before after at atom is crosses acts
      event_there stays_are changes asks may along =
      let step = logged_step frame truths in
      let log = log_after installed steps in
      let when = log_time frame in
      let found = measured installed metric in
      let moment : moment_of shown (log_time shown) ≡ moment_of frame when =
      ap (λ f. moment_of f (log_time f)) may.shown_is ∙ shown_moment log frame in
      let time : log_time shown ≡ when = ap (λ (m : Moment). m.at) moment in
      let in_time = subst (λ b. ComeInTime b (with_logged steps frame truths)) (sym base_is) may.in_time in
      let both = along_crosses own law well steps frame truths old crossed
      (subst (GetsFrame law old crossed) moment crosses) along in_time in
      let calls = calls_crossed own law.collecting steps frame when in
      let told = told_by (steps_seen own steps) ++ Saw (moment_of frame when) ∷ [] in
      let demands = own_demands own law.collecting in
      let event_is_there : event ≡ inner_event_at installed metric step =
      event_there
      ∙ ap (λ (ps : List LPredicate). event_in (slice_get ps metric.what) truths atom) may.found.predicates
      ∙ event_is found at atom truths
      ∙ ap (λ f. first_event_of (inner_events found (logged_step f truths))) (sym is ∙ may.shown_is)
      ∙ shown_event found log frame truths in
      let may_act : AreAdmitted demands calls (coming when event) =
      subst (λ e. AreAdmitted demands calls (coming when e)) (sym event_is_there)
      (admits-front demands calls (coming when (inner_event_at installed metric step))
      (learning when (inner_news installed metric spec steps step).delta) both.1) in
      let has : LaneHas law middle own.params told (calls ++ coming when event) =
      subst (λ t. GetsCalls law crossed middle (coming t event)) time acts own.params told calls both.0 may_act in
      let given_same : is_touched given.known.predicates metric truths
      ≡ is_touched installed.linked.predicates metric truths =
      ap (λ (ps : List LPredicate). is_touched ps metric truths) may.found.predicates in
      known_few steps step calls when event middle.producer stays before after event_is_there (tells steps frame when)
      has.producer asks (is_touched installed.linked.predicates metric truths) refl
      (λ off told.
      let given_off = given_same ∙ off in
      let predicates = given.known.predicates in
      let calm = (neither (acts_below predicates truths metric.condition)
      (acts_below predicates truths (timed_predicate metric))
      (neither (names_atom_itself metric truths) _ given_off).1).0 in
      let tells_it = second_of (is_touched predicates metric truths) (tells_one given.states atom.id metric.slices)
      given_off changes in
      ap (λ (s : Stays). truth_kept s told)
      (stays_are ∙ ap (λ b. stays_by b (tells_one given.states atom.id metric.slices) was) calm
      ∙ ap (λ b. stays_by false b was) tells_it)
      ∙ kept_untold was.told was.listed told)
