-- A lane of durations takes one more frame of the log: lemmas for those that sum and those that show the longest.
use Rattle.std.proofs.Common.{◌≡◌, ℕ, Bool, false, List, [], ◌∷◌, ◌++◌, length, slice_get, Option, Some, None, refl, sym, ap, subst, ◌∙◌, append_assoc, append-nil}
use Rattle.std.specs.Prelude.{is_some}
use Rattle.std.specs.Map.{keys_of}
use Rattle.std.specs.Option.{option_copied}
use Rattle.std.proofs.lemmas.Option.{none-some, slice_get_within, get_or_from_slice_get, same_Some}
use Rattle.atom_record.specs.declared.atom.Atom.{Atom}
use Rattle.atom_record.specs.declared.log.LogFrame.{LogFrame}
use Rattle.atom_record.specs.declared.log.LogFrame.TheVariants.{Tick, AtomAt, Pull}
use Rattle.bucket_meaning.specs.Ends.{Moment}
use Rattle.bucket_clock.specs.Clock.{Saw}
use Rattle.config_types.specs.declared.parameters.PredSpec.{PredSpec}
use Rattle.config_links.specs.declared.linked.LMetric.{LMetric}
use Rattle.config_links.specs.declared.linked.LPredicate.{LPredicate}
use Rattle.config_links.specs.declared.linked.LPredBody.{LPredBody}
use Rattle.config_links.specs.declared.linked.LPredBody.TheVariants.{Simple, Combo}
use Rattle.config_links.specs.LinkScopes.{spec_in}
use Rattle.config_links.specs.SoundConfig.{IsSoundDuration}
use Rattle.metric_producer.specs.Calls.{Call}
use Rattle.metric_producer.specs.Rules.{AreAdmitted}
use Rattle.metric_producer.specs.LaneCalls.{coming, told_by}
use Rattle.metric_producer.specs.Collecting.{Law, demands_of}
use Rattle.metric_producer.specs.declared.row.Row.{Row}
use Rattle.metric_producer.proofs.RuleLemmas.{admits-front, admits-back}
use Rattle.predicate_state.specs.PredicateStates.{PredicateState}
use Rattle.predicate_state.specs.PredicateTable.{LeafKey}
use Rattle.session_frames.specs.FrameReading.{log_time}
use Rattle.metric_lane.specs.LaneStands.{LaneHas, GetsFrame, GetsCalls, LogsNews}
use Rattle.metric_lane.specs.declared.lane.Lane.{Lane}
use Rattle.metric_lane.proofs.LaneStepsLemmas.{news_logs}
use Rattle.duration_metric.specs.declared.change.InnerEvent.{InnerEvent}
use Rattle.duration_metric.specs.declared.change.InnerChange.{InnerChange}
use Rattle.duration_metric.specs.declared.change.InnerDelta.{InnerDelta}
use Rattle.duration_metric.specs.InnerKeys.{DurationParams, DurationCall, inner_keys, last_known}
use Rattle.metric_meaning.specs.Histories.{Step, Installation, moment_of, log_after}
use Rattle.metric_meaning.specs.ShownFrames.{shown_as}
use Rattle.metric_meaning.specs.Scenes.{Scene, scene_after}
use Rattle.metric_meaning.specs.Ways.{Way}
use Rattle.metric_meaning.specs.DurationSteps.{inner_fields, measured, inner_events}
use Rattle.metric_meaning.specs.Touched.{acts_below, timed_predicate, is_touched}
use Rattle.metric_meaning.proofs.TouchedDurations.{untouched_idle}
use Rattle.metric_calls.specs.Askings.{Asking, own_demands, steps_seen, calls_crossed, AsksWell}
use Rattle.metric_calls.specs.DurationCalls.{first_event_of, event_in, known_in, changes_from, delta_with, learning, InnerNews, inner_asks, duration_params, duration_asking, listed_after, known_after, told_after, inner_event_at, inner_changes, inner_news, IsTimedWell}
use Rattle.metric_calls.proofs.InnerChangesLemmas.{changes_alike}
use Rattle.metric_calls.proofs.InnerToldLemmas.{TellsInner, KnowsActed, acted, quiet_event, quiet_changes}
use Rattle.metric_calls.proofs.QuietStepsLemmas.{IsQuiet, tick_quiet, pull_quiet}
use Rattle.client_engine.specs.Along.{Along}
use Rattle.client_engine.specs.Handed.{Handed, IsOfScene}
use Rattle.known_conditions.specs.KeptPredicates.{HasItsLeaves, KeepsItsLeaves}
use Rattle.client_engine.specs.NextSteps.{with_logged, ComeInTime, MayLog}
use Rattle.known_conditions.specs.Known.{logged_step}
use Rattle.client_engine.specs.SoundMetrics.{IsSoundIn}
use Rattle.known_conditions.specs.Touchers.{tells_one}
use Rattle.client_engine.specs.Telling.{IsKeyTold}
use Rattle.client_engine.specs.Turning.{IsTurn}
use Rattle.client_engine.specs.Staying.{stays_by, KeepsWhatStays}
use Rattle.client_engine.specs.InnerTold.{StaysInScene}
use Rattle.client_engine.specs.declared.stays.Before.{Before}
use Rattle.client_engine.specs.declared.stays.Stays.{Stays}
use Rattle.client_engine.proofs.AlongLemmas.{along_logs, along_crosses}
use Rattle.client_engine.proofs.ShownLemmas.{shown_moment}
use Rattle.client_engine.proofs.StaysLemmas.{stays_so}
use Rattle.client_engine.proofs.UntouchedLemmas.{shown_atom, nothing_changes}

-- an inner table has as many leaves as the predicate that is timed has dimensions
timed_leaves : (found : Option LPredicate) (timed : PredSpec)
    → ((predicate : LPredicate) → found ≡ Some predicate → KeepsItsLeaves predicate) → spec_in found ≡ Some timed
    → timed.leaves ≡ length (inner_fields found).leaves
timed_leaves None timed keeps is = absurd (none-some timed is)
timed_leaves (Some predicate) timed keeps is = of_body predicate.body (keeps predicate refl) is where
  of_body : (body : LPredBody) → HasItsLeaves body
      → spec_in (Some (record predicate { body = body })) ≡ Some timed
      → timed.leaves ≡ length (inner_fields (Some (record predicate { body = body }))).leaves
  of_body (Combo op children) leaves some = absurd (none-some timed some)
  of_body (Simple start stop stop_all dims spec) leaves some =
      ap (λ (s : PredSpec). s.leaves) (sym (same_Some spec timed some)) ∙ leaves

-- a sound duration is timed well where it is installed
pub timed_well : (installed : Installation) (metric : LMetric) (spec : PredSpec) → IsSoundIn installed.linked metric
    → IsSoundDuration installed.linked metric spec → IsTimedWell installed metric spec
timed_well installed metric spec sound duration =
    let predicates = installed.linked.predicates in
    record {
      leaves = ap (λ (s : PredSpec). s.leaves) duration.kept
          ∙ timed_leaves (slice_get predicates metric.what) duration.timed
          (λ predicate is. subst KeepsItsLeaves (get_or_from_slice_get predicates metric.what predicate predicate is)
          (sound.leaves metric.what predicate (slice_get_within predicates metric.what predicate is)))
          duration.is;
      bound = ap (λ (s : PredSpec). s.bound) duration.kept;
    }

-- what an atom does to a predicate is what its step does
pub event_is : (found : Option LPredicate) (at : ℕ) (atom : Atom) (truths : List Bool)
    → event_in found truths atom ≡ first_event_of (inner_events found (logged_step (AtomAt at atom) truths))
event_is None at atom truths = refl
event_is (Some predicate) at atom truths = refl

-- the frame that is shown does the same
pub shown_event : (found : Option LPredicate) (log : List LogFrame) (frame : LogFrame) (truths : List Bool)
    → first_event_of (inner_events found (logged_step (shown_as log frame) truths))
    ≡ first_event_of (inner_events found (logged_step frame truths))
shown_event None log frame truths = refl
shown_event (Some predicate) log (Tick at) truths = refl
shown_event (Some predicate) log (AtomAt at atom) truths = refl
shown_event (Some predicate) log (Pull at id outcome) truths = refl

-- a frame of the log is no atom
abbrev pub IsOther : LogFrame → Type 0
IsOther (AtomAt at atom) = ⊥
IsOther _ = Unit {0}

-- where a frame is not an atom, it is another
pub is_other : (frame : LogFrame) → ((at : ℕ) (atom : Atom) → ¬ (frame ≡ AtomAt at atom)) → IsOther frame
is_other (Tick at) none = tt
is_other (AtomAt at atom) none = none at atom refl
is_other (Pull at id outcome) none = tt

-- what is shown of one does nothing
other_quiet : (log : List LogFrame) (frame : LogFrame) (truths : List Bool) → IsOther (shown_as log frame)
    → IsQuiet (logged_step frame truths)
other_quiet log (Tick at) truths other = tick_quiet at at truths
other_quiet log (AtomAt at atom) truths other = absurd other
other_quiet log (Pull at id outcome) truths other = pull_quiet at at id outcome truths

-- calls after calls
calls_both : {P Params Event After X K C V : Type 0} (law : Law P Params Event After X K C (Row V))
    (old middle new : Lane P Event After V) (first second : List (Call Event After)) → GetsCalls law old middle first
    → GetsCalls law middle new second → GetsCalls law old new (first ++ second)
calls_both law old middle new first second acts tells params told calls has admitted =
    subst (LaneHas law new params told) (append_assoc calls first second)
    (tells params told (calls ++ first)
    (acts params told calls has (admits-front (demands_of law params) calls first second admitted))
    (admits-back (demands_of law params) calls first second admitted))

-- nothing more
pub no_calls : {P Params Event After X K C V : Type 0} (law : Law P Params Event After X K C (Row V))
    (lane : Lane P Event After V) → GetsCalls law lane lane []
no_calls law lane params told calls has admitted = subst (LaneHas law lane params told) (sym (append-nil calls)) has

-- What is found of inner keys once an atom's event came: what was known before it, what stays by the two tests, and
-- what changed, where that stays.
pub record IsFoundAt {P X K C V : Type 0} (law : Law P DurationParams InnerEvent InnerDelta X K C (Row V))
    (metric : LMetric) (given : Handed) (truths : List Bool) (atom : Atom) (crossed middle : P) (was : Before)
    (stays : Stays) (changes : List InnerChange) : Type 0 where
  pub listed_there : (params : DurationParams) (calls : List DurationCall) → law.stands crossed params calls
      → was.listed ≡ length (inner_keys params.spec calls)
  pub turn_there : IsTurn given.known.predicates metric truths atom (option_copied was.turn)
  pub told_there : IsKeyTold given.states metric.slices atom (option_copied was.told)
  pub stays_there : stays ≡ stays_by (acts_below given.known.predicates truths metric.condition)
      (tells_one given.states atom.id metric.slices) was
  pub changes_there : (params : DurationParams) (calls : List DurationCall) (scene : Scene)
      → law.stands middle params calls → IsOfScene given scene → StaysInScene stays params calls scene metric
      → changes ≡ changes_from (last_known params.spec calls) (known_in scene metric) 0 (inner_keys params.spec calls)

module _ {P X K C V : Type 0} (law : Law P DurationParams InnerEvent InnerDelta X K C (Row V)) (metric : LMetric)
    (spec : PredSpec) (installed : Installation) (way : Way X K C (Row V))
    (well : AsksWell (duration_asking installed metric spec way) law.collecting)
    (base_is : (own_demands (duration_asking installed metric spec way) law.collecting).base ≡ installed.base)
    (tells : (before : List Step) (frame : LogFrame) (at : ℕ) → TellsInner installed metric spec
    (calls_crossed (duration_asking installed metric spec way) law.collecting before frame at) before)
    (timed : IsTimedWell installed metric spec) where
  abbrev own : Asking DurationParams InnerNews InnerEvent InnerDelta X K C (Row V)
  own = duration_asking installed metric spec way

  -- What is handed on at a frame after these steps is what it brings: the event, and, once that came, what is told. The
  -- producer that crossed the frame knows what the steps told, and the other one knows the event, too.
  pub record IsNewsAt (steps : List Step) (frame : LogFrame) (truths : List Bool) (crossed middle : P)
      (event : Option InnerEvent) (delta : Option InnerDelta) : Type 0 where
    pub event_there : event ≡ inner_event_at installed metric (logged_step frame truths)
    pub delta_there : (calls : List DurationCall) (time : ℕ)
        → law.stands crossed (duration_params installed.base metric spec) calls
        → TellsInner installed metric spec calls steps
        → law.stands middle (duration_params installed.base metric spec) (calls ++ coming time event)
        → KnowsActed installed metric spec (calls ++ coming time event) steps (logged_step frame truths)
        → delta ≡ delta_with (is_some event) (inner_changes installed metric spec steps (logged_step frame truths))

  -- a lane takes one more frame of the log: what it crosses, the event, and then what is told
  pub inner_takes : (shown frame : LogFrame) (truths : List Bool) (given : Handed)
      (old crossed middle new : Lane P InnerEvent InnerDelta V) (event : Option InnerEvent) (delta : Option InnerDelta)
      (steps : List Step)
      → GetsFrame law old crossed (moment_of shown (log_time shown))
      → GetsCalls law crossed middle (coming (log_time shown) event)
      → GetsCalls law middle new (learning (log_time shown) delta)
      → IsNewsAt steps frame truths crossed.producer middle.producer event delta
      → MayLog installed steps given shown frame truths → Along own law steps old
      → Along own law (with_logged steps frame truths) new
  inner_takes shown frame truths given old crossed middle new event delta steps crosses acts learns news may along =
      let step = logged_step frame truths in
      let log = log_after installed steps in
      let at = log_time frame in
      let moment : moment_of shown (log_time shown) ≡ moment_of frame at =
      ap (λ f. moment_of f (log_time f)) may.shown_is ∙ shown_moment log frame in
      let time : log_time shown ≡ at = ap (λ (m : Moment). m.at) moment in
      let in_time = subst (λ b. ComeInTime b (with_logged steps frame truths)) (sym base_is) may.in_time in
      let both = along_crosses own law well steps frame truths old crossed
      (subst (GetsFrame law old crossed) moment crosses) along in_time in
      let calls = calls_crossed own law.collecting steps frame at in
      let told = told_by (steps_seen own steps) ++ Saw (moment_of frame at) ∷ [] in
      let demands = own_demands own law.collecting in
      let here : List DurationCall = coming at event in
      let may_act : AreAdmitted demands calls here =
      subst (λ e. AreAdmitted demands calls (coming at e)) (sym news.event_there)
      (admits-front demands calls (coming at (inner_event_at installed metric step))
      (learning at (inner_news installed metric spec steps step).delta) both.1) in
      let has : LaneHas law middle own.params told (calls ++ here) =
      subst (λ t. GetsCalls law crossed middle (coming t event)) time acts own.params told calls both.0 may_act in
      let knows : KnowsActed installed metric spec (calls ++ here) steps step =
      acted installed metric spec steps step calls at event (sym news.event_there) (tells steps frame at) in
      let delta_is = news.delta_there calls at both.0.producer (tells steps frame at) has.producer knows in
      let changes = inner_changes installed metric spec steps step in
      let brought : InnerNews = record { event = event; delta = delta } in
      let news_is : brought ≡ inner_news installed metric spec steps step =
      ap (λ (d : Option InnerDelta). let n : InnerNews = record { event = event; delta = d } in n) delta_is
      ∙ ap (λ (e : Option InnerEvent). let n : InnerNews = record {
        event = e;
        delta = delta_with (is_some e) changes;
      } in n) news.event_there in
      let logs : LogsNews law inner_asks old new (moment_of shown (log_time shown)) brought =
      news_logs law inner_asks old crossed new (moment_of shown (log_time shown)) brought crosses
      (λ seen. calls_both law crossed middle new (coming (log_time shown) event) (learning (log_time shown) delta) acts
      learns) in
      along_logs own law well steps frame truths old new (moment_of shown (log_time shown)) brought moment news_is logs
      along in_time

  -- a frame that isn't an atom brings nothing
  pub others_pass : (steps : List Step) (shown frame : LogFrame) (truths : List Bool) (given : Handed) (crossed : P)
      → IsOther shown → MayLog installed steps given shown frame truths
      → IsNewsAt steps frame truths crossed crossed None None
  others_pass steps shown frame truths given crossed other may =
      let quiet = other_quiet (log_after installed steps) frame truths (subst IsOther may.shown_is other) in
      let step = logged_step frame truths in
      record {
        event_there = sym (quiet_event installed metric spec steps step quiet);
        delta_there = λ calls time before tells stands knows.
            sym (ap (delta_with false) (quiet_changes installed metric spec steps step quiet));
      }

  -- nor does an atom that neither touches the metric nor tells a state by which it is sliced
  pub untouched_pass : (steps : List Step) (shown frame : LogFrame) (truths : List Bool) (given : Handed) (crossed : P)
      (at : ℕ) (atom : Atom) → shown ≡ AtomAt at atom → timed_predicate metric ≡ Some metric.what
      → is_touched given.known.predicates metric truths ≡ false
      → tells_one given.states atom.id metric.slices ≡ false
      → MayLog installed steps given shown frame truths
      → IsNewsAt steps frame truths crossed crossed None None
  untouched_pass steps shown frame truths given crossed at atom is times untouched untold may =
      let frame_is = shown_atom (log_after installed steps) frame at atom (sym may.shown_is ∙ is) in
      let untouched_there : is_touched installed.linked.predicates metric truths ≡ false =
      sym (ap (λ ps. is_touched ps metric truths) may.found.predicates) ∙ untouched in
      let untold_there : tells_one installed.linked.states atom.id metric.slices ≡ false =
      sym (ap (λ states. tells_one states atom.id metric.slices) may.found.states) ∙ untold in
      let idle = untouched_idle installed metric spec steps (logged_step frame truths) times untouched_there in
      record {
        event_there = sym (ap first_event_of idle);
        delta_there = λ calls time before tells stands knows. sym (ap (delta_with false)
            (subst (λ f. inner_changes installed metric spec steps (logged_step f truths) ≡ []) (sym frame_is)
            (nothing_changes installed metric spec steps truths at at atom untouched_there untold_there times)));
      }

  -- an atom brings the event that it makes, and the changes that are found once that came
  pub atom_comes : (steps : List Step) (shown frame : LogFrame) (truths : List Bool) (given : Handed)
      (crossed middle : P) (event : Option InnerEvent) (was : Before) (stays : Stays)
      (changes : List InnerChange) (at : ℕ)
      (atom : Atom) → shown ≡ AtomAt at atom
      → event ≡ event_in (slice_get given.known.predicates metric.what) truths atom
      → IsFoundAt law metric given truths atom crossed middle was stays changes
      → MayLog installed steps given shown frame truths
      → IsNewsAt steps frame truths crossed middle event (delta_with (is_some event) changes)
  atom_comes steps shown frame truths given crossed middle event was stays changes at atom is event_there there may =
      let params = duration_params installed.base metric spec in
      let step = logged_step frame truths in
      let now = known_after installed metric (steps ++ step ∷ []) in
      let listed_now = listed_after installed metric spec (steps ++ step ∷ []) in
      let found = measured installed metric in
      let fields = inner_fields found in
      let log = log_after installed steps in
      let frame_is = shown_atom log frame at atom (sym may.shown_is ∙ is) in
      record {
        event_there = event_there
            ∙ ap (λ ps. event_in (slice_get ps metric.what) truths atom) may.found.predicates
            ∙ event_is found at atom truths
            ∙ ap (λ f. first_event_of (inner_events found (logged_step f truths))) (sym is ∙ may.shown_is)
            ∙ shown_event found log frame truths;
        delta_there = λ calls time before tells stands knows.
            let acted = calls ++ coming time event in
            let keeps : KeepsWhatStays fields stays (last_known spec acted) now (inner_keys spec acted) =
            subst (λ f. KeepsWhatStays fields stays (last_known spec acted)
            (known_after installed metric (steps ++ logged_step f truths ∷ [])) (inner_keys spec acted)) (sym frame_is)
            (subst (λ s. KeepsWhatStays fields s (last_known spec acted)
            (known_after installed metric (steps ++ logged_step (AtomAt at atom) truths ∷ [])) (inner_keys spec acted))
            (sym there.stays_there)
            (stays_so installed metric spec steps truths at atom calls time event tells
            (subst (λ f. KnowsActed installed metric spec acted steps (logged_step f truths)) frame_is knows)
            (acts_below given.known.predicates truths metric.condition) (tells_one given.states atom.id metric.slices)
            was (sym (ap (λ ps. acts_below ps truths metric.condition) may.found.predicates))
            (sym (ap (λ states. tells_one states atom.id metric.slices) may.found.states))
            (there.listed_there params calls before)
            (subst (λ ps. IsTurn ps metric truths atom (option_copied was.turn)) may.found.predicates
            there.turn_there)
            (subst (λ states. IsKeyTold states metric.slices atom (option_copied was.told)) may.found.states
            there.told_there))) in
            ap (delta_with (is_some event))
            (there.changes_there params acted
            (scene_after installed (with_logged steps frame truths)) stands may.found keeps
            ∙ ap (λ (s : PredicateState LeafKey). changes_from (last_known spec acted) now 0 (keys_of s.counts))
            knows.state
            ∙ changes_alike (last_known spec acted)
            (told_after installed metric spec steps) now 0 listed_now knows.told);
      }
