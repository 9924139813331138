-- An instance, one step more.
use Rattle.std.proofs.Common.{◌≡◌, ℕ, ◌+◌, ◌≤◌, ◌<◌, Bool, List, [], ◌∷◌, ◌++◌, length, map, filter, get_or, slice_get, All, AllPairs, Some, refl, sym, ap, subst, ◌∙◌, append_assoc, arith, ◌≢◌, ◌⊎◌, inl, inr}
use Rattle.std.proofs.lemmas.Bool.{cases_lt}
use Rattle.std.proofs.lemmas.List.Concat.{flat_map-append}
use Rattle.std.proofs.lemmas.List.Elements.{All-weaker}
use Rattle.std.proofs.lemmas.Option.{slice_get_within, slice_get-get_or, get_or_from_slice_get}
use Rattle.std.specs.List.{flat_map}
use Rattle.pull_book.specs.PullBooks.{PullBookStandsFor}
use Rattle.state_slicer.specs.StateBooks.{StateBookStandsFor}
use Rattle.atom_record.specs.declared.log.LogFrame.{LogFrame}
use Rattle.bucket_meaning.specs.Limits.{time_limit}
use Rattle.config_links.specs.declared.linked.Linked.{Linked}
use Rattle.config_links.specs.declared.linked.LMatcher.{LMatcher}
use Rattle.config_links.specs.declared.linked.LMatcher.TheVariants as linked_matchers
use Rattle.config_links.specs.declared.linked.LState.{LState}
use Rattle.config_links.specs.declared.linked.LAlert.{LAlert}
use Rattle.config_links.specs.declared.linked.LMetric.{LMetric}
use Rattle.config_links.specs.declared.linked.LPredicate.{LPredicate}
use Rattle.config_links.specs.declared.linked.LPredBody.{LPredBody}
use Rattle.config_links.specs.declared.linked.LPredBody.TheVariants.{Simple, Combo}
use Rattle.config_links.specs.SoundConfig.{IsBound, IsSoundBody, IsSoundMatcher, IsSoundPredicate, IsSoundMetric, IsSoundConfig}
use Rattle.config_links.proofs.SoundUses.{references_end}
use Rattle.session_frames.specs.FrameReading.{log_time}
use Rattle.metric_meaning.specs.Histories.{Step, What, Reported, Logged, Installation, History, frames_at, logged_frames, log_after, log_of_history}
use Rattle.metric_meaning.specs.ShownFrames.{shown_as}
use Rattle.metric_meaning.specs.StateDrops.{drops_of_states, dropped_for}
use Rattle.metric_meaning.specs.PredicateSteps.{table_spec, tables_after, predicate_drops, table_after, drop_above_zero}
use Rattle.metric_meaning.specs.AlarmTrees.{alarm_trees, alarm_drops}
use Rattle.metric_meaning.specs.Reports.{report_of, last_report}
use Rattle.metric_meaning.proofs.PredicateStepsLemmas.{tables_after-idle}
use Rattle.report_writer.specs.declared.tree.MetricTree.{MetricTree}
use Rattle.report_writer.specs.declared.tree.ReportTree.{ReportTree}
use Rattle.client_engine.specs.NextSteps.{reported_step, with_logged, MayLog, MayReport, TakesFrame, requested_tree}
use Rattle.known_conditions.specs.Known.{logged_step}
use Rattle.known_conditions.specs.Known.{Known, KnowsAfter, KnowsStep, drops_in}
use Rattle.client_engine.specs.Handed.{BookOfStates, Handed, handed}
use Rattle.client_engine.specs.Questions.{questions_of}
use Rattle.client_engine.proofs.QuestionsLemmas.{shown_questions}
use Rattle.client_engine.proofs.ShownLemmas.{shown_time, shown_tables}
use Rattle.known_conditions.specs.KeptPredicates.{HasItsLeaves, KeepsItsLeaves, HasBound, CanBeKept}
use Rattle.client_engine.specs.Tracks.{CanBeTracked, metric_in, AsksWithin, AllAskWithin, AreNew, AllStandFor, AllReport}
use Rattle.client_engine.specs.SoundMetrics.{AreInstalled}
use Rattle.client_engine.specs.Alarms.{AreAlarmsOf}
use Rattle.client_engine.specs.Watches.{CanBeWatched}
use Rattle.client_engine.specs.Running.{Running, linked_of}
use Rattle.client_engine.specs.InstanceParts.{tree_with, AreStateDrops}
use Rattle.client_engine.specs.InstanceStands.{new_history, InstanceStandsFor, last_step_time, IsFresh, Logs, AsksAtMost, Reports}
use Rattle.client_engine.specs.Finding.{MayAsk}
use Rattle.client_engine.proofs.LastStepLemmas.{in_time-push}
use Rattle.client_engine.specs.declared.opening.Opening.{Opening}
use Rattle.client_engine.specs.declared.alarms.AlarmsShown.{AlarmsShown}
use Rattle.client_engine.specs.declared.parts.Drops.{Drops}
use Rattle.client_engine.specs.declared.track.Track.{Track}
use Rattle.client_engine.specs.declared.request.ReportRequest.{ReportRequest}

-- the clock at the last report, after a step at a time
abbrev pub reported_or : ℕ → ℕ → What → ℕ
reported_or last at (Logged frame) = last
reported_or last at (Reported include_current) = at

-- the clock at the last report, after a first step
last_report-first : (last at : ℕ) (what : What) (truths : List Bool) (steps : List Step)
    → last_report last (record { at = at; what = what; truths = truths } ∷ steps)
    ≡ last_report (reported_or last at what) steps
last_report-first last at (Logged frame) truths steps = refl
last_report-first last at (Reported include_current) truths steps = refl

-- the clock at the last report, with one more step
pub last_report-push : (last : ℕ) (steps : List Step) (step : Step)
    → last_report last (steps ++ step ∷ []) ≡ reported_or (last_report last steps) step.at step.what
last_report-push last [] step = last_report-first last step.at step.what step.truths []
last_report-push last (first ∷ steps) step =
    last_report-first last first.at first.what first.truths (steps ++ step ∷ [])
    ∙ last_report-push (reported_or last first.at first.what) steps step
    ∙ ap (λ time. reported_or time step.at step.what)
    (sym (last_report-first last first.at first.what first.truths steps))

-- the drops that tables have after some steps are those that these steps make
drops_are : (predicates : List LPredicate) (steps : List Step)
    → drops_in predicates (tables_after predicates steps) ≡ predicate_drops predicates steps
drops_are [] steps = refl
drops_are (predicate ∷ predicates) steps =
    ap (λ l. drop_above_zero (record { id = predicate.id; number = (table_after predicate steps).state.dropped }) ++ l)
    (drops_are predicates steps)

-- the whole log after one more frame
log_after-push : (installed : Installation) (steps : List Step) (frame : LogFrame) (truths : List Bool)
    → log_after installed (with_logged steps frame truths) ≡ log_after installed steps ++ frame ∷ []
log_after-push installed steps frame truths =
    ap (λ l. installed.opening ++ l)
    (flat_map-append (λ (step : Step). frames_at step.what) steps (logged_step frame truths ∷ []))
    ∙ sym (append_assoc installed.opening (logged_frames steps) (frame ∷ []))

-- the configuration of these
abbrev linked_with : List LMatcher → List LState → List LAlert → List LPredicate → List LMetric → Linked
linked_with matchers states alerts predicates metrics = record {
  matchers = matchers;
  predicates = predicates;
  states = states;
  metrics = metrics;
  alerts = alerts;
}

-- it stays where its predicates and its metrics do
pub linked_stays : (matchers : List LMatcher) (states : List LState) (alerts : List LAlert) (now old : List LPredicate)
    (metrics_now metrics_old : List LMetric) → now ≡ old → metrics_now ≡ metrics_old
    → linked_with matchers states alerts now metrics_now ≡ linked_with matchers states alerts old metrics_old
linked_stays matchers states alerts now old metrics_now metrics_old predicates metrics =
    ap (λ ps. linked_with matchers states alerts ps metrics_now) predicates
    ∙ ap (linked_with matchers states alerts old) metrics

-- whatever history an instance stands for, a frame that may come next after it comes in time to its metrics, and what
-- is handed with it is what is found then
pub instance_may_log : (old : Running) (known : Known) (shown : LogFrame) (truths : List Bool) (book : BookOfStates)
    → known.predicates ≡ old.known.predicates → KnowsStep (logged_step shown truths) old.known known
    → log_time shown < time_limit → (history : History) (frame : LogFrame) → InstanceStandsFor old history
    → last_step_time history ≤ log_time frame → shown ≡ shown_as (log_of_history history) frame
    → StateBookStandsFor book (log_of_history history ++ frame ∷ [])
    → MayLog history.installed history.steps (handed known old.matchers old.states book) shown frame truths
instance_may_log old known shown truths book stays knows_step fits history frame has later shown_is book_is =
    let step = logged_step frame truths in
    let installed = history.installed in
    let log = log_of_history history in
    let time : log_time shown ≡ log_time frame = ap log_time shown_is ∙ shown_time log frame in
    let predicates : known.predicates ≡ installed.linked.predicates =
    stays ∙ ap (λ (l : Linked). l.predicates) has.linked in
    let knows : known.tables ≡ tables_after known.predicates (history.steps ++ step ∷ []) =
    knows_step history.steps has.knows
    ∙ ap (λ f. tables_after known.predicates (history.steps ++ logged_step f truths ∷ [])) shown_is
    ∙ shown_tables known.predicates history.steps log frame truths in
    record {
      shown_is = shown_is;
      found = record {
        predicates = predicates;
        tables = knows ∙ ap (λ ps. tables_after ps (history.steps ++ step ∷ [])) predicates;
        matchers = ap (λ (l : Linked). l.matchers) has.linked;
        states = ap (λ (l : Linked). l.states) has.linked;
        book = subst (StateBookStandsFor book) (sym (log_after-push installed history.steps frame truths)) book_is;
      };
      in_time = in_time-push installed.base history.steps step has.in_time
          (later, subst (λ t. t < time_limit) time fits);
    }

-- whatever steps the tracks stood for, a counter rises by no more than the questions of their metrics at a frame that
-- may come next with what is handed
abbrev pub TracksAsk : List Track → Handed → LogFrame → List Bool → ℕ → ℕ → Type 0
TracksAsk tracks given shown truths before after =
    (installed : Installation) (steps : List Step) (frame : LogFrame) → AllStandFor installed steps tracks
    → MayLog installed steps given shown frame truths
    → after ≤ before + questions_of (map metric_in tracks) installed steps shown truths

-- a counter of an instance rises by no more than the questions of its metrics
pub instance_asks : (old : Running) (known : Known) (shown : LogFrame) (truths : List Bool) (book : BookOfStates)
    (before after : ℕ) → known.predicates ≡ old.known.predicates
    → KnowsStep (logged_step shown truths) old.known known → log_time shown < time_limit
    → TracksAsk old.tracks (handed known old.matchers old.states book) shown truths before after
    → AsksAtMost old shown truths book before after
instance_asks old known shown truths book before after stays knows_step fits asks history frame has later view shown_is
    book_is =
    let installed = history.installed in
    let few = asks installed history.steps frame has.tracks
    (instance_may_log old known shown truths book stays knows_step fits history frame has later shown_is book_is) in
    let metrics = ap (λ (l : Linked). questions_of l.metrics installed history.steps shown truths) has.linked in
    let same = ap (λ f. questions_of installed.linked.metrics installed history.steps f truths) shown_is
    ∙ shown_questions installed.linked.metrics installed history.steps (log_of_history history) frame truths in
    omega (arith, few, metrics, same)

-- an instance takes one more frame of the log, which is shown so
pub instance_logs : (old new : Running) (shown : LogFrame) (truths : List Bool) (book : BookOfStates)
    → new ≡ record old { known = new.known; tracks = new.tracks } → linked_of new ≡ linked_of old
    → KnowsStep (logged_step shown truths) old.known new.known
    → TakesFrame AllStandFor (handed new.known old.matchers old.states book) shown truths old.tracks new.tracks
    → log_time shown < time_limit → Logs old shown truths book new
instance_logs old new shown truths book same stays knows_step steps_on fits history frame has later
    view shown_is book_is =
    let step = logged_step frame truths in
    let installed = history.installed in
    let linked = installed.linked in
    let log = log_of_history history in
    let time : log_time shown ≡ log_time frame = ap log_time shown_is ∙ shown_time log frame in
    let in_time = in_time-push installed.base history.steps step has.in_time
    (later, subst (λ t. t < time_limit) time fits) in
    let linked_is : linked_of new ≡ linked = stays ∙ has.linked in
    let knows : new.known.tables ≡ tables_after new.known.predicates (history.steps ++ step ∷ []) =
    knows_step history.steps has.knows
    ∙ ap (λ f. tables_after new.known.predicates (history.steps ++ logged_step f truths ∷ [])) shown_is
    ∙ shown_tables new.known.predicates history.steps log frame truths in
    record {
      linked = linked_is;
      base = ap (λ (it : Running). it.base) same ∙ has.base;
      last = ap (λ (it : Running). it.last) same ∙ has.last
          ∙ sym (last_report-push installed.base history.steps step);
      in_time = in_time;
      knows = knows;
      tracks = steps_on installed history.steps frame has.tracks
          (instance_may_log old new.known shown truths book (ap (λ (l : Linked). l.predicates) stays) knows_step fits
          history frame has later shown_is book_is);
    }

-- what metrics ask of predicates stays where both stay
pub asked_after : (old new : Running) → linked_of new ≡ linked_of old → AllAskWithin old.known old.tracks
    → AllAskWithin new.known new.tracks
asked_after old new same asked =
    subst (λ (l : Linked). All (AsksWithin (length l.predicates)) l.metrics) (sym same) asked

-- an instance takes one more report
pub instance_reports : (old new : Running) (request : ReportRequest) (book : BookOfStates) (tree : ReportTree)
    (trees : List MetricTree) (drops : Drops) (alarms : AlarmsShown)
    → new ≡ record old { tracks = new.tracks; last = request.at }
    → linked_of new ≡ linked_of old → tree ≡ tree_with request old.last trees drops alarms
    → drops.of_predicates ≡ drops_in old.known.predicates old.known.tables → AreStateDrops old.states book drops
    → AreAlarmsOf old.alerts old.tracks alarms → AllReport old.base request old.tracks new.tracks trees
    → Reports old request book new tree
unfolding report_of
instance_reports old new request book tree trees drops alarms same stays tree_is predicate_drops_are state_drops_are
    alarms_are reports history has now =
    let step = reported_step request in
    let steps = history.steps in
    let installed = history.installed in
    let linked = installed.linked in
    let in_time = in_time-push installed.base steps step has.in_time (sym now) in
    let may : MayReport installed steps old.base request = record {
      base_is = sym has.base;
      in_time = in_time;
    } in
    let predicates_are : old.known.predicates ≡ linked.predicates = ap (λ (l : Linked). l.predicates) has.linked
    in
    let states_are : old.states ≡ linked.states = ap (λ (l : Linked). l.states) has.linked in
    let known : new.known ≡ old.known = ap (λ (it : Running). it.known) same in
    let last = last_report installed.base steps in (
      record {
        linked = stays ∙ has.linked;
        base = ap (λ (it : Running). it.base) same ∙ has.base;
        last = ap (λ (it : Running). it.last) same ∙ sym (last_report-push installed.base steps step);
        in_time = in_time;
        knows = subst (KnowsAfter (steps ++ step ∷ [])) (sym known)
            (has.knows ∙ sym (tables_after-idle old.known.predicates steps step (λ predicate. refl)));
        tracks = reports.stand installed steps has.tracks may;
      },
      λ book_is.
          let of_predicates : drops.of_predicates ≡ predicate_drops linked.predicates steps =
          predicate_drops_are ∙ ap (drops_in old.known.predicates) has.knows
          ∙ drops_are old.known.predicates steps ∙ ap (λ ps. predicate_drops ps steps) predicates_are in
          let of_states : drops.of_states ≡ drops_of_states linked.states (log_of_history history) =
          state_drops_are.keys (log_of_history history) book_is
          ∙ ap (λ states. drops_of_states states (log_of_history history)) states_are in
          let of_atoms : drops.of_atoms ≡ dropped_for linked.states (log_of_history history) =
          state_drops_are.atoms (log_of_history history) book_is
          ∙ ap (λ states. dropped_for states (log_of_history history)) states_are in
          let metrics_are : map metric_in old.tracks ≡ linked.metrics = ap (λ (l : Linked). l.metrics) has.linked in
          let alerts_are : old.alerts ≡ linked.alerts = ap (λ (l : Linked). l.alerts) has.linked in
          let all : Drops = record {
            of_predicates = predicate_drops linked.predicates steps;
            of_states = drops_of_states linked.states (log_of_history history);
            of_atoms = dropped_for linked.states (log_of_history history);
          } in
          let shown = map (requested_tree installed steps request)
          (filter (λ (metric : LMetric). metric.shown) linked.metrics) in
          let of_alerts = alarms_are installed steps has.tracks (sym alerts_are) (sym metrics_are) in
          tree_is
          ∙ ap (λ time. tree_with request time trees drops alarms) has.last
          ∙ ap (λ l. tree_with request last trees (record drops { of_predicates = l }) alarms) of_predicates
          ∙ ap (λ l. tree_with request last trees (record all { of_states = l; of_atoms = drops.of_atoms }) alarms)
          of_states
          ∙ ap (λ n. tree_with request last trees (record all { of_atoms = n }) alarms) of_atoms
          ∙ ap (λ metrics. tree_with request last metrics all alarms)
          (reports.shown installed steps has.tracks may
          ∙ ap (λ metrics. map (requested_tree installed steps request)
          (filter (λ (metric : LMetric). metric.shown) metrics)) metrics_are)
          ∙ ap (λ l. tree_with request last shown all (record alarms { listed = l }))
          (of_alerts.listed ∙ ap (flat_map (alarm_trees installed steps)) alerts_are)
          ∙ ap (λ l. tree_with request last shown all (record {
            listed = flat_map (alarm_trees installed steps) linked.alerts;
            not_kept = l;
          }))
          (of_alerts.not_kept ∙ ap (flat_map (alarm_drops installed steps)) alerts_are),
    )

-- a sound predicate's table has as many leaves as it has dimensions
its_leaves : (matchers predicates : ℕ) (body : LPredBody) → IsSoundBody matchers predicates body → HasItsLeaves body
its_leaves matchers predicates (Simple start stop stop_all dims spec) sound = sound.leaves
its_leaves matchers predicates (Combo op children) sound = refl

-- and a bound
its_bound : (matchers predicates : ℕ) (body : LPredBody) → IsSoundBody matchers predicates body
    → IsBound (table_spec body).bound
its_bound matchers predicates (Simple start stop stop_all dims spec) sound = sound.bound
its_bound matchers predicates (Combo op children) sound = (omega arith, omega arith)

-- the predicates of a sound configuration can be kept
pub sound_kept : (linked : Linked) → IsSoundConfig linked → CanBeKept linked.predicates
sound_kept linked sound =
    let matchers = length linked.matchers in
    let many = length linked.predicates in
    record {
      few = sound.few_predicates;
      in_range = (references_end linked sound).predicates_there;
      no_cycle = sound.predicates_end;
      leaves = All-weaker (IsSoundPredicate matchers many) KeepsItsLeaves
          (λ predicate s. its_leaves matchers many predicate.body s) linked.predicates sound.predicates;
      bounds = All-weaker (IsSoundPredicate matchers many) HasBound
          (λ predicate s. its_bound matchers many predicate.body s) linked.predicates sound.predicates;
    }

-- the configuration of an instance of a sound one
pub linked_whole : (linked : Linked) (it : Running) → it.matchers ≡ linked.matchers
    → it.known.predicates ≡ linked.predicates → it.states ≡ linked.states
    → map metric_in it.tracks ≡ linked.metrics → it.alerts ≡ linked.alerts → linked_of it ≡ linked
linked_whole linked it matchers predicates states metrics alerts =
    ap (λ ms. record (linked_of it) { matchers = ms }) matchers
    ∙ ap (λ ps. record (linked_of it) { matchers = linked.matchers; predicates = ps }) predicates
    ∙ ap (λ ss. record linked { states = ss; metrics = map metric_in it.tracks; alerts = it.alerts }) states
    ∙ ap (λ ms. record linked { metrics = ms; alerts = it.alerts }) metrics
    ∙ ap (λ alerts. record linked { alerts = alerts }) alerts

-- no other metric of a sound configuration is the same
alone_there : (metrics : List LMetric) → AllPairs (λ (one later : LMetric). one.id ≢ later.id) metrics
    → (place other : ℕ) (metric : LMetric) → slice_get metrics place ≡ Some metric
    → slice_get metrics other ≡ Some metric → other ≡ place
alone_there metrics apart place other metric here there =
    by (cases_lt place other) (cases_lt other place)
  where
    ne : (first second : ℕ) → first < second → slice_get metrics first ≡ Some metric
        → slice_get metrics second ≡ Some metric → ⊥
    ne first second before one later =
        apart first second metric before (slice_get_within metrics second metric later)
        (ap (λ (m : LMetric). m.id) (get_or_from_slice_get metrics first metric metric one
        ∙ sym (get_or_from_slice_get metrics second metric metric later)))

    by : (place < other) ⊎ (other ≤ place) → (other < place) ⊎ (place ≤ other) → other ≡ place
    by (inl before) behind = absurd (ne place other before here there)
    by (inr within) (inl before) = absurd (ne other place before there here)
    by (inr within) (inr behind) = omega (arith, within, behind)

-- each metric of a sound configuration stands at its own place
all_installed : (linked : Linked) → IsSoundConfig linked → AreInstalled linked linked.metrics
all_installed linked sound place none within = record {
  sound = record { leaves = (sound_kept linked sound).leaves; sound = sound.metrics place none within };
  alone = λ other there.
      alone_there linked.metrics sound.metric_ids place other (get_or linked.metrics place none)
      (slice_get-get_or linked.metrics place none within) there;
}

-- its alerts can be watched
pub all_watchable : (linked : Linked) → IsSoundConfig linked → All CanBeWatched linked.alerts
all_watchable linked sound = λ k d within. (sound.alerts k d within).spec

-- an instance of a sound configuration, to which nothing has happened yet
pub fresh : (linked : Linked) (opening : Opening) (it : Running) → it.matchers ≡ linked.matchers
    → it.known.predicates ≡ linked.predicates → it.states ≡ linked.states → it.alerts ≡ linked.alerts
    → it.base ≡ opening.base
    → it.last ≡ opening.base → opening.matchers.now ≡ linked.matchers → opening.alerts.now ≡ linked.alerts
    → KnowsAfter [] it.known
    → AreNew opening it.known linked.metrics it.tracks → IsSoundConfig linked → (log : List LogFrame)
    → PullBookStandsFor opening.pulls.now log → IsFresh linked opening.base log it
fresh linked opening it matchers predicates states alerts base_is last_is matchers_are alerts_are knows are sound log
    pulls = record {
      linked = linked_whole linked it matchers predicates states are.metrics_are alerts;
      base = base_is;
      last = last_is;
      in_time = tt;
      knows = knows;
      tracks = are.stand (new_history opening.base log linked).installed (record {
        base = refl;
        matchers = sym matchers_are;
        alerts = sym alerts_are;
        predicates = predicates;
        knows = knows;
        pulls = pulls;
      }) (all_installed linked sound);
    }

-- the matchers of a sound configuration may be asked
each_askable : (count : ℕ) (matcher : LMatcher) → IsSoundMatcher count matcher → MayAsk matcher
each_askable count (linked_matchers.Simple simple) sound = sound
each_askable count (linked_matchers.Combo op children) sound = tt

pub sound_askable : (linked : Linked) → IsSoundConfig linked → All MayAsk linked.matchers
sound_askable linked sound =
    All-weaker (IsSoundMatcher (length linked.matchers)) MayAsk (each_askable (length linked.matchers)) linked.matchers
    sound.matchers

-- the metrics of a sound configuration ask its predicates
pub sound_asked : (linked : Linked) → IsSoundConfig linked
    → All (AsksWithin (length linked.predicates)) linked.metrics
sound_asked linked sound =
    All-weaker (IsSoundMetric linked) (AsksWithin (length linked.predicates)) (λ metric s. s.condition) linked.metrics
    sound.metrics

-- the metrics of a sound configuration can be tracked
pub all_tracked : (linked : Linked) → IsSoundConfig linked → All CanBeTracked linked.metrics
all_tracked linked sound = λ k d within. record {
  linked = linked;
  sound = sound.metrics k d within;
}
