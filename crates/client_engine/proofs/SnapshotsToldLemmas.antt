-- The lane of a pulled metric, one step more: what it tells of a frame that is shown is what the frame itself tells.
use Rattle.std.proofs.Common.{◌≡◌, ℕ, ◌<◌, ◌==◌, Bool, true, false, ◌&&◌, List, [], ◌∷◌, ◌++◌, map, Option, Some, None, refl, sym, ap, subst, ◌∙◌}
use Rattle.std.specs.Option.{option_map, option_and_then, option_map_or}
use Rattle.std.proofs.lemmas.Bool.Decides.{Decides-eqb}
use Rattle.std.proofs.lemmas.List.{append-nil}
use Rattle.std.proofs.Common.{append_assoc}
use Rattle.std.proofs.lemmas.List.Elements.{All-weaker}
use Rattle.atom_record.specs.declared.atom.Atom.{Atom}
use Rattle.atom_record.specs.declared.log.LogFrame.{LogFrame}
use Rattle.atom_record.specs.declared.log.LogFrame.TheVariants.{Tick, AtomAt, Pull}
use Rattle.atom_record.specs.declared.log.PullOutcome.{PullOutcome}
use Rattle.atom_record.specs.declared.log.PullOutcome.TheVariants.{Atoms, Failed}
use Rattle.atom_record.specs.AtomSound.{HasNoFault}
use Rattle.atom_record.specs.Pulled.{is_pull_id}
use Rattle.book_meaning.specs.Snapshots.{atoms_in, is_kept_next}
use Rattle.pull_book.specs.PullItems.{HoldsSoundAtoms}
use Rattle.bucket_meaning.specs.Limits.{time_limit}
use Rattle.config_types.specs.declared.matcher.SimpleMatcher.{SimpleMatcher}
use Rattle.matcher_eval.specs.AtomTests.{number_set}
use Rattle.config_links.specs.declared.linked.LMetric.{LMetric}
use Rattle.predicate_state.specs.declared.truth.Truth.{Truth}
use Rattle.session_frames.specs.FrameReading.{log_time}
use Rattle.session_frames.specs.Faultless.{IsOutcome, IsPulledAtom}
use Rattle.metric_producer.specs.Calls.{Call, Got, Learned}
use Rattle.metric_producer.specs.declared.row.Row.{Row}
use Rattle.metric_producer.specs.Rules.{AreAdmitted}
use Rattle.metric_producer.specs.Collecting.{Law, demands_of}
use Rattle.metric_producer.specs.Moves.{Moves}
use Rattle.metric_producer.proofs.OpeningLemmas.{opening_admits}
use Rattle.metric_producer.proofs.RuleLemmas.{admits-front, admits-back}
use Rattle.metric_lane.specs.LaneStands.{LaneHas, GetsFrame, GetsCall, GetsCalls}
use Rattle.metric_lane.specs.declared.lane.Lane.{Lane}
use Rattle.metric_lane.proofs.LaneStepsLemmas.{news_logs}
use Rattle.metric_meaning.specs.Histories.{Logged, Step, Installation, moment_of, log_after}
use Rattle.metric_meaning.specs.Scenes.{Scene, scene_after}
use Rattle.metric_meaning.specs.PredicateSteps.{tables_after}
use Rattle.metric_meaning.specs.ShownFrames.{shown_as, shown_outcome}
use Rattle.metric_meaning.specs.MetricConditions.{condition_truth}
use Rattle.metric_meaning.specs.SnapshotSteps.{pulled_matcher, atoms_meant, snapshot_found, nothing_read}
use Rattle.metric_meaning.specs.Touched.{is_touched}
use Rattle.metric_meaning.specs.Ways.{Way}
use Rattle.metric_meaning.proofs.SnapshotStepsLemmas.{found-pulled}
use Rattle.metric_calls.specs.Askings.{AsksWell}
use Rattle.metric_calls.specs.SnapshotCalls.{means_pull, is_told_of, truth_in, Telling, pull_calls, atom_calls, calls_told, calls_brought, told_asking}
use Rattle.known_conditions.specs.Known.{Known}
use Rattle.client_engine.specs.Handed.{Handed, IsOfScene}
use Rattle.client_engine.specs.Along.{Along}
use Rattle.client_engine.specs.NextSteps.{with_logged, ComeInTime, MayLog}
use Rattle.known_conditions.specs.Known.{logged_step}
use Rattle.client_engine.specs.Opens.{IsOpeningOf}
use Rattle.client_engine.specs.Finding.{found_among, calls_shown}
use Rattle.client_engine.specs.declared.opening.Opening.{Opening}
use Rattle.client_engine.proofs.AlongLemmas.{along_begins, along_logs}
use Rattle.client_engine.proofs.ShownLemmas.{shown_moment}

-- both of two truths
both : (first second : Bool) → (first && second) ≡ true → (first ≡ true) × (second ≡ true)
both true second are = (refl, are)
both false second are = absurd cc

-- what is handed has the truth of a pulled metric's condition there
pub truth_there : (given : Handed) (scene : Scene) (metric : LMetric) → IsOfScene given scene
    → condition_truth given.known.predicates given.known.tables metric nothing_read ≡ truth_in scene metric
truth_there given scene metric found =
    ap (λ predicates. condition_truth predicates given.known.tables metric nothing_read) found.predicates
    ∙ ap (λ tables. condition_truth scene.linked.predicates tables metric nothing_read) found.tables

-- at the installation predicates know what they know after no step
pub truth_at_first : (installed : Installation) (opening : Opening) (known : Known) (metric : LMetric)
    → IsOpeningOf installed opening known
    → condition_truth known.predicates known.tables metric nothing_read ≡ truth_in (scene_after installed []) metric
truth_at_first installed opening known metric is =
    ap (λ tables. condition_truth known.predicates tables metric nothing_read) is.knows
    ∙ ap (λ predicates. condition_truth predicates (tables_after predicates []) metric nothing_read) is.predicates

-- the atoms of a pull of a frame without a fault have none
pub outcome_sound : (id : ℕ) (outcome : PullOutcome) → IsOutcome id outcome → HoldsSoundAtoms outcome
outcome_sound id Failed sound = tt
outcome_sound id (Atoms atoms) sound = All-weaker (IsPulledAtom id) HasNoFault (λ atom is. is.1) atoms sound.1

module _ (installed : Installation) (metric : LMetric) (steps : List Step) (at : ℕ) (truths : List Bool) where
  -- the step of a pull
  abbrev pulled_step : ℕ → PullOutcome → Step
  pulled_step id outcome = record { at = at; what = Logged (Pull at id outcome); truths = truths }

  -- what a simple matcher finds in the pull that is shown is what is found after it
  found_shown : (matcher : SimpleMatcher) → pulled_matcher installed.linked.matchers metric ≡ Some matcher
      → (id : ℕ) (outcome : PullOutcome) → id ≡ number_set matcher.atom_id → is_pull_id id ≡ true
      → option_map (atoms_meant matcher)
      (atoms_in (shown_outcome (is_kept_next id (log_after installed steps)) outcome))
      ≡ snapshot_found installed metric (steps ++ pulled_step id outcome ∷ [])
  found_shown matcher is id outcome same pulled =
      let own = number_set matcher.atom_id in
      subst (λ i. option_map (atoms_meant matcher)
      (atoms_in (shown_outcome (is_kept_next i (log_after installed steps)) outcome))
      ≡ snapshot_found installed metric (steps ++ pulled_step i outcome ∷ [])) (sym same)
      (sym (found-pulled installed metric matcher is steps (pulled_step own outcome) at outcome refl
      (subst (λ i. is_pull_id i ≡ true) same pulled)))

  -- the same of whatever matcher the metric has, where the pull is told
  found_told : (matcher : Option SimpleMatcher) → pulled_matcher installed.linked.matchers metric ≡ matcher
      → (id : ℕ) (outcome : PullOutcome) → option_map_or (means_pull id) matcher false ≡ true
      → found_among installed.linked.matchers metric
      (atoms_in (shown_outcome (is_kept_next id (log_after installed steps)) outcome))
      ≡ snapshot_found installed metric (steps ++ pulled_step id outcome ∷ [])
  found_told None is id outcome told = absurd cc
  found_told (Some matcher) is id outcome told =
      let means = both (id == number_set matcher.atom_id) (is_pull_id id) told in
      let atoms = atoms_in (shown_outcome (is_kept_next id (log_after installed steps)) outcome) in
      ap (option_and_then (λ m. option_map (atoms_meant m) atoms)) is
      ∙ found_shown matcher is id outcome ((Decides-eqb id (number_set matcher.atom_id)).0 means.0) means.1

  -- a pull that isn't told tells nothing, and another one what it gave
  pull_shown : {Event : Type 0} (telling : Telling Event) (told : Bool) (found after : Option (List Atom))
      → (told ≡ true → found ≡ after) → pull_calls telling told at found ≡ pull_calls telling told at after
  pull_shown telling true found after same =
      ap (λ (f : Option (List Atom)). pull_calls telling true at f) (same refl)
  pull_shown telling false found after same = refl

-- what is told of a frame that is shown is what the frame itself tells
calls_are_shown : {Event : Type 0} (telling : Telling Event) (installed : Installation) (metric : LMetric)
    (steps : List Step) (truths : List Bool) (frame : LogFrame)
    → calls_shown telling (scene_after installed (with_logged steps frame truths)) metric
    (shown_as (log_after installed steps) frame) truths
    ≡ calls_told telling installed metric steps (logged_step frame truths)
calls_are_shown telling installed metric steps truths (Tick at) = refl
calls_are_shown telling installed metric steps truths (AtomAt at atom) = refl
calls_are_shown telling installed metric steps truths (Pull at id outcome) =
    let matchers = installed.linked.matchers in
    pull_shown installed metric steps at truths telling (is_told_of matchers metric id)
    (found_among matchers metric
    (atoms_in (shown_outcome (is_kept_next id (log_after installed steps)) outcome)))
    (snapshot_found installed metric (with_logged steps (Pull at id outcome) truths))
    (found_told installed metric steps at truths (pulled_matcher matchers metric) refl id outcome)

module _ {P Params Event X K C V : Type 0} (way : Way X K C (Row V)) (params : Params) (telling : Telling Event)
    (installed : Installation) (metric : LMetric) (law : Law P Params Event Truth X K C (Row V)) where
  -- the lane of a pulled metric takes one more frame of the log, which is shown so: what it crosses, and then what is
  -- told of it
  pub told_log : AsksWell (told_asking way params telling installed metric) law.collecting
      → (law.collecting.demands params).base ≡ installed.base
      → (given : Handed) (shown frame : LogFrame) (truths : List Bool) (old middle new : Lane P Event Truth V)
      (steps : List Step)
      → GetsFrame law old middle (moment_of shown (log_time shown))
      → ((scene : Scene) → IsOfScene given scene
      → GetsCalls law middle new (calls_shown telling scene metric shown truths))
      → Along (told_asking way params telling installed metric) law steps old
      → MayLog installed steps given shown frame truths
      → Along (told_asking way params telling installed metric) law (with_logged steps frame truths) new
  told_log well base given shown frame truths old middle new steps crosses gets along may =
      let asking = told_asking way params telling installed metric in
      let log = log_after installed steps in
      let scene = scene_after installed (with_logged steps frame truths) in
      let news = calls_shown telling scene metric shown truths in
      let comes : news ≡ asking.news steps (logged_step frame truths) =
      ap (λ f. calls_shown telling scene metric f truths) may.shown_is
      ∙ calls_are_shown telling installed metric steps truths frame in
      let moment : moment_of shown (log_time shown) ≡ moment_of frame (log_time frame) =
      ap (λ f. moment_of f (log_time f)) may.shown_is ∙ shown_moment log frame in
      along_logs asking law well steps frame truths old new (moment_of shown (log_time shown)) news moment comes
      (news_logs law calls_brought old middle new (moment_of shown (log_time shown)) news crosses
      (λ before. gets scene may.found))
      along (subst (λ b. ComeInTime b (with_logged steps frame truths)) (sym base) may.in_time)

  -- a producer that was told what stands at the installation got the opening calls
  pub told_opens : AsksWell (told_asking way params telling installed metric) law.collecting
      → (law.collecting.demands params).base < time_limit → (new told opened : P) (base : ℕ)
      (snapshot : Event) (now : Truth)
      → law.stands new params [] → Moves law new told (Got base snapshot) → Moves law told opened (Learned base now)
      → base ≡ installed.base → snapshot ≡ telling.snapshot (snapshot_found installed metric [])
      → now ≡ truth_in (scene_after installed []) metric
      → law.stands opened params (told_asking way params telling installed metric).opens
  told_opens well fits new told opened base snapshot now stands gets learns base_is snapshot_is now_is =
      let asking = told_asking way params telling installed metric in
      let admits : AreAdmitted (demands_of law params) [] asking.opens =
      opening_admits (demands_of law params) fits asking.opens well.opens in
      let calls : ℕ → Event → Truth → List (Call Event Truth) =
      λ b s t. Got b s ∷ (Learned b t ∷ []) in
      let same : calls base snapshot now ≡ asking.opens =
      ap (λ b. calls b snapshot now) base_is
      ∙ ap (λ s. calls installed.base s now) snapshot_is
      ∙ ap (calls installed.base (telling.snapshot (snapshot_found installed metric []))) now_is in
      let may : AreAdmitted (demands_of law params) [] (calls base snapshot now) =
      subst (AreAdmitted (demands_of law params) []) (sym same) admits in
      subst (law.stands opened params) same
      (learns params (Got base snapshot ∷ []) (gets params [] stands may.0) may.1.0)

  -- a lane of such a producer has seen no step
  pub told_begins : AsksWell (told_asking way params telling installed metric) law.collecting
      → (law.collecting.demands params).base < time_limit
      → (new told opened : P) (lane : Lane P Event Truth V) (base : ℕ)
      (snapshot : Event) (now : Truth)
      → law.stands new params [] → Moves law new told (Got base snapshot) → Moves law told opened (Learned base now)
      → base ≡ installed.base → snapshot ≡ telling.snapshot (snapshot_found installed metric [])
      → now ≡ truth_in (scene_after installed []) metric
      → ((opening : List (Call Event Truth)) → law.stands opened params opening → LaneHas law lane params [] opening)
      → Along (told_asking way params telling installed metric) law [] lane
  told_begins well fits new told opened lane base snapshot now stands gets learns base_is snapshot_is now_is made =
      let asking = told_asking way params telling installed metric in
      along_begins asking law lane fits
      (made asking.opens
      (told_opens well fits new told opened base snapshot now stands gets learns base_is snapshot_is now_is))

module _ {P Params Event X K C V : Type 0} (law : Law P Params Event Truth X K C (Row V)) where
  -- a lane that got nothing is as it was
  pub gets_none : (lane : Lane P Event Truth V) → GetsCalls law lane lane []
  gets_none lane params told calls has admitted = subst (LaneHas law lane params told) (sym (append-nil calls)) has

  -- a lane that got some calls, and then others, got all
  pub gets_both : (old middle new : Lane P Event Truth V) (first second : List (Call Event Truth))
      → GetsCalls law old middle first → GetsCalls law middle new second → GetsCalls law old new (first ++ second)
  gets_both old middle new first second gets others params told calls has admitted =
      let demands = demands_of law params in
      subst (LaneHas law new params told) (append_assoc calls first second)
      (others params told (calls ++ first)
      (gets params told calls has (admits-front demands calls first second admitted))
      (admits-back demands calls first second admitted))

  module _ (telling : Telling Event) (given : Handed) (scene : Scene) (metric : LMetric) (frame : LogFrame)
      (truths : List Bool) (found : IsOfScene given scene) where
    -- of a tick nothing is told
    pub tick_told : (lane : Lane P Event Truth V) (at : ℕ) → frame ≡ Tick at
        → GetsCalls law lane lane (calls_shown telling scene metric frame truths)
    tick_told lane at is =
        subst (λ f. GetsCalls law lane lane (calls_shown telling scene metric f truths)) (sym is) (gets_none lane)

    -- an atom touches the metric there as it does by what is handed
    touched_there : is_touched given.known.predicates metric truths ≡ is_touched scene.linked.predicates metric truths
    touched_there = ap (λ predicates. is_touched predicates metric truths) found.predicates

    -- of an atom that doesn't touch the metric nothing is told
    pub atom_untold : (lane : Lane P Event Truth V) (at : ℕ) (atom : Atom) → frame ≡ AtomAt at atom
        → is_touched given.known.predicates metric truths ≡ false
        → GetsCalls law lane lane (calls_shown telling scene metric frame truths)
    atom_untold lane at atom is untouched =
        let now = truth_in scene metric in
        subst (λ f. GetsCalls law lane lane (calls_shown telling scene metric f truths)) (sym is)
        (subst (λ told. GetsCalls law lane lane (atom_calls telling told at now truths))
        (sym untouched ∙ touched_there) (gets_none lane))

    -- of another one the condition is, and then what its matchers say
    pub atom_told : (old middle new : Lane P Event Truth V) (at : ℕ) (atom : Atom) (now : Truth)
        → frame ≡ AtomAt at atom
        → is_touched given.known.predicates metric truths ≡ true
        → now ≡ condition_truth given.known.predicates given.known.tables metric nothing_read
        → GetsCall law old middle (Learned at now)
        → GetsCalls law middle new (map (λ event. Got at event) (telling.atom truths))
        → GetsCalls law old new (calls_shown telling scene metric frame truths)
    atom_told old middle new at atom now is touched now_is learns others =
        let more : List (Call Event Truth) = map (λ event. Got at event) (telling.atom truths) in
        subst (λ f. GetsCalls law old new (calls_shown telling scene metric f truths)) (sym is)
        (subst (λ told. GetsCalls law old new (atom_calls telling told at (truth_in scene metric) truths))
        (sym touched ∙ touched_there)
        (subst (λ (t : Truth). GetsCalls law old new (Learned at t ∷ more))
        (now_is ∙ truth_there given scene metric found)
        (gets_both old middle new (Learned at now ∷ []) more learns others)))

    -- of a pull that isn't the metric's nothing is told
    pub pull_untold : (lane : Lane P Event Truth V) (at id : ℕ) (outcome : PullOutcome) → frame ≡ Pull at id outcome
        → is_told_of given.matchers metric id ≡ false
        → GetsCalls law lane lane (calls_shown telling scene metric frame truths)
    pull_untold lane at id outcome is not_told =
        let among = found_among scene.linked.matchers metric (atoms_in outcome) in
        subst (λ f. GetsCalls law lane lane (calls_shown telling scene metric f truths)) (sym is)
        (subst (λ told. GetsCalls law lane lane (pull_calls telling told at among))
        (sym not_told ∙ ap (λ matchers. is_told_of matchers metric id) found.matchers) (gets_none lane))

    -- of another one its snapshot is
    pub pull_told : (old new : Lane P Event Truth V) (at id : ℕ) (outcome : PullOutcome) → frame ≡ Pull at id outcome
        → is_told_of given.matchers metric id ≡ true
        → GetsCall law old new
        (Got at (telling.snapshot (found_among given.matchers metric (atoms_in outcome))))
        → GetsCalls law old new (calls_shown telling scene metric frame truths)
    pull_told old new at id outcome is told gets =
        subst (λ f. GetsCalls law old new (calls_shown telling scene metric f truths)) (sym is)
        (subst (λ matchers. GetsCalls law old new (pull_calls telling (is_told_of matchers metric id) at
        (found_among matchers metric (atoms_in outcome)))) found.matchers
        (subst (λ told_it. GetsCalls law old new (pull_calls telling told_it at
        (found_among given.matchers metric (atoms_in outcome)))) (sym told) gets))
