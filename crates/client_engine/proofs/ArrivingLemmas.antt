-- The atom that arrives with a frame of the log, and its key, for every kind of metric that gets atoms.
use Rattle.std.proofs.Common.{◌≡◌, ℕ, Bool, true, false, List, [], ◌∷◌, ◌++◌, ◌&&◌, if◌then◌else◌, Option, Some, None, refl, sym, ap, subst, ◌∙◌, rules}
use Rattle.atom_record.specs.declared.atom.Atom.{Atom}
use Rattle.atom_record.specs.declared.log.LogFrame.{LogFrame}
use Rattle.atom_record.specs.declared.log.LogFrame.TheVariants.{Tick, AtomAt, Pull}
use Rattle.atom_record.specs.declared.value.Leaf.{Leaf}
use Rattle.atom_record.specs.declared.value.Slice.{Slice}
use Rattle.atom_record.specs.declared.value.MetricKey.{MetricKey}
use Rattle.config_links.specs.declared.linked.LMetric.{LMetric}
use Rattle.metric_producer.specs.declared.row.Row.{Row}
use Rattle.metric_producer.specs.Collecting.{Law}
use Rattle.metric_lane.specs.LaneStands.{LogsNews}
use Rattle.metric_lane.specs.declared.lane.Lane.{Lane}
use Rattle.session_frames.specs.FrameReading.{log_time}
use Rattle.metric_meaning.specs.Histories.{Step, Installation, truth_at, moment_of, log_after}
use Rattle.metric_meaning.specs.Scenes.{Scene, scene_after}
use Rattle.bucket_meaning.specs.Ends.{Moment}
use Rattle.metric_meaning.specs.ActivationSteps.{is_active_after}
use Rattle.metric_meaning.specs.Readings.{LeafReading, atom_reading}
use Rattle.metric_meaning.specs.MetricConditions.{is_condition_true}
use Rattle.metric_meaning.specs.StateSlices.{named_slices}
use Rattle.metric_meaning.specs.Arrivals.{metric_key, holds_in, is_active_in, arriving_by}
use Rattle.metric_calls.specs.Askings.{Asking, own_demands, AsksWell}
use Rattle.client_engine.specs.Handed.{Handed, IsOfScene}
use Rattle.client_engine.specs.Along.{Along}
use Rattle.client_engine.specs.NextSteps.{with_logged, ComeInTime, MayLog}
use Rattle.known_conditions.specs.Known.{logged_step}
use Rattle.client_engine.proofs.AlongLemmas.{along_logs}
use Rattle.known_conditions.proofs.TouchersLemmas.{second_not}
use Rattle.client_engine.proofs.ShownLemmas.{shown_moment, shown_arriving}

-- what is handed has the truth of the condition there
pub condition_there : (given : Handed) (scene : Scene) (metric : LMetric) (reading : LeafReading)
    → IsOfScene given scene
    → is_condition_true given.known.predicates given.known.tables metric reading ≡ holds_in scene metric reading
condition_there given scene metric reading found =
    ap (λ predicates. is_condition_true predicates given.known.tables metric reading) found.predicates
    ∙ ap (λ tables. is_condition_true scene.linked.predicates tables metric reading) found.tables

-- nothing comes, where one of two truths isn't
none_without : {A : Type 0} (first second : Bool) (x : A) → second ≡ false
    → None ≡ (if first && second then Some x else None)
none_without true second x is = ap (λ b. if b then Some x else None) (sym is)
none_without false second x is = refl

-- where the condition isn't true, nothing arrives
pub not_arriving : (scene : Scene) (metric : LMetric) (frame : LogFrame) (at : ℕ) (atom : Atom) (truths : List Bool)
    (holds : Bool) → frame ≡ AtomAt at atom
    → holds ≡ holds_in scene metric (atom_reading atom) → holds ≡ false
    → None ≡ arriving_by scene metric (logged_step frame truths)
not_arriving scene metric frame at atom truths holds is means off =
    subst (λ (f : LogFrame). None ≡ arriving_by scene metric (logged_step f truths)) (sym is)
    (none_without (truth_at metric.what truths)
    (is_active_in scene metric at && holds_in scene metric (atom_reading atom)) atom
    (second_not (is_active_in scene metric at) (holds_in scene metric (atom_reading atom)) (sym means ∙ off)))

-- where the metric isn't active, nothing arrives
pub inactive_none : (scene : Scene) (metric : LMetric) (frame : LogFrame) (truths : List Bool)
    → is_active_in scene metric (log_time frame) ≡ false
    → None ≡ arriving_by scene metric (logged_step frame truths)
inactive_none scene metric (Tick at) truths off = refl
inactive_none scene metric (AtomAt at atom) truths off =
    none_without (truth_at metric.what truths)
    (is_active_in scene metric at && holds_in scene metric (atom_reading atom)) atom
    (ap (λ b. b && holds_in scene metric (atom_reading atom)) off)
inactive_none scene metric (Pull at id outcome) truths off = refl

-- where all three are true, the atom arrives
pub one_arriving : (scene : Scene) (metric : LMetric) (frame : LogFrame) (at : ℕ) (atom : Atom) (truths : List Bool)
    (holds : Bool) → frame ≡ AtomAt at atom → true ≡ truth_at metric.what truths
    → true ≡ is_active_in scene metric (log_time frame)
    → holds ≡ holds_in scene metric (atom_reading atom) → holds ≡ true
    → Some atom ≡ arriving_by scene metric (logged_step frame truths)
one_arriving scene metric frame at atom truths holds is what active means on =
    let here : true ≡ is_active_in scene metric at =
    subst (λ (f : LogFrame). true ≡ is_active_in scene metric (log_time f)) is active in
    subst (λ (f : LogFrame). Some atom ≡ arriving_by scene metric (logged_step f truths)) (sym is)
    (ap (λ b. if b then Some atom else None) (sym on ∙ means)
    ∙ ap (λ b. if b && holds_in scene metric (atom_reading atom) then Some atom else None) here
    ∙ ap (λ b.
    if b && (is_active_in scene metric at && holds_in scene metric (atom_reading atom)) then Some atom else None)
    what)

-- a metric without a condition has a true one
pub plain_holds : (scene : Scene) (metric : LMetric) (reading : LeafReading) → metric.condition ≡ None
    → holds_in scene metric reading ≡ true
plain_holds scene metric reading none = search (rules, none)

-- what is handed has the slices that a key of what is read has
pub key_there : (given : Handed) (scene : Scene) (metric : LMetric) (reading : LeafReading) (dims : List Leaf)
    (slices : List Slice) → IsOfScene given scene → dims ≡ reading metric.dims
    → slices ≡ named_slices given.states scene.log reading metric.slices
    → record { dims = dims; slices = slices } ≡ metric_key scene metric reading
key_there given scene metric reading dims slices found dims_are slices_are =
    ap (λ (d : List Leaf). let key : MetricKey = record { dims = d; slices = slices } in key) dims_are
    ∙ ap (λ (s : List Slice). let key : MetricKey = record { dims = reading metric.dims; slices = s } in key)
    (slices_are ∙ ap (λ states. named_slices states scene.log reading metric.slices) found.states)

-- What a metric asks of its producer hangs on the atom that arrives alone, as `makes` says.
pub record IsOfArrivals {P Params News Event After X K C V : Type 0}
    (asking : Asking Params News Event After X K C (Row V)) (law : Law P Params Event After X K C (Row V))
    (installed : Installation) (metric : LMetric) (makes : Scene → Option Atom → News) : Type 0 where
  pub well : AsksWell asking law.collecting
  pub base : (own_demands asking law.collecting).base ≡ installed.base
  pub news : (before : List Step) (step : Step)
      → let scene = scene_after installed (before ++ step ∷ []) in
      asking.news before step ≡ makes scene (arriving_by scene metric step)

module _ {P Params News Event After X K C V : Type 0} (asking : Asking Params News Event After X K C (Row V))
    (law : Law P Params Event After X K C (Row V)) (installed : Installation) (metric : LMetric)
    (makes : Scene → Option Atom → News) (kind : IsOfArrivals asking law installed metric makes) where
  -- what is made of the atom that arrives with a frame, which is shown so, is what the frame's step brings
  pub news_come : (given : Handed) (shown frame : LogFrame) (truths : List Bool) (news : News) (steps : List Step)
      (active : Bool)
      → active ≡ is_active_after metric (with_logged steps frame truths) (log_time frame)
      → ((scene : Scene) → IsOfScene given scene → active ≡ is_active_in scene metric (log_time shown)
      → news ≡ makes scene (arriving_by scene metric (logged_step shown truths)))
      → MayLog installed steps given shown frame truths → news ≡ asking.news steps (logged_step frame truths)
  news_come given shown frame truths news steps active active_is is may =
      let step = logged_step frame truths in
      let scene = scene_after installed (steps ++ step ∷ []) in
      let log = log_after installed steps in
      let at_once : log_time frame ≡ log_time shown =
      sym (ap (λ (m : Moment). m.at) (ap (λ f. moment_of f (log_time f)) may.shown_is ∙ shown_moment log frame)) in
      is scene may.found (active_is ∙ ap (is_active_after metric (with_logged steps frame truths)) at_once)
      ∙ ap (makes scene) (ap (λ f. arriving_by scene metric (logged_step f truths)) may.shown_is
      ∙ shown_arriving scene metric log frame truths)
      ∙ sym (kind.news steps step)

  -- the lane of such a metric takes one more frame of the log, which is shown so, and brings what is made of the atom
  -- that arrives
  pub arrivals_log : (given : Handed) (shown frame : LogFrame) (truths : List Bool) (old new : Lane P Event After V)
      (news : News) (steps : List Step) (active : Bool)
      → active ≡ is_active_after metric (with_logged steps frame truths) (log_time frame)
      → ((scene : Scene) → IsOfScene given scene → active ≡ is_active_in scene metric (log_time shown)
      → news ≡ makes scene (arriving_by scene metric (logged_step shown truths)))
      → LogsNews law asking.asks old new (moment_of shown (log_time shown)) news
      → Along asking law steps old → MayLog installed steps given shown frame truths
      → Along asking law (with_logged steps frame truths) new
  arrivals_log given shown frame truths old new news steps active active_is is logs along may =
      let moment : moment_of shown (log_time shown) ≡ moment_of frame (log_time frame) =
      ap (λ f. moment_of f (log_time f)) may.shown_is ∙ shown_moment (log_after installed steps) frame in
      along_logs asking law kind.well steps frame truths old new (moment_of shown (log_time shown)) news moment
      (news_come given shown frame truths news steps active active_is is may)
      logs along (subst (λ b. ComeInTime b (with_logged steps frame truths)) (sym kind.base) may.in_time)
