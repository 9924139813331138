-- The lane of a pushed gauge, one step more.
use Rattle.std.proofs.Common.{◌≡◌, ℕ, ◌<◌, Bool, List, [], Option, Some, None, sym, ap, subst, ◌∙◌}
use Rattle.std.specs.Option.{option_map}
use Rattle.std.proofs.lemmas.List.{append-nil}
use Rattle.atom_record.specs.declared.atom.Atom.{Atom}
use Rattle.atom_record.specs.declared.log.LogFrame.{LogFrame}
use Rattle.atom_record.specs.declared.value.MetricKey.{MetricKey}
use Rattle.bucket_meaning.specs.Limits.{time_limit}
use Rattle.field_select.specs.declared.leaf.FieldSet.{FieldSet}
use Rattle.config_links.specs.declared.linked.LMetric.{LMetric}
use Rattle.config_links.specs.declared.linked.LKind.{LKind}
use Rattle.config_links.specs.declared.linked.LKind.TheVariants as kinds
use Rattle.metric_producer.specs.declared.row.Row.{Row}
use Rattle.bucket_meaning.specs.Kept.{Taken}
use Rattle.gauge_metric.specs.declared.gauge.KeyedAtom.{KeyedAtom}
use Rattle.gauge_metric.specs.GaugeStands.{gauge_law}
use Rattle.report_writer.specs.declared.tree.MetricTree.{MetricTree}
use Rattle.session_frames.specs.FrameReading.{log_time}
use Rattle.metric_producer.specs.Calls.{Got}
use Rattle.metric_producer.specs.LaneCalls.{coming}
use Rattle.metric_producer.specs.Moves.{Moves}
use Rattle.metric_lane.specs.LaneStands.{LaneHas, GetsFrame, GetsCall, GetsCalls, GetsReport}
use Rattle.metric_lane.proofs.LaneStepsLemmas.{event_logs}
use Rattle.bucket_meaning.specs.Ends.{Moment}
use Rattle.metric_meaning.specs.ActivationSteps.{is_active_after}
use Rattle.metric_meaning.specs.Histories.{Step, Installation, moment_of, log_after}
use Rattle.metric_meaning.specs.Scenes.{Scene, scene_after}
use Rattle.metric_meaning.specs.Arrivals.{is_active_in, arriving_by, atom_key}
use Rattle.metric_meaning.specs.Samples.{sample_of}
use Rattle.metric_meaning.specs.PushedGaugeSteps.{keyed_sample}
use Rattle.metric_meaning.specs.Reports.{metric_tree}
use Rattle.metric_calls.specs.PushedGaugeCalls.{gauge_params, handed_sample, sample_by, pushed_gauge_asking}
use Rattle.metric_calls.proofs.PushedGaugeCallsLemmas.{pushed_gauges_agree, pushed_gauges_ask_well}
use Rattle.client_engine.specs.Handed.{Handed, IsOfScene}
use Rattle.client_engine.specs.NextSteps.{with_logged, TakesWhile, TakesReport}
use Rattle.known_conditions.specs.Known.{logged_step}
use Rattle.client_engine.specs.GaugesAlong.{GaugeLane, GaugesAlong, GetsSample, gauges_shown_by}
use Rattle.client_engine.proofs.AlongLemmas.{along_begins, along_logs, along_reports}
use Rattle.client_engine.proofs.ShownLemmas.{shown_moment, shown_arriving}
use Rattle.client_engine.specs.declared.request.ReportRequest.{ReportRequest}

module _ (metric : LMetric) (fields : Option FieldSet) (samples : ℕ)
    (gauge : metric.kind ≡ kinds.PushedGauge fields samples) where
  -- a new lane of a gauge has seen no step of what was installed at this clock
  pub gauges_begin : (installed : Installation) (base : ℕ) (lane : GaugeLane) → installed.base ≡ base
      → base < time_limit → LaneHas gauge_law lane (gauge_params base metric samples) [] []
      → GaugesAlong metric installed [] lane
  gauges_begin installed base lane base_is fits has = record {
    fields = fields;
    samples = samples;
    gauge = gauge;
    along = along_begins (pushed_gauge_asking installed metric fields samples) gauge_law lane
        (subst (λ b. b < time_limit) (sym base_is) fits)
        (subst (λ b. LaneHas gauge_law lane (gauge_params b metric samples) [] []) (sym base_is) has);
  }

-- what a gauge makes of the atom that arrives: its key and its sample
abbrev pub sampled_from : LMetric → Option FieldSet → Scene → Option Atom → Option KeyedAtom
sampled_from metric fields scene found = option_map handed_sample (option_map (keyed_sample scene metric fields) found)

-- a lane of a gauge takes one more frame of the log, which is shown so: what it crosses, and then the sample of the
-- atom that arrives, if one does
pub gauges_log : (given : Handed) (metric : LMetric) (shown : LogFrame) (truths : List Bool)
    (old middle new : GaugeLane) (active : Bool)
    → GetsFrame gauge_law old middle (moment_of shown (log_time shown))
    → ((scene : Scene) → IsOfScene given scene → active ≡ is_active_in scene metric (log_time shown)
    → (fields : Option FieldSet) (samples : ℕ)
    → metric.kind ≡ kinds.PushedGauge fields samples
    → GetsCalls gauge_law middle new (coming (log_time shown)
    (sample_by scene metric fields (logged_step shown truths))))
    → TakesWhile (GaugesAlong metric) active metric given shown truths old new
gauges_log given metric shown truths old middle new active crosses gets installed steps frame active_is has may =
    let step = logged_step frame truths in
    let scene = scene_after installed (with_logged steps frame truths) in
    let log = log_after installed steps in
    let asking = pushed_gauge_asking installed metric has.fields has.samples in
    let sample = sample_by scene metric has.fields (logged_step shown truths) in
    let comes : sample ≡ asking.news steps step =
    ap (sampled_from metric has.fields scene)
    (ap (λ f. arriving_by scene metric (logged_step f truths)) may.shown_is
    ∙ shown_arriving scene metric log frame truths) in
    let moment : moment_of shown (log_time shown) ≡ moment_of frame (log_time frame) =
    ap (λ f. moment_of f (log_time f)) may.shown_is ∙ shown_moment log frame in
    let logs = event_logs gauge_law old middle new (moment_of shown (log_time shown)) sample crosses
    (gets scene may.found (active_is ∙ ap (is_active_after metric (with_logged steps frame truths))
    (sym (ap (λ (m : Moment). m.at) moment))) has.fields has.samples has.gauge) in
    record {
      fields = has.fields;
      samples = has.samples;
      gauge = has.gauge;
      along = along_logs asking gauge_law (pushed_gauges_ask_well installed metric has.fields has.samples) steps frame
          truths old new (moment_of shown (log_time shown)) sample moment comes logs has.along may.in_time;
    }

-- what a lane of a gauge hands out is what a report shows of the metric
pub gauges_report : (metric : LMetric) (base : ℕ) (request : ReportRequest) (old new : GaugeLane)
    (closed : Taken (Row (List Atom)))
    → GetsReport gauge_law old new request.at request.include_current closed
    → (tree : MetricTree) → tree ≡ gauges_shown_by base metric closed
    → TakesReport (GaugesAlong metric) metric base request old new tree
gauges_report metric base request old new closed reports tree is installed steps has may =
    let both = along_reports (pushed_gauge_asking installed metric has.fields has.samples) gauge_law
    (pushed_gauges_ask_well installed metric has.fields has.samples)
    steps (pushed_gauges_agree installed metric has.fields has.samples) request old new closed reports has.along
    may.in_time in (
      record { fields = has.fields; samples = has.samples; gauge = has.gauge; along = both.0 },
      is ∙ ap (λ b. gauges_shown_by b metric closed) (sym may.base_is)
          ∙ ap (gauges_shown_by installed.base metric) both.1
          ∙ ap (λ kind. metric_tree installed steps request.include_current request.at (record metric { kind = kind }))
          (sym has.gauge),
    )

-- the fields of a gauge's samples; the others, where the kind is another
abbrev fields_or : Option FieldSet → LKind → Option FieldSet
fields_or others (kinds.PushedGauge fields samples) = fields
fields_or others kind = others

-- a gauge's samples have one list of fields
one_filter : (kind : LKind) (one other : Option FieldSet) (its others : ℕ) → kind ≡ kinds.PushedGauge one its
    → kind ≡ kinds.PushedGauge other others → one ≡ other
one_filter kind one other its others is also = ap (fields_or one) (sym is ∙ also)

-- where no atom arrives, the lane stays
pub none_sampled : (lane : GaugeLane) (at : ℕ) (scene : Scene) (metric : LMetric) (fields : Option FieldSet)
    (step : Step) → None ≡ arriving_by scene metric step
    → GetsCalls gauge_law lane lane (coming at (sample_by scene metric fields step))
none_sampled lane at scene metric fields step is =
    subst (λ found. GetsCalls gauge_law lane lane (coming at (sampled_from metric fields scene found))) is
    (λ params told calls has admitted. subst (LaneHas gauge_law lane params told) (sym (append-nil calls)) has)

-- where one does, the lane got its sample
pub one_sampled : (old new : GaugeLane) (at : ℕ) (scene : Scene) (metric : LMetric) (fields : Option FieldSet)
    (step : Step) (atom : Atom) → Some atom ≡ arriving_by scene metric step
    → GetsSample old new at (keyed_sample scene metric fields atom)
    → GetsCalls gauge_law old new (coming at (sample_by scene metric fields step))
one_sampled old new at scene metric fields step atom is gets =
    subst (λ found. GetsCalls gauge_law old new (coming at (sampled_from metric fields scene found))) is gets

-- a producer that lets a sample go has got it, as it is, and so has its lane
pub lane_lets_go : (lane : GaugeLane) (at : ℕ) (sample : KeyedAtom)
    → Moves gauge_law lane.producer lane.producer (Got at sample) → GetsCall gauge_law lane lane (Got at sample)
lane_lets_go lane at sample moves params told calls has admitted = record {
  clock = has.clock;
  producer = moves params calls has.producer admitted.0;
}

-- the sample of an atom with its key, by what a gauge's kind says
pub sample_is : (scene : Scene) (metric : LMetric) (one fields : Option FieldSet) (its samples : ℕ)
    (atom sample : Atom) (key : MetricKey) → metric.kind ≡ kinds.PushedGauge one its
    → metric.kind ≡ kinds.PushedGauge fields samples → sample ≡ sample_of one atom → key ≡ atom_key scene metric atom
    → let keyed : KeyedAtom = record { key = key; atom = sample } in
    keyed ≡ handed_sample (keyed_sample scene metric fields atom)
sample_is scene metric one fields its samples atom sample key is also what_is key_is =
    ap (λ k. let keyed : KeyedAtom = record { key = k; atom = sample } in keyed) key_is
    ∙ ap (λ s. let keyed : KeyedAtom = record { key = atom_key scene metric atom; atom = s } in keyed)
    (what_is ∙ ap (λ f. sample_of f atom) (one_filter metric.kind one fields its samples is also))
