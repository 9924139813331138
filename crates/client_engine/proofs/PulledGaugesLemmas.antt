-- The lane of a pulled gauge, one step more.
use Rattle.std.proofs.Common.{◌≡◌, ℕ, ◌+◌, ◌<◌, Bool, true, false, List, [], ◌∷◌, ◌++◌, map, length, drop, get_or, Option, if◌then◌else◌, refl, sym, ap, subst, ◌∙◌, append_assoc}
use Rattle.std.proofs.lemmas.List.{drop_more}
use Rattle.atom_record.specs.declared.atom.Atom.{Atom}
use Rattle.atom_record.specs.declared.log.LogFrame.{LogFrame}
use Rattle.bucket_meaning.specs.Limits.{time_limit}
use Rattle.field_select.specs.declared.leaf.FieldSet.{FieldSet}
use Rattle.config_types.specs.declared.matcher.SimpleMatcher.{SimpleMatcher}
use Rattle.config_types.specs.declared.parameters.Sampling.{Sampling}
use Rattle.config_links.specs.declared.linked.LMetric.{LMetric}
use Rattle.config_links.specs.declared.linked.LKind.{LKind}
use Rattle.config_links.specs.declared.linked.LKind.TheVariants as kinds
use Rattle.matcher_eval.specs.AtomTests.{matcher_holds}
use Rattle.predicate_state.specs.declared.truth.Truth.{Truth}
use Rattle.session_frames.specs.FrameReading.{log_time}
use Rattle.report_writer.specs.declared.tree.MetricTree.{MetricTree}
use Rattle.metric_producer.specs.Calls.{Got, Learned}
use Rattle.metric_producer.specs.Collecting.{demands_of}
use Rattle.metric_producer.specs.Moves.{Moves}
use Rattle.metric_producer.specs.declared.row.Row.{Row}
use Rattle.bucket_meaning.specs.Kept.{Taken}
use Rattle.metric_lane.specs.LaneStands.{LaneHas, GetsFrame, GetsCalls, GetsReport}
use Rattle.gauge_metric.specs.declared.gauge.KeyedAtom.{KeyedAtom}
use Rattle.gauge_metric.specs.declared.snapshot.SnapAtoms.{SnapAtoms}
use Rattle.gauge_metric.specs.declared.snapshot.SnapAtoms.TheVariants.{Trigger}
use Rattle.gauge_metric.specs.declared.pulled.PulledGauge.{PulledGauge}
use Rattle.gauge_metric.specs.PulledSampling.{PulledGaugeParams, PulledGaugeCall}
use Rattle.gauge_metric.specs.PulledStands.{pulled_law}
use Rattle.metric_meaning.specs.Histories.{Installation, moment_of}
use Rattle.metric_meaning.specs.PredicateSteps.{named_truth}
use Rattle.metric_meaning.specs.Scenes.{Scene, scene_after}
use Rattle.metric_meaning.specs.Samples.{sample_of}
use Rattle.metric_meaning.specs.SnapshotSteps.{snapshot_found, atoms_meant, pulled_key}
use Rattle.metric_meaning.specs.PulledGaugeSteps.{pulled_samples, pulled_gauge_way}
use Rattle.metric_meaning.specs.Reports.{metric_tree}
use Rattle.metric_calls.specs.PushedGaugeCalls.{handed_sample}
use Rattle.metric_calls.specs.SnapshotCalls.{truth_in}
use Rattle.metric_calls.specs.PulledGaugeCalls.{sample_spec, pulled_gauge_params, gauge_telling, pulled_gauge_asking}
use Rattle.metric_calls.proofs.PulledGaugeCallsLemmas.{pulled_gauges_agree, pulled_gauges_ask_well}
use Rattle.client_engine.specs.Handed.{Handed, IsOfScene}
use Rattle.client_engine.specs.NextSteps.{TakesFrame, TakesReport}
use Rattle.client_engine.specs.Finding.{calls_shown}
use Rattle.client_engine.specs.GaugesAlong.{gauges_shown_by}
use Rattle.client_engine.specs.PulledGaugesAlong.{PulledGaugeLane, PulledGaugesAlong}
use Rattle.client_engine.specs.declared.request.ReportRequest.{ReportRequest}
use Rattle.client_engine.proofs.AlongLemmas.{along_reports}
use Rattle.client_engine.proofs.SnapshotsToldLemmas.{told_begins, told_log}

-- a new lane of a pulled gauge, whose producer was told what stands at the installation, has seen no step
pub pulled_gauges_begin : (metric : LMetric) (fields : Option FieldSet) (samples : ℕ) (mode : Sampling)
    (trigger : Option ℕ) → metric.kind ≡ kinds.PulledGauge fields samples mode trigger → (installed : Installation)
    (base : ℕ) (new told opened : PulledGauge) (lane : PulledGaugeLane) (snapshot : SnapAtoms) (now : Truth)
    → installed.base ≡ base → base < time_limit
    → pulled_law.stands new (pulled_gauge_params base metric (sample_spec samples mode)) []
    → Moves pulled_law new told (Got base snapshot) → Moves pulled_law told opened (Learned base now)
    → snapshot ≡ (gauge_telling metric fields trigger).snapshot (snapshot_found installed metric [])
    → now ≡ truth_in (scene_after installed []) metric
    → ((params : PulledGaugeParams) (opening : List PulledGaugeCall) → (demands_of pulled_law params).base ≡ base
    → (demands_of pulled_law params).size ≡ metric.size → pulled_law.stands opened params opening
    → LaneHas pulled_law lane params [] opening)
    → PulledGaugesAlong metric installed [] lane
pulled_gauges_begin metric fields samples mode trigger gauge installed base new told opened lane snapshot now base_is
    fits stands gets learns snapshot_is now_is made = record {
      fields = fields;
      samples = samples;
      mode = mode;
      trigger = trigger;
      gauge = gauge;
      along = told_begins (pulled_gauge_way installed metric fields samples mode trigger)
          (pulled_gauge_params installed.base metric (sample_spec samples mode))
          (gauge_telling metric fields trigger) installed metric pulled_law
          (pulled_gauges_ask_well installed metric fields samples mode trigger)
          (subst (λ b. b < time_limit) (sym base_is) fits) new told opened lane base snapshot now
          (subst (λ b. pulled_law.stands new (pulled_gauge_params b metric (sample_spec samples mode)) [])
          (sym base_is) stands)
          gets learns (sym base_is) snapshot_is now_is
          (λ opening.
          made (pulled_gauge_params installed.base metric (sample_spec samples mode)) opening base_is refl);
    }

-- a lane of a pulled gauge takes one more frame of the log, which is shown so: what it crosses, and then what is told
pub pulled_gauges_log : (given : Handed) (metric : LMetric) (shown : LogFrame) (truths : List Bool)
    (old middle new : PulledGaugeLane)
    → GetsFrame pulled_law old middle (moment_of shown (log_time shown))
    → ((scene : Scene) → IsOfScene given scene → (fields : Option FieldSet) (samples : ℕ) (mode : Sampling)
    (trigger : Option ℕ) → metric.kind ≡ kinds.PulledGauge fields samples mode trigger
    → GetsCalls pulled_law middle new (calls_shown (gauge_telling metric fields trigger) scene metric shown truths))
    → TakesFrame (PulledGaugesAlong metric) given shown truths old new
pulled_gauges_log given metric shown truths old middle new crosses gets installed steps frame has may = record {
  fields = has.fields;
  samples = has.samples;
  mode = has.mode;
  trigger = has.trigger;
  gauge = has.gauge;
  along = told_log (pulled_gauge_way installed metric has.fields has.samples has.mode has.trigger)
      (pulled_gauge_params installed.base metric (sample_spec has.samples has.mode))
      (gauge_telling metric has.fields has.trigger) installed metric pulled_law
      (pulled_gauges_ask_well installed metric has.fields has.samples has.mode has.trigger) refl
      given shown frame truths
      old middle new steps crosses
      (λ scene found. gets scene found has.fields has.samples has.mode has.trigger has.gauge) has.along may;
}

-- what a lane of a pulled gauge hands out is what a report shows of the metric
pub pulled_gauges_report : (metric : LMetric) (base : ℕ) (request : ReportRequest) (old new : PulledGaugeLane)
    (closed : Taken (Row (List Atom)))
    → GetsReport pulled_law old new request.at request.include_current closed
    → (tree : MetricTree) → tree ≡ gauges_shown_by base metric closed
    → TakesReport (PulledGaugesAlong metric) metric base request old new tree
pulled_gauges_report metric base request old new closed reports tree is installed steps has may =
    let both = along_reports (pulled_gauge_asking installed metric has.fields has.samples has.mode has.trigger)
    pulled_law (pulled_gauges_ask_well installed metric has.fields has.samples has.mode has.trigger)
    steps (pulled_gauges_agree installed metric has.fields has.samples has.mode has.trigger has.gauge)
    request old new closed
    reports has.along may.in_time in (
      record {
        fields = has.fields;
        samples = has.samples;
        mode = has.mode;
        trigger = has.trigger;
        gauge = has.gauge;
        along = both.0;
      },
      is ∙ ap (λ b. gauges_shown_by b metric closed) (sym may.base_is)
          ∙ ap (gauges_shown_by installed.base metric) both.1
          ∙ ap (λ kind. metric_tree installed steps request.include_current request.at (record metric { kind = kind }))
          (sym has.gauge),
    )

-- the fields of a gauge's samples; the others, where the kind is another
abbrev fields_or : Option FieldSet → LKind → Option FieldSet
fields_or others (kinds.PulledGauge fields samples mode trigger) = fields
fields_or others kind = others

-- its trigger
abbrev trigger_or : Option ℕ → LKind → Option ℕ
trigger_or other (kinds.PulledGauge fields samples mode trigger) = trigger
trigger_or other kind = other

-- a pulled gauge has one list of fields
pub one_filter : (kind : LKind) (one other : Option FieldSet) (its others : ℕ) (mode other_mode : Sampling)
    (trigger other_trigger : Option ℕ) → kind ≡ kinds.PulledGauge one its mode trigger
    → kind ≡ kinds.PulledGauge other others other_mode other_trigger → one ≡ other
one_filter kind one other its others mode other_mode trigger other_trigger is also =
    ap (fields_or one) (sym is ∙ also)

-- and one trigger
pub one_trigger : (kind : LKind) (one other : Option FieldSet) (its others : ℕ) (mode other_mode : Sampling)
    (trigger other_trigger : Option ℕ) → kind ≡ kinds.PulledGauge one its mode trigger
    → kind ≡ kinds.PulledGauge other others other_mode other_trigger → trigger ≡ other_trigger
one_trigger kind one other its others mode other_mode trigger other_trigger is also =
    ap (trigger_or trigger) (sym is ∙ also)

-- what a lane got of an atom that matches the trigger, or doesn't
abbrev pub GotTrigger : Bool → PulledGaugeLane → PulledGaugeLane → ℕ → Type 0
GotTrigger true old new at = GetsCalls pulled_law old new (Got at Trigger ∷ [])
GotTrigger false old new at = GetsCalls pulled_law old new []

-- that is what is told of the atom's matchers
pub triggered : (metric : LMetric) (old new : PulledGaugeLane) (at : ℕ) (truths : List Bool)
    (fields : Option FieldSet) (trigger : Option ℕ) (matches : Bool) → named_truth trigger truths ≡ matches
    → GotTrigger matches old new at
    → GetsCalls pulled_law old new (map (λ event. Got at event) ((gauge_telling metric fields trigger).atom truths))
triggered metric old new at truths fields trigger true is got =
    subst (λ triggers. GetsCalls pulled_law old new
    (map (λ (event : SnapAtoms). Got at event) (if triggers then Trigger ∷ [] else []))) (sym is) got
triggered metric old new at truths fields trigger false is got =
    subst (λ triggers. GetsCalls pulled_law old new
    (map (λ (event : SnapAtoms). Got at event) (if triggers then Trigger ∷ [] else []))) (sym is) got

module _ (metric : LMetric) (fields : Option FieldSet) (matcher : SimpleMatcher) where
  -- the samples of the atoms that are meant of these, as a producer gets them
  abbrev pub samples_meant : List Atom → List KeyedAtom
  samples_meant atoms = map handed_sample (pulled_samples metric fields (atoms_meant matcher atoms))

  -- the sample of one atom, if it is meant
  abbrev pub sample_meant : Bool → Atom → List KeyedAtom
  sample_meant meant atom =
      if meant then handed_sample (pulled_key metric atom, sample_of fields atom) ∷ [] else []

  -- the samples of one atom more in front
  one_meant : (meant : Bool) (atom : Atom) (atoms : List Atom)
      → map handed_sample (pulled_samples metric fields (if meant then atom ∷ atoms_meant matcher atoms
      else atoms_meant matcher atoms))
      ≡ sample_meant meant atom ++ samples_meant atoms
  one_meant true atom atoms = refl
  one_meant false atom atoms = refl

  -- the samples so far, one atom more
  pub samples_on : (atoms : List Atom) (index : ℕ) (atom : Atom) (so_far more : List KeyedAtom) (meant : Bool)
      → index < length atoms → atom ≡ get_or atoms index atom → meant ≡ matcher_holds matcher atom
      → so_far ++ samples_meant (drop index atoms) ≡ samples_meant atoms
      → more ≡ so_far ++ sample_meant meant atom
      → more ++ samples_meant (drop (index + 1) atoms) ≡ samples_meant atoms
  samples_on atoms index atom so_far more meant within is holds before more_is =
      let rest = drop (index + 1) atoms in
      ap (λ l. l ++ samples_meant rest) more_is
      ∙ append_assoc so_far (sample_meant meant atom) (samples_meant rest)
      ∙ ap (λ l. so_far ++ l)
      (ap (λ m. sample_meant m atom ++ samples_meant rest) holds
      ∙ sym (one_meant (matcher_holds matcher atom) atom rest)
      ∙ ap (λ a. samples_meant (a ∷ rest)) is
      ∙ ap samples_meant (sym (drop_more atoms index atom within)))
      ∙ before
