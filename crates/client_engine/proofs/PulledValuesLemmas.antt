-- The lane of a metric of pulled values, one step more.
use Rattle.std.proofs.Common.{◌≡◌, ℕ, ◌+◌, ◌<◌, ℤ, Bool, true, false, List, [], ◌∷◌, ◌++◌, map, length, drop, get_or, if◌then◌else◌, refl, sym, ap, subst, ◌∙◌, append_assoc}
use Rattle.std.proofs.lemmas.List.{drop_more, map-append}
use Rattle.atom_record.specs.declared.atom.Atom.{Atom}
use Rattle.atom_record.specs.declared.log.LogFrame.{LogFrame}
use Rattle.bucket_meaning.specs.Limits.{time_limit}
use Rattle.config_types.specs.declared.matcher.SimpleMatcher.{SimpleMatcher}
use Rattle.config_types.specs.declared.parameters.DiffSpec.{DiffSpec}
use Rattle.config_links.specs.declared.linked.LMetric.{LMetric}
use Rattle.matcher_eval.specs.AtomTests.{matcher_holds}
use Rattle.predicate_state.specs.declared.truth.Truth.{Truth}
use Rattle.session_frames.specs.FrameReading.{log_time}
use Rattle.report_writer.specs.declared.tree.MetricTree.{MetricTree}
use Rattle.metric_producer.specs.Calls.{Got, Learned}
use Rattle.metric_producer.specs.Collecting.{demands_of}
use Rattle.metric_producer.specs.Moves.{Moves}
use Rattle.metric_producer.specs.declared.row.Row.{Row}
use Rattle.bucket_meaning.specs.Kept.{Taken}
use Rattle.metric_lane.specs.LaneStands.{LaneHas, GetsFrame, GetsCalls, GetsReport}
use Rattle.value_metric.specs.declared.keyed_int.KeyedInt.{KeyedInt}
use Rattle.value_metric.specs.declared.keyed_int.SnapInts.{SnapInts}
use Rattle.value_metric.specs.declared.pulled_value.PulledValue.{PulledValue}
use Rattle.value_metric.specs.PulledValues.{PulledValueParams, PulledValueCall}
use Rattle.value_metric.specs.PulledStands.{pulled_law}
use Rattle.metric_meaning.specs.Histories.{Installation, moment_of}
use Rattle.metric_meaning.specs.Scenes.{Scene, scene_after}
use Rattle.metric_meaning.specs.ValueLeaves.{ValueLeaf, integer_in}
use Rattle.metric_meaning.specs.SnapshotSteps.{snapshot_found, atoms_meant}
use Rattle.metric_meaning.specs.PulledValueSteps.{with_pulled_key, pulled_integers, pulled_value_way}
use Rattle.metric_meaning.specs.Reports.{metric_tree}
use Rattle.metric_calls.specs.ValueCalls.{keyed_int}
use Rattle.metric_calls.specs.SnapshotCalls.{truth_in}
use Rattle.metric_calls.specs.PulledValueCalls.{pulled_value_params, value_telling, pulled_value_asking}
use Rattle.metric_calls.proofs.PulledValueCallsLemmas.{pulled_values_agree, pulled_values_ask_well}
use Rattle.client_engine.specs.Handed.{Handed, IsOfScene}
use Rattle.client_engine.specs.NextSteps.{TakesFrame, TakesReport}
use Rattle.client_engine.specs.Finding.{calls_shown}
use Rattle.client_engine.specs.ValuesAlong.{values_shown_by}
use Rattle.client_engine.specs.PulledValuesAlong.{PulledValueLane, pulled_kind_at, PulledValuesAlong}
use Rattle.client_engine.specs.declared.request.ReportRequest.{ReportRequest}
use Rattle.client_engine.proofs.AlongLemmas.{along_reports}
use Rattle.client_engine.proofs.SnapshotsToldLemmas.{told_begins, told_log}

-- a new lane of pulled values, whose producer was told what stands at the installation, has seen no step
pub pulled_values_begin : (metric : LMetric) (source : ValueLeaf) (spec : DiffSpec)
    → metric.kind ≡ pulled_kind_at source spec → (installed : Installation) (base : ℕ) (new told opened : PulledValue)
    (lane : PulledValueLane) (snapshot : SnapInts) (now : Truth) → installed.base ≡ base → base < time_limit
    → pulled_law.stands new (pulled_value_params base metric spec) []
    → Moves pulled_law new told (Got base snapshot) → Moves pulled_law told opened (Learned base now)
    → snapshot ≡ (value_telling metric source).snapshot (snapshot_found installed metric [])
    → now ≡ truth_in (scene_after installed []) metric
    → ((params : PulledValueParams) (opening : List PulledValueCall) → (demands_of pulled_law params).base ≡ base
    → (demands_of pulled_law params).size ≡ metric.size → pulled_law.stands opened params opening
    → LaneHas pulled_law lane params [] opening)
    → PulledValuesAlong metric installed [] lane
pulled_values_begin metric source spec values installed base new told opened lane snapshot now base_is fits stands gets
    learns snapshot_is now_is made = record {
      source = source;
      spec = spec;
      values = values;
      along = told_begins (pulled_value_way installed metric source spec)
          (pulled_value_params installed.base metric spec) (value_telling metric source) installed metric pulled_law
          (pulled_values_ask_well installed metric source spec)
          (subst (λ b. b < time_limit) (sym base_is) fits) new told
          opened lane base snapshot now
          (subst (λ b. pulled_law.stands new (pulled_value_params b metric spec) []) (sym base_is) stands) gets learns
          (sym base_is) snapshot_is now_is
          (λ opening. made (pulled_value_params installed.base metric spec) opening base_is refl);
    }

-- a lane of pulled values takes one more frame of the log, which is shown so: what it crosses, and then what is told
pub pulled_values_log : (given : Handed) (metric : LMetric) (shown : LogFrame) (truths : List Bool)
    (old middle new : PulledValueLane)
    → GetsFrame pulled_law old middle (moment_of shown (log_time shown))
    → ((scene : Scene) → IsOfScene given scene → (source : ValueLeaf) (spec : DiffSpec)
    → metric.kind ≡ pulled_kind_at source spec
    → GetsCalls pulled_law middle new (calls_shown (value_telling metric source) scene metric shown truths))
    → TakesFrame (PulledValuesAlong metric) given shown truths old new
pulled_values_log given metric shown truths old middle new crosses gets installed steps frame has may = record {
  source = has.source;
  spec = has.spec;
  values = has.values;
  along = told_log (pulled_value_way installed metric has.source has.spec)
      (pulled_value_params installed.base metric has.spec) (value_telling metric has.source) installed metric pulled_law
      (pulled_values_ask_well installed metric has.source has.spec) refl given shown frame truths old middle new steps
      crosses (λ scene found. gets scene found has.source has.spec has.values) has.along may;
}

-- what a lane of pulled values hands out is what a report shows of the metric
pub pulled_values_report : (metric : LMetric) (base : ℕ) (request : ReportRequest) (old new : PulledValueLane)
    (closed : Taken (Row ℤ))
    → GetsReport pulled_law old new request.at request.include_current closed
    → (tree : MetricTree) → tree ≡ values_shown_by base metric closed
    → TakesReport (PulledValuesAlong metric) metric base request old new tree
pulled_values_report metric base request old new closed reports tree is installed steps has may =
    let both = along_reports (pulled_value_asking installed metric has.source has.spec) pulled_law
    (pulled_values_ask_well installed metric has.source has.spec)
    steps (pulled_values_agree installed metric has.source has.spec) request old new closed reports has.along
    may.in_time in (
      record { source = has.source; spec = has.spec; values = has.values; along = both.0 },
      is ∙ ap (λ b. values_shown_by b metric closed) (sym may.base_is)
          ∙ ap (values_shown_by installed.base metric) both.1
          ∙ ap (λ kind. metric_tree installed steps request.include_current request.at (record metric { kind = kind }))
          (sym has.values),
    )

module _ (metric : LMetric) (source : ValueLeaf) (matcher : SimpleMatcher) where
  -- the integers of the atoms that are meant of these, as a producer gets them
  abbrev pub integers_meant : List Atom → List KeyedInt
  integers_meant atoms = map keyed_int (pulled_integers metric source (atoms_meant matcher atoms))

  -- the integer of one atom, if it is meant and has one
  abbrev pub integer_meant : Bool → Atom → List KeyedInt
  integer_meant meant atom =
      if meant then map keyed_int (with_pulled_key metric atom (integer_in source atom)) else []

  -- the integers of one atom more in front
  one_meant : (meant : Bool) (atom : Atom) (atoms : List Atom)
      → map keyed_int (pulled_integers metric source (if meant then atom ∷ atoms_meant matcher atoms
      else atoms_meant matcher atoms))
      ≡ integer_meant meant atom ++ integers_meant atoms
  one_meant true atom atoms =
      map-append keyed_int (with_pulled_key metric atom (integer_in source atom))
      (pulled_integers metric source (atoms_meant matcher atoms))
  one_meant false atom atoms = refl

  -- the integers so far, one atom more
  pub integers_on : (atoms : List Atom) (index : ℕ) (atom : Atom) (so_far more : List KeyedInt) (meant : Bool)
      → index < length atoms → atom ≡ get_or atoms index atom → meant ≡ matcher_holds matcher atom
      → so_far ++ integers_meant (drop index atoms) ≡ integers_meant atoms
      → more ≡ so_far ++ integer_meant meant atom
      → more ++ integers_meant (drop (index + 1) atoms) ≡ integers_meant atoms
  integers_on atoms index atom so_far more meant within is holds before more_is =
      let rest = drop (index + 1) atoms in
      ap (λ l. l ++ integers_meant rest) more_is
      ∙ append_assoc so_far (integer_meant meant atom) (integers_meant rest)
      ∙ ap (λ l. so_far ++ l)
      (ap (λ m. integer_meant m atom ++ integers_meant rest) holds
      ∙ sym (one_meant (matcher_holds matcher atom) atom rest)
      ∙ ap (λ a. integers_meant (a ∷ rest)) is
      ∙ ap integers_meant (sym (drop_more atoms index atom within)))
      ∙ before
