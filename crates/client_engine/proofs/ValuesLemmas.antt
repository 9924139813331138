-- The lane of a metric of pushed values, one step more.
use Rattle.std.proofs.Common.{◌≡◌, ℕ, ℤ, ◌<◌, Bool, List, [], Option, Some, refl, sym, ap, subst, ◌∙◌}
use Rattle.std.specs.Option.{option_map, option_and_then}
use Rattle.atom_record.specs.declared.atom.Atom.{Atom}
use Rattle.atom_record.specs.declared.log.LogFrame.{LogFrame}
use Rattle.atom_record.specs.declared.value.MetricKey.{MetricKey}
use Rattle.bucket_meaning.specs.Limits.{time_limit}
use Rattle.config_types.specs.declared.metric.Aggregation.{Aggregation}
use Rattle.config_links.specs.declared.linked.LMetric.{LMetric}
use Rattle.config_links.specs.declared.linked.LKind.{LKind}
use Rattle.config_links.specs.declared.linked.LKind.TheVariants as kinds
use Rattle.metric_producer.specs.declared.row.Row.{Row}
use Rattle.bucket_meaning.specs.Kept.{Taken}
use Rattle.value_metric.specs.PushedStands.{pushed_law}
use Rattle.value_metric.specs.declared.keyed_int.KeyedInt.{KeyedInt}
use Rattle.report_writer.specs.declared.tree.MetricTree.{MetricTree}
use Rattle.session_frames.specs.FrameReading.{log_time}
use Rattle.metric_lane.specs.LaneStands.{LaneHas, LogsEvent, GetsReport}
use Rattle.metric_meaning.specs.Histories.{Step, Installation, moment_of}
use Rattle.metric_meaning.specs.Scenes.{Scene}
use Rattle.metric_meaning.specs.ValueLeaves.{ValueLeaf, integer_in}
use Rattle.metric_meaning.specs.Arrivals.{is_active_in, arriving_by, atom_key}
use Rattle.metric_meaning.specs.PushedValueSteps.{keyed_integer, value_arrival_by}
use Rattle.metric_calls.specs.ValueCalls.{value_params, keyed_int, value_asking}
use Rattle.metric_meaning.specs.Reports.{metric_tree}
use Rattle.metric_calls.proofs.ValueCallsLemmas.{values_agree, values_ask_well}
use Rattle.client_engine.specs.Handed.{Handed, IsOfScene}
use Rattle.client_engine.specs.NextSteps.{TakesWhile, TakesReport}
use Rattle.known_conditions.specs.Known.{logged_step}
use Rattle.client_engine.specs.ValuesAlong.{ValueLane, value_kind_at, ValuesAlong, values_shown_by}
use Rattle.client_engine.proofs.AlongLemmas.{along_begins, along_reports}
use Rattle.client_engine.proofs.ArrivingLemmas.{IsOfArrivals, arrivals_log}
use Rattle.client_engine.specs.declared.request.ReportRequest.{ReportRequest}

module _ (metric : LMetric) (source : ValueLeaf) (aggregation : Aggregation)
    (values : metric.kind ≡ value_kind_at source aggregation) where
  -- a new lane of values has seen no step of what was installed at this clock
  pub values_begin : (installed : Installation) (base : ℕ) (lane : ValueLane) → installed.base ≡ base
      → base < time_limit → LaneHas pushed_law lane (value_params base metric aggregation) [] []
      → ValuesAlong metric installed [] lane
  values_begin installed base lane base_is fits has = record {
    source = source;
    aggregation = aggregation;
    values = values;
    along = along_begins (value_asking installed metric source aggregation) pushed_law lane
        (subst (λ b. b < time_limit) (sym base_is) fits)
        (subst (λ b. LaneHas pushed_law lane (value_params b metric aggregation) [] []) (sym base_is) has);
  }

-- what a metric of values asks hangs on the atom that arrives: its key and its integer, if it has one
pub values_arrive : (installed : Installation) (metric : LMetric) (source : ValueLeaf) (aggregation : Aggregation)
    → IsOfArrivals (value_asking installed metric source aggregation) pushed_law installed metric
    (λ scene found. option_map keyed_int (option_and_then (keyed_integer scene metric source) found))
values_arrive installed metric source aggregation = record {
  well = values_ask_well installed metric source aggregation;
  base = refl;
  news = λ before step. refl;
}

-- a lane of values takes one more frame of the log, which is shown so
pub values_log : (given : Handed) (metric : LMetric) (shown : LogFrame) (truths : List Bool) (old new : ValueLane)
    (keyed : Option KeyedInt) (active : Bool)
    → ((scene : Scene) → IsOfScene given scene → active ≡ is_active_in scene metric (log_time shown)
    → (source : ValueLeaf) (aggregation : Aggregation)
    → metric.kind ≡ value_kind_at source aggregation
    → keyed ≡ option_map keyed_int (value_arrival_by scene metric source (logged_step shown truths)))
    → LogsEvent pushed_law old new (moment_of shown (log_time shown)) keyed
    → TakesWhile (ValuesAlong metric) active metric given shown truths old new
values_log given metric shown truths old new keyed active is logs installed steps frame active_is has may = record {
  source = has.source;
  aggregation = has.aggregation;
  values = has.values;
  along = arrivals_log (value_asking installed metric has.source has.aggregation) pushed_law installed metric
      (λ scene found. option_map keyed_int (option_and_then (keyed_integer scene metric has.source) found))
      (values_arrive installed metric has.source has.aggregation)
      given shown frame truths old new keyed steps active active_is
      (λ scene found now. is scene found now has.source has.aggregation has.values) logs has.along may;
}

-- what a lane of values hands out is what a report shows of the metric
pub values_report : (metric : LMetric) (base : ℕ) (request : ReportRequest) (old new : ValueLane)
    (closed : Taken (Row ℤ))
    → GetsReport pushed_law old new request.at request.include_current closed
    → (tree : MetricTree) → tree ≡ values_shown_by base metric closed
    → TakesReport (ValuesAlong metric) metric base request old new tree
values_report metric base request old new closed reports tree is installed steps has may =
    let both = along_reports (value_asking installed metric has.source has.aggregation) pushed_law
    (values_ask_well installed metric has.source has.aggregation)
    steps (values_agree installed metric has.source has.aggregation) request old new closed reports has.along
    may.in_time in (
      record { source = has.source; aggregation = has.aggregation; values = has.values; along = both.0 },
      is ∙ ap (λ b. values_shown_by b metric closed) (sym may.base_is)
          ∙ ap (values_shown_by installed.base metric) both.1
          ∙ ap (λ kind. metric_tree installed steps request.include_current request.at (record metric { kind = kind }))
          (sym has.values),
    )

-- the leaf of a metric of pushed values; the other one, where the kind is another
abbrev source_or : ValueLeaf → LKind → ValueLeaf
source_or other (kinds.PushedValue atom_id leaf aggregation) = record { atom_id = atom_id; leaf = leaf }
source_or other kind = other

-- a metric's values have one leaf
one_source : (kind : LKind) (one other : ValueLeaf) (its others : Aggregation) → kind ≡ value_kind_at one its
    → kind ≡ value_kind_at other others → one ≡ other
one_source kind one other its others is also = ap (source_or one) (sym is ∙ also)

-- what arrives with an atom: its key with this integer, if it has one
abbrev keyed_by : Scene → LMetric → Atom → Option ℤ → Option KeyedInt
keyed_by scene metric atom integer =
    option_map keyed_int (option_map (λ found. (atom_key scene metric atom, found)) integer)

-- what arrives with the atom that arrives
atom_keyed : (scene : Scene) (metric : LMetric) (one source : ValueLeaf) (its aggregation : Aggregation) (step : Step)
    (atom : Atom) (integer : Option ℤ) → metric.kind ≡ value_kind_at one its
    → metric.kind ≡ value_kind_at source aggregation → Some atom ≡ arriving_by scene metric step
    → integer ≡ integer_in one atom
    → keyed_by scene metric atom integer ≡ option_map keyed_int (value_arrival_by scene metric source step)
atom_keyed scene metric one source its aggregation step atom integer is also comes integer_is =
    ap (keyed_by scene metric atom)
    (integer_is ∙ ap (λ leaf. integer_in leaf atom) (one_source metric.kind one source its aggregation is also))
    ∙ ap (λ found. option_map keyed_int (option_and_then (keyed_integer scene metric source) found)) comes

-- where the atom has an integer, its key arrives with it
pub with_integer : (scene : Scene) (metric : LMetric) (one source : ValueLeaf) (its aggregation : Aggregation)
    (step : Step) (atom : Atom) (integer : ℤ) (key : MetricKey) → metric.kind ≡ value_kind_at one its
    → metric.kind ≡ value_kind_at source aggregation → Some atom ≡ arriving_by scene metric step
    → Some integer ≡ integer_in one atom → key ≡ atom_key scene metric atom
    → let keyed : KeyedInt = record { key = key; value = integer } in
    Some keyed ≡ option_map keyed_int (value_arrival_by scene metric source step)
with_integer scene metric one source its aggregation step atom integer key is also comes some key_is =
    ap (λ k. let keyed : KeyedInt = record { key = k; value = integer } in Some keyed) key_is
    ∙ atom_keyed scene metric one source its aggregation step atom (Some integer) is also comes some
