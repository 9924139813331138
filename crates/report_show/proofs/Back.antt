-- Each well-formed tree is read back from its bytes.
use Rattle.std.proofs.Common.{◌≡◌, ℕ, List, [], ◌∷◌, ◌++◌, map, All, false, refl, sym, ap, ◌∙◌, subst, arith}
use Rattle.std.specs.Prelude.{◌==◌}
use Rattle.std.specs.List.{AllByRecursion}
use Rattle.std.proofs.lemmas.List.Elements.{recursion_from_All}
use Rattle.proto_wire.specs.Spelling.{bytes_field}
use Rattle.proto_wire.specs.Grammar.{Written, AsVarint, AsBytes}
use Rattle.report_writer.specs.ReportNumbers as field
use Rattle.report_writer.specs.ReportSpelling.{metric_message, drop_message, alarm_message, key_message, config_message, report_message}
use Rattle.report_writer.specs.declared.tree.Drop64.{Drop64}
use Rattle.report_writer.specs.declared.tree.ReportTree.{ReportTree}
use Rattle.report_show.specs.WellFormed as well
use Rattle.report_show.specs.Reading.{Content, contents_in, number_under, payloads_under, read_metric, read_drop, read_alarm, tree_said, report_said, read_report}
use Rattle.report_show.proofs.FieldLemmas.{IsTold, said, repeated, if_above, repeated-told, repeated-fit, payloads-other, number-other, bytes-fit}
use Rattle.report_show.proofs.Spelled.{spelled, spelled-one, key_written, key-spelled, alarms_written, config_written, config-spelled, report_written, report-spelled}
use Rattle.report_show.proofs.NumberLemmas.{low64-same, signed-small, signed64-same, signed32-small, signed32-same}
use Rattle.report_show.proofs.ToldLemmas.{Counted, all_back, varint-told, signed-told, bytes-told, says, if-told, told-append, number-if_same, payloads-if, found, found-last, found-none, number-none, first-counts, second-counts, both-hold}
use Rattle.report_show.proofs.LeavesBack.{drop_back}
use Rattle.report_show.proofs.MetricBack.{GoodMetric, metric_back}
use Rattle.report_show.proofs.AlarmsBack.{alarm_back}

-- drops before other fields
drops_back : (number : ℕ) (drops : List Drop64) (after : List Written) → All well.FitsDrop drops
    → Counted (spelled (repeated number drop_message drops ++ after)) → map read_drop (map drop_message drops) ≡ drops
drops_back number drops after fits counted =
    all_back well.FitsDrop read_drop drop_message drop_back drops (recursion_from_All well.FitsDrop drops fits)
    (repeated-fit number drop_message drops (first-counts (repeated number drop_message drops) after counted))

-- reports
abbrev pub from_parts : List ℕ → List ℕ → ReportTree
from_parts key config = tree_said (contents_in key) (contents_in config)

pub key_told : (tree : ReportTree) → well.FitsReport tree → AllByRecursion IsTold (key_written tree)
key_told tree fits = (
  signed-told field.key_uid tree.uid (omega arith) (omega arith) (signed32-small tree.uid fits.uid),
  (signed-told field.key_id tree.id (omega arith) (omega arith) (signed-small tree.id fits.id), tt),
)

pub config_told : (tree : ReportTree) → well.FitsReport tree → AllByRecursion IsTold (config_written tree)
config_told tree fits =
    told-append (repeated field.report_metric metric_message tree.metrics) _
    (repeated-told field.report_metric metric_message tree.metrics (omega arith) (omega arith)) (
      varint-told field.report_last tree.last (omega arith) (omega arith) fits.last,
      (
        varint-told field.report_now tree.now (omega arith) (omega arith) fits.current,
        told-append (repeated field.report_predicate_drops drop_message tree.predicate_drops) _
            (repeated-told field.report_predicate_drops drop_message tree.predicate_drops (omega arith) (omega arith))
            (told-append (repeated field.report_state_drops drop_message tree.state_drops) _
            (repeated-told field.report_state_drops drop_message tree.state_drops (omega arith) (omega arith))
            (told-append (if_above field.report_dropped_state_atoms tree.state_atoms_dropped) _
            (if-told field.report_dropped_state_atoms tree.state_atoms_dropped (omega arith) (omega arith)
            fits.state_atoms_dropped)
            (told-append (repeated field.report_alarms alarm_message tree.alarms) _
            (repeated-told field.report_alarms alarm_message tree.alarms (omega arith) (omega arith))
            (repeated-told field.report_alarms_not_kept drop_message tree.alarms_not_kept (omega arith)
            (omega arith))))),
      ),
    )

-- the fields from the number of dropped state atoms on
abbrev pub atoms_written : ReportTree → List Written
atoms_written tree = if_above field.report_dropped_state_atoms tree.state_atoms_dropped ++ alarms_written tree

-- they hold no messages but those of alarms
none-among_alarms : (tree : ReportTree) (other : ℕ) → (field.report_alarms == other) ≡ false
    → (field.report_alarms_not_kept == other) ≡ false → payloads_under other (said (atoms_written tree)) ≡ []
none-among_alarms tree other apart apart_too =
    payloads-if field.report_dropped_state_atoms other tree.state_atoms_dropped (alarms_written tree)
    ∙ payloads-other field.report_alarms alarm_message other apart tree.alarms _
    ∙ found-none field.report_alarms_not_kept drop_message other apart_too tree.alarms_not_kept

pub config_back : (tree : ReportTree) → well.FitsReport tree → well.IsShapedReport tree → Counted (key_message tree)
    → Counted (config_message tree) → from_parts (key_message tree) (config_message tree) ≡ tree
config_back tree fits shaped key_counts counted =
    let not_kept_on : List Written = repeated field.report_alarms_not_kept drop_message tree.alarms_not_kept in
    let alarms_on : List Written = alarms_written tree in
    let atoms_on : List Written = atoms_written tree in
    let states_on : List Written = repeated field.report_state_drops drop_message tree.state_drops ++ atoms_on in
    let drops_on : List Written =
    repeated field.report_predicate_drops drop_message tree.predicate_drops ++ states_on in
    let now_on : List Written = AsVarint field.report_now tree.now ∷ drops_on in
    let last_on : List Written = AsVarint field.report_last tree.last ∷ now_on in
    let metrics_first : List Written = repeated field.report_metric metric_message tree.metrics in
    let long : Counted (spelled (config_written tree)) = subst Counted (config-spelled tree) counted in
    let long_last : Counted (spelled last_on) = second-counts metrics_first last_on long in
    let long_drops : Counted (spelled drops_on) =
    second-counts (AsVarint field.report_last tree.last ∷ AsVarint field.report_now tree.now ∷ []) drops_on long_last in
    let long_states : Counted (spelled states_on) =
    second-counts (repeated field.report_predicate_drops drop_message tree.predicate_drops) states_on long_drops in
    let long_atoms : Counted (spelled atoms_on) =
    second-counts (repeated field.report_state_drops drop_message tree.state_drops) atoms_on long_states in
    let long_alarms : Counted (spelled alarms_on) =
    second-counts (if_above field.report_dropped_state_atoms tree.state_atoms_dropped) alarms_on long_atoms in
    let long_not_kept : Counted (spelled not_kept_on) =
    second-counts (repeated field.report_alarms alarm_message tree.alarms) not_kept_on long_alarms in
    let whose = says (key_message tree) (key_written tree) (key-spelled tree) (key_told tree fits) key_counts in
    let is = says (config_message tree) (config_written tree) (config-spelled tree) (config_told tree fits) counted in
    let uid = signed32-same tree.uid fits.uid in
    let id = signed64-same tree.id fits.id in
    let last_is : number_under field.report_last (said (config_written tree)) ≡ tree.last =
    number-other field.report_metric metric_message field.report_last refl tree.metrics last_on
    ∙ low64-same tree.last fits.last in
    let now_is : number_under field.report_now (said (config_written tree)) ≡ tree.now =
    number-other field.report_metric metric_message field.report_now refl tree.metrics last_on
    ∙ low64-same tree.now fits.current in
    let atoms_is : number_under field.report_dropped_state_atoms (said (config_written tree))
    ≡ tree.state_atoms_dropped =
    number-other field.report_metric metric_message field.report_dropped_state_atoms refl tree.metrics last_on
    ∙ number-other field.report_predicate_drops drop_message field.report_dropped_state_atoms refl
    tree.predicate_drops states_on
    ∙ number-other field.report_state_drops drop_message field.report_dropped_state_atoms refl tree.state_drops atoms_on
    ∙ number-if_same field.report_dropped_state_atoms tree.state_atoms_dropped alarms_on fits.state_atoms_dropped
    (number-other field.report_alarms alarm_message field.report_dropped_state_atoms refl tree.alarms not_kept_on
    ∙ number-none field.report_alarms_not_kept drop_message field.report_dropped_state_atoms refl
    tree.alarms_not_kept) in
    let metrics_found : payloads_under field.report_metric (said (config_written tree))
    ≡ map metric_message tree.metrics =
    found field.report_metric metric_message tree.metrics last_on
    (payloads-other field.report_predicate_drops drop_message field.report_metric refl tree.predicate_drops states_on
    ∙ payloads-other field.report_state_drops drop_message field.report_metric refl tree.state_drops atoms_on
    ∙ none-among_alarms tree field.report_metric refl refl) in
    let predicates_found : payloads_under field.report_predicate_drops (said (config_written tree))
    ≡ map drop_message tree.predicate_drops =
    payloads-other field.report_metric metric_message field.report_predicate_drops refl tree.metrics last_on
    ∙ found field.report_predicate_drops drop_message tree.predicate_drops states_on
    (payloads-other field.report_state_drops drop_message field.report_predicate_drops refl tree.state_drops atoms_on
    ∙ none-among_alarms tree field.report_predicate_drops refl refl) in
    let states_found : payloads_under field.report_state_drops (said (config_written tree))
    ≡ map drop_message tree.state_drops =
    payloads-other field.report_metric metric_message field.report_state_drops refl tree.metrics last_on
    ∙ payloads-other field.report_predicate_drops drop_message field.report_state_drops refl tree.predicate_drops
    states_on
    ∙ found field.report_state_drops drop_message tree.state_drops atoms_on
    (none-among_alarms tree field.report_state_drops refl refl) in
    let alarms_found : payloads_under field.report_alarms (said (config_written tree))
    ≡ map alarm_message tree.alarms =
    payloads-other field.report_metric metric_message field.report_alarms refl tree.metrics last_on
    ∙ payloads-other field.report_predicate_drops drop_message field.report_alarms refl tree.predicate_drops states_on
    ∙ payloads-other field.report_state_drops drop_message field.report_alarms refl tree.state_drops atoms_on
    ∙ payloads-if field.report_dropped_state_atoms field.report_alarms tree.state_atoms_dropped alarms_on
    ∙ found field.report_alarms alarm_message tree.alarms not_kept_on
    (found-none field.report_alarms_not_kept drop_message field.report_alarms refl tree.alarms_not_kept) in
    let not_kept_found : payloads_under field.report_alarms_not_kept (said (config_written tree))
    ≡ map drop_message tree.alarms_not_kept =
    payloads-other field.report_metric metric_message field.report_alarms_not_kept refl tree.metrics last_on
    ∙ payloads-other field.report_predicate_drops drop_message field.report_alarms_not_kept refl tree.predicate_drops
    states_on
    ∙ payloads-other field.report_state_drops drop_message field.report_alarms_not_kept refl tree.state_drops atoms_on
    ∙ payloads-if field.report_dropped_state_atoms field.report_alarms_not_kept tree.state_atoms_dropped alarms_on
    ∙ payloads-other field.report_alarms alarm_message field.report_alarms_not_kept refl tree.alarms not_kept_on
    ∙ found-last field.report_alarms_not_kept drop_message tree.alarms_not_kept in
    let metrics_read = ap (map read_metric) metrics_found
    ∙ all_back GoodMetric read_metric metric_message metric_back tree.metrics
    (both-hold well.FitsMetric well.IsShapedMetric tree.metrics
    (recursion_from_All well.FitsMetric tree.metrics fits.metrics)
    (recursion_from_All well.IsShapedMetric tree.metrics shaped.metrics))
    (repeated-fit field.report_metric metric_message tree.metrics (first-counts metrics_first last_on long)) in
    let predicates_read = ap (map read_drop) predicates_found
    ∙ drops_back field.report_predicate_drops tree.predicate_drops states_on fits.predicate_drops long_drops in
    let states_read = ap (map read_drop) states_found
    ∙ drops_back field.report_state_drops tree.state_drops atoms_on fits.state_drops long_states in
    let alarms_read = ap (map read_alarm) alarms_found
    ∙ all_back well.FitsAlarm read_alarm alarm_message alarm_back tree.alarms
    (recursion_from_All well.FitsAlarm tree.alarms fits.alarms)
    (repeated-fit field.report_alarms alarm_message tree.alarms
    (first-counts (repeated field.report_alarms alarm_message tree.alarms) not_kept_on long_alarms)) in
    let not_kept_read = ap (map read_drop) not_kept_found
    ∙ all_back well.FitsDrop read_drop drop_message drop_back tree.alarms_not_kept
    (recursion_from_All well.FitsDrop tree.alarms_not_kept fits.alarms_not_kept)
    (repeated-fit field.report_alarms_not_kept drop_message tree.alarms_not_kept long_not_kept) in
    ap (λ (l : List Content). tree_said l (contents_in (config_message tree))) whose
    ∙ ap (tree_said (said (key_written tree))) is
    ∙ (λ i. record {
      uid = uid i;
      id = id i;
      last = last_is i;
      now = now_is i;
      metrics = metrics_read i;
      predicate_drops = predicates_read i;
      state_drops = states_read i;
      state_atoms_dropped = atoms_is i;
      alarms = alarms_read i;
      alarms_not_kept = not_kept_read i;
    })

-- a well-formed tree is read back from its bytes
pub tree_back : (tree : ReportTree) → well.IsWellFormed tree → read_report (report_message tree) ≡ tree
unfolding read_report
tree_back tree is_well =
    let all : AllByRecursion IsTold (report_written tree) = (
      bytes-told field.list_key (key_message tree) (omega arith) (omega arith),
      (bytes-told field.list_report (config_message tree) (omega arith) (omega arith), tt),
    ) in
    let long : Counted (spelled (report_written tree)) = subst Counted (report-spelled tree) is_well.counted in
    let key_on : List Written = AsBytes field.list_key (key_message tree) ∷ [] in
    let config_on : List Written = AsBytes field.list_report (config_message tree) ∷ [] in
    let long_key : Counted (bytes_field field.list_key (key_message tree)) =
    subst Counted (spelled-one (AsBytes field.list_key (key_message tree)))
    (first-counts key_on config_on long) in
    let long_config : Counted (bytes_field field.list_report (config_message tree)) =
    subst Counted (spelled-one (AsBytes field.list_report (config_message tree)))
    (second-counts key_on config_on long) in
    ap report_said (says (report_message tree) (report_written tree) (report-spelled tree) all is_well.counted)
    ∙ config_back tree is_well.fits is_well.shaped (bytes-fit field.list_key (key_message tree) long_key)
    (bytes-fit field.list_report (config_message tree) long_config)

-- two well-formed trees with the same bytes are equal
pub one_tree : (tree other : ReportTree) → well.IsWellFormed tree → well.IsWellFormed other
    → report_message tree ≡ report_message other → tree ≡ other
one_tree tree other first second same =
    sym (tree_back tree first) ∙ ap read_report same ∙ tree_back other second
