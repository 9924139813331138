-- Alarms are read back from their bytes.
use Rattle.std.proofs.Common.{◌≡◌, List, [], ◌∷◌, ◌++◌, map, refl, ap, ◌∙◌, subst, arith}
use Rattle.std.specs.List.{AllByRecursion}
use Rattle.std.proofs.lemmas.List.Elements.{recursion_from_All}
use Rattle.proto_wire.specs.Grammar.{Written, AsVarint}
use Rattle.report_writer.specs.ReportNumbers as field
use Rattle.report_writer.specs.ReportSpelling.{leaf_message, slice_message, alarm_message}
use Rattle.report_writer.specs.declared.tree.AlarmTree.{AlarmTree}
use Rattle.report_show.specs.WellFormed as well
use Rattle.report_show.specs.Reading.{payloads_under, read_leaf, read_slice, alarm_said, read_alarm}
use Rattle.report_show.proofs.FieldLemmas.{IsTold, said, repeated, repeated-told, repeated-fit, payloads-other}
use Rattle.report_show.proofs.Spelled.{spelled, AsSigned, alarm_written, alarm-spelled}
use Rattle.report_show.proofs.NumberLemmas.{low64-same, signed-small, signed64-same}
use Rattle.report_show.proofs.ToldLemmas.{Counted, all_back, varint-told, signed-told, says, told-append, found, found-last, found-none, first-counts, second-counts}
use Rattle.report_show.proofs.LeavesBack.{slice_back, leaf_back}

pub alarm_told : (alarm : AlarmTree) → well.FitsAlarm alarm → AllByRecursion IsTold (alarm_written alarm)
alarm_told alarm fits = (
  signed-told field.alarm_alert alarm.id (omega arith) (omega arith) (signed-small alarm.id fits.id),
  (
    varint-told field.alarm_time alarm.at (omega arith) (omega arith) fits.at,
    (
      varint-told field.alarm_sum alarm.sum (omega arith) (omega arith) fits.sum,
      told-append (repeated field.data_leaf leaf_message alarm.leaves)
          (repeated field.data_slice slice_message alarm.slices)
          (repeated-told field.data_leaf leaf_message alarm.leaves (omega arith) (omega arith))
          (repeated-told field.data_slice slice_message alarm.slices (omega arith) (omega arith)),
    ),
  ),
)

pub alarm_back : (alarm : AlarmTree) → well.FitsAlarm alarm → Counted (alarm_message alarm)
    → read_alarm (alarm_message alarm) ≡ alarm
unfolding read_alarm
alarm_back alarm fits counted =
    let numbers : List Written =
    AsSigned field.alarm_alert alarm.id ∷ AsVarint field.alarm_time alarm.at ∷ AsVarint field.alarm_sum alarm.sum
    ∷ [] in
    let slices_on : List Written = repeated field.data_slice slice_message alarm.slices in
    let leaves_on : List Written = repeated field.data_leaf leaf_message alarm.leaves ++ slices_on in
    let long : Counted (spelled (alarm_written alarm)) = subst Counted (alarm-spelled alarm) counted in
    let long_on : Counted (spelled leaves_on) = second-counts numbers leaves_on long in
    let long_last : Counted (spelled slices_on) =
    second-counts (repeated field.data_leaf leaf_message alarm.leaves) slices_on long_on in
    let is = says (alarm_message alarm) (alarm_written alarm) (alarm-spelled alarm) (alarm_told alarm fits) counted in
    let id = signed64-same alarm.id fits.id in
    let at = low64-same alarm.at fits.at in
    let sum = low64-same alarm.sum fits.sum in
    let leaves_read = all_back well.FitsLeaf read_leaf leaf_message leaf_back alarm.leaves
    (recursion_from_All well.FitsLeaf alarm.leaves fits.leaves)
    (repeated-fit field.data_leaf leaf_message alarm.leaves
    (first-counts (repeated field.data_leaf leaf_message alarm.leaves) slices_on long_on)) in
    let slices_read = all_back well.FitsSlice read_slice slice_message slice_back alarm.slices
    (recursion_from_All well.FitsSlice alarm.slices fits.slices)
    (repeated-fit field.data_slice slice_message alarm.slices long_last) in
    let leaves : payloads_under field.data_leaf (said (alarm_written alarm)) ≡ map leaf_message alarm.leaves =
    found field.data_leaf leaf_message alarm.leaves slices_on
    (found-none field.data_slice slice_message field.data_leaf refl alarm.slices) in
    let slices : payloads_under field.data_slice (said (alarm_written alarm)) ≡ map slice_message alarm.slices =
    payloads-other field.data_leaf leaf_message field.data_slice refl alarm.leaves slices_on
    ∙ found-last field.data_slice slice_message alarm.slices in
    let one = ap (map read_leaf) leaves ∙ leaves_read in
    let two = ap (map read_slice) slices ∙ slices_read in
    ap alarm_said is
    ∙ (λ i. record { id = id i; at = at i; sum = sum i; leaves = one i; slices = two i })
