-- The worked report, read by computing: its tree, that it is well-formed, and what is read of other bytes.
use Rattle.std.proofs.Common.{◌≡◌, ℕ, pos, false, List, [], ◌∷◌, Some, refl, sym, subst, arith, ◌<◌, ◌^◌, length}
use Rattle.std.proofs.lemmas.List.Elements.{All-nil, All-cons}
use Rattle.proto_wire.specs.WireReading.{varint_at, taken_at, tag_of, tag_at, field_with, field_at, walk_turns, walk_from}
use Rattle.report_writer.specs.declared.tree.NumBucket.{NumBucket}
use Rattle.report_writer.specs.declared.tree.NumTree.{NumTree}
use Rattle.report_writer.specs.declared.tree.MetricBody.TheVariants.{Counts}
use Rattle.report_writer.specs.declared.tree.MetricTree.{MetricTree}
use Rattle.report_writer.specs.declared.tree.ReportTree.{ReportTree}
use Rattle.atom_record.specs.declared.value.Value.TheVariants as held
use Rattle.proto_wire.specs.Spelling.{varint}
use Rattle.report_writer.specs.ReportSpelling.{bucket_message, row_message, metric_message, key_message, config_message, report_message}
use Rattle.report_show.specs.WellFormed as well
use Rattle.report_show.specs.Reading.{read_leaf, read_bucket, read_row, read_metric, read_drop, read_alarm, read_report}

abbrev bucket : NumBucket
bucket = record { start = 0; end = 3; value = pos 2 }

abbrev row : NumTree
row = record { leaves = []; slices = []; overflow = false; buckets = bucket ∷ [] }

abbrev metric : MetricTree
metric = record {
  id = pos 100;
  base = 0;
  size = 3600000000000;
  dropped = 0;
  not_kept = 0;
  missing = 0;
  body = Counts (row ∷ []);
}

abbrev worked_tree : ReportTree
worked_tree = record {
  uid = pos 10;
  id = pos 7;
  last = 0;
  now = 3;
  metrics = metric ∷ [];
  predicate_drops = [];
  state_drops = [];
  state_atoms_dropped = 0;
  alarms = [];
  alarms_not_kept = [];
}

abbrev worked_bytes : List ℕ
worked_bytes =
    10 ∷ 4 ∷ 8 ∷ 10 ∷ 16 ∷ 7 ∷ 18 ∷ 29 ∷ 10 ∷ 23 ∷ 8 ∷ 100 ∷ 42 ∷ 10 ∷ 10 ∷ 8 ∷ 26 ∷ 6 ∷ 8 ∷ 0 ∷ 16 ∷ 3 ∷ 24 ∷ 2 ∷
    72 ∷ 0 ∷ 80 ∷ 128 ∷ 192 ∷ 226 ∷ 133 ∷ 227 ∷ 104 ∷ 24 ∷ 0 ∷ 32 ∷ 3 ∷ []

-- the 37 bytes are read as their tree
worked : read_report worked_bytes ≡ worked_tree
unfolding read_report read_metric read_row read_bucket walk_from walk_turns field_at field_with tag_at tag_of varint_at
    taken_at
worked = refl

-- raw bytes stand after the place
raw : read_leaf (200 ∷ 62 ∷ 1 ∷ 210 ∷ 62 ∷ 1 ∷ 255 ∷ []) ≡ record { place = 1; value = Some (held.Raw (255 ∷ [])) }
unfolding read_leaf walk_from walk_turns field_at field_with tag_at tag_of varint_at taken_at
raw = refl

-- an alarm of a key with one leaf
alarm : read_alarm (8 ∷ 200 ∷ 1 ∷ 16 ∷ 129 ∷ 148 ∷ 235 ∷ 220 ∷ 3 ∷ 24 ∷ 3 ∷ 34 ∷ 2 ∷ 24 ∷ 7 ∷ []) ≡
    record {
      id = pos 200;
      at = 1000000001;
      sum = 3;
      leaves = record { place = 0; value = Some (held.Int (pos 7)) } ∷ [];
      slices = [];
    }
unfolding read_alarm read_leaf walk_from walk_turns field_at field_with tag_at tag_of varint_at taken_at
alarm = refl

-- a report without a metric, with an alarm of the empty key and five that aren't listed
alarms : read_report (
    10 ∷ 4 ∷ 8 ∷ 10 ∷ 16 ∷ 7 ∷ 18 ∷ 22 ∷ 24 ∷ 0 ∷ 32 ∷ 9 ∷ 226 ∷ 62 ∷ 7 ∷ 8 ∷ 200 ∷ 1 ∷ 16 ∷ 8 ∷ 24 ∷ 3 ∷
    234 ∷ 62 ∷ 5 ∷ 8 ∷ 200 ∷ 1 ∷ 16 ∷ 5 ∷ []) ≡
    record {
      uid = pos 10;
      id = pos 7;
      last = 0;
      now = 9;
      metrics = [];
      predicate_drops = [];
      state_drops = [];
      state_atoms_dropped = 0;
      alarms = record { id = pos 200; at = 8; sum = 3; leaves = []; slices = [] } ∷ [];
      alarms_not_kept = record { id = pos 200; number = 5 } ∷ [];
    }
unfolding read_report read_alarm read_drop walk_from walk_turns field_at field_with tag_at tag_of varint_at taken_at
alarms = refl

-- what isn't there is 0 or empty
nothing : read_bucket [] ≡ record { start = 0; end = 0; value = pos 0 }
unfolding read_bucket walk_from walk_turns
nothing = refl

-- the tree is well-formed
bucket_fits : well.FitsBucket bucket
bucket_fits = record { start = omega arith; end = omega arith; value = record { sfits = omega arith } }

row_fits : well.FitsRow row
row_fits = record {
  leaves = All-nil well.FitsLeaf;
  slices = All-nil well.FitsSlice;
  buckets = All-cons well.FitsBucket bucket [] bucket_fits (All-nil well.FitsBucket);
}

metric_fits : well.FitsMetric metric
metric_fits = record {
  id = record { sfits = omega arith };
  base = omega arith;
  size = omega arith;
  dropped = omega arith;
  not_kept = omega arith;
  missing = omega arith;
  body = All-cons well.FitsRow row [] row_fits (All-nil well.FitsRow);
}

tree_fits : well.FitsReport worked_tree
tree_fits = record {
  uid = record { sfits = omega arith };
  id = record { sfits = omega arith };
  last = omega arith;
  current = omega arith;
  metrics = All-cons well.FitsMetric metric [] metric_fits (All-nil well.FitsMetric);
  predicate_drops = All-nil well.FitsDrop;
  state_drops = All-nil well.FitsDrop;
  state_atoms_dropped = omega arith;
  alarms = All-nil well.FitsAlarm;
  alarms_not_kept = All-nil well.FitsDrop;
}

metric_shaped : well.IsShapedMetric metric
metric_shaped = record {
  size = tt;
  body = All-cons well.IsShapedCount row [] (λ is. absurd (cc is)) (All-nil well.IsShapedCount);
}

worked_message : report_message worked_tree ≡ worked_bytes
unfolding report_message key_message config_message metric_message varint row_message bucket_message
worked_message = refl

worked_counted : length worked_bytes < 2 ^ 64
worked_counted = omega arith

worked_well : well.IsWellFormed worked_tree
worked_well = record {
  fits = tree_fits;
  shaped = record {
    metrics = All-cons well.IsShapedMetric metric [] metric_shaped (All-nil well.IsShapedMetric);
    predicate_drops = All-nil well.IsShapedDrop;
    state_drops = All-nil well.IsShapedDrop;
    alarms_not_kept = All-nil well.IsShapedDrop;
  };
  counted = subst (λ (l : List ℕ). length l < 2 ^ 64) (sym worked_message) worked_counted;
}
