-- Worked histories and what reports show of them, by computing.
use Rattle.std.proofs.Common.{◌≡◌, ℕ, ℤ, pos, Bool, true, false, List, [], ◌∷◌, ◌++◌, length, Some, None, refl}
use Rattle.atom_record.specs.declared.value.Value.TheVariants.{Str}
use Rattle.atom_record.specs.declared.value.Leaf.TheVariants.{Missing, One}
use Rattle.atom_record.specs.declared.log.LogFrame.{LogFrame}
use Rattle.atom_record.specs.declared.log.LogFrame.TheVariants.{Tick, AtomAt, Pull}
use Rattle.atom_record.specs.declared.log.PullOutcome.TheVariants.{Failed}
use Rattle.config_links.specs.declared.linked.LMetric.{LMetric}
use Rattle.config_links.specs.declared.linked.LPredicate.{LPredicate}
use Rattle.config_links.specs.declared.linked.LKind.TheVariants.{Count}
use Rattle.metric_producer.specs.declared.row.CountCell.{CountCell}
use Rattle.metric_producer.specs.declared.row.Row.{Row}
use Rattle.metric_meaning.specs.Histories.{Logged, Reported, Step, Installation}
use Rattle.metric_kinds.specs.Counts.{no_key}
use Rattle.metric_meaning.specs.CountSteps.{counts_shown, count_way}
use Rattle.metric_meaning.specs.CountTrees.{count_groups}
use Rattle.metric_meaning.specs.Balance.{counted_keys, row_counted, row_gathered, shown_by_reports, drops_by, waiting_for_report}
use Rattle.config_links.specs.declared.linked.Linked.{Linked}
use Rattle.report_writer.specs.declared.tree.LeafTree.{LeafTree}
use Rattle.report_writer.specs.declared.tree.NumBucket.{NumBucket}
use Rattle.report_writer.specs.declared.tree.MetricBody.TheVariants.{Counts}
use Rattle.metric_meaning.specs.Reports.{report_of}

-- the metric 100 counts what the matcher at 0 means, by field 1 of the atoms of id 5, in buckets of 1,000 with two keys
abbrev pub guarded : LMetric
guarded = record {
  id = pos 100;
  shown = true;
  what = 0;
  condition = None;
  links = [];
  dims = record { atom_id = 5; leaves = record { field = 1; position = None; sub = 0 } ∷ [] };
  size = 1000;
  bound = 2;
  slices = [];
  kind = Count false;
  activations = [];
}

-- an installation with these predicates, at the clock 0 of an empty log
abbrev pub under : List LPredicate → Installation
under predicates = record {
  base = 0;
  opening = [];
  linked = record { matchers = []; predicates = predicates; states = []; metrics = []; alerts = [] };
}

-- a frame of the log, with the truth of the one matcher where it is an atom
abbrev pub logged : ℕ → LogFrame → List Bool → Step
logged at frame truths = record { at = at; what = Logged frame; truths = truths }

-- an atom of id 5 whose field 1 is this text, which the matcher means
abbrev pub texted : ℕ → ℕ → Step
texted at letter =
    logged at (AtomAt at (record {
      id = 5;
      fields = record { field = 1; index = 0; sub = 0; flags = 0; value = Str (letter ∷ []) } ∷ [];
    })) (true ∷ [])

-- a tick
abbrev pub tick : ℕ → Step
tick at = logged at (Tick at) []

-- a failed pull, which is a frame of the log like others
abbrev pub pull : ℕ → Step
pull at = logged at (Pull at 10001 Failed) []

-- a report at the clock
abbrev pub asked : ℕ → Bool → Step
asked at include_current = record { at = at; what = Reported include_current; truths = [] }

-- a row of a letter
abbrev row : ℕ → ℕ → ℕ → ℕ → Row CountCell
row letter start end count = record {
  key = record { dims = One (Str (letter ∷ [])) ∷ []; slices = [] };
  start = start;
  end = end;
  value = record { number = count; overflow = false };
}

-- a row of what found no room
abbrev overflow_row : ℕ → ℕ → ℕ → Row CountCell
overflow_row start end count =
    record { key = no_key; start = start; end = end; value = record { number = count; overflow = true } }

-- two keys have room, and the third is dropped at each of its arrivals
abbrev crowd : List Step
crowd = texted 1 65 ∷ texted 2 66 ∷ texted 3 67 ∷ texted 4 65 ∷ texted 5 67 ∷ tick 1000 ∷ []

third_key_dropped : counts_shown (under []) guarded false crowd false 1000 ≡ record {
  rows = row 65 0 1000 2 ∷ row 66 0 1000 1 ∷ [];
  not_kept = 0;
  dropped = 2;
  missing = 0;
}
third_key_dropped = refl

-- where what found no room is gathered, it is one row more, the last of its bucket, and it is dropped all the same
third_key_gathered : counts_shown (under []) guarded true crowd false 1000 ≡ record {
  rows = row 65 0 1000 2 ∷ row 66 0 1000 1 ∷ overflow_row 0 1000 2 ∷ [];
  not_kept = 0;
  dropped = 2;
  missing = 0;
}
third_key_gathered = refl

-- the next bucket admits anew, and its report has the drops since the report before alone
next_bucket_admits_anew :
    counts_shown (under []) guarded false
    (texted 1 65 ∷ texted 2 66 ∷ texted 3 67 ∷ tick 1000 ∷ asked 1000 false
    ∷ texted 1001 67 ∷ texted 1002 65 ∷ texted 1003 66 ∷ tick 2000 ∷ []) false 2000 ≡ record {
      rows = row 67 1000 2000 1 ∷ row 65 1000 2000 1 ∷ [];
      not_kept = 0;
      dropped = 1;
      missing = 0;
    }
next_bucket_admits_anew = refl

-- a pull at a full end crosses nothing; a cut there closes the part, and the end is crossed by the next tick
pull_at_an_end : counts_shown (under []) guarded false
    (texted 1 65 ∷ pull 1000 ∷ asked 1000 true ∷ tick 1000 ∷ []) true 1000
    ≡ record { rows = []; not_kept = 0; dropped = 0; missing = 0 }
pull_at_an_end = refl

-- truths are taken as they are handed in, also where the atom says otherwise
truths_are_handed_in : counts_shown (under []) guarded false
    (logged 1 (AtomAt 1 (record { id = 6; fields = [] })) (true ∷ [])
    ∷ logged 2 (AtomAt 2 (record { id = 5; fields = [] })) (false ∷ []) ∷ []) true 2
    ≡ record {
      rows = record {
        key = record { dims = Missing ∷ []; slices = [] };
        start = 0;
        end = 2;
        value =
            record { number = 1; overflow = false };
      } ∷ [];
      not_kept = 0;
      dropped = 0;
      missing = 0;
    }
truths_are_handed_in = refl

-- the configuration of this one metric, with any matcher
abbrev configured : Linked
configured = record { matchers = []; predicates = []; states = []; metrics = guarded ∷ []; alerts = [] }

-- a leaf with a text
abbrev pub text_leaf : ℕ → LeafTree
text_leaf letter = record { place = 0; value = Some (Str (letter ∷ [])) }

-- a bucket with a count
abbrev pub bucket : ℕ → ℕ → ℤ → NumBucket
bucket start end count = record { start = start; end = end; value = count }

-- a report groups the rows of two buckets by their keys, and tells the clock at the report before
two_buckets : report_of
    (record {
      installed = record { base = 0; opening = []; linked = configured };
      steps = asked 0 false ∷ texted 1 65 ∷ texted 2 66 ∷ texted 1003 65 ∷ [];
    })
    (pos 10) (pos 7) true 1003 ≡ record {
      uid = pos 10;
      id = pos 7;
      last = 0;
      now = 1003;
      metrics = record {
        id = pos 100;
        base = 0;
        size = 1000;
        dropped = 0;
        not_kept = 0;
        missing = 0;
        body = Counts (record {
          leaves = text_leaf 65 ∷ [];
          slices = [];
          overflow = false;
          buckets = bucket 0 1000 (pos 1) ∷ bucket 1000 1003 (pos 1) ∷ [];
        } ∷ record { leaves = text_leaf 66 ∷ []; slices = []; overflow = false; buckets = bucket 0 1000 (pos 1) ∷ [] }
            ∷ []);
      } ∷ [];
      predicate_drops = [];
      state_drops = [];
      state_atoms_dropped = 0;
      alarms = [];
      alarms_not_kept = [];
    }
unfolding report_of
two_buckets = refl

-- after a report of the crowd two arrivals wait in the open part: of seven in all three were shown, and two were
-- dropped
abbrev told_once : List Step
told_once = crowd ++ asked 1000 false ∷ texted 1001 65 ∷ texted 1002 67 ∷ []

seven_arrived : length (counted_keys (under []) guarded told_once) ≡ 7
seven_arrived = refl

three_shown : shown_by_reports (count_way (under []) guarded false) row_counted told_once ≡ 3
three_shown = refl

two_dropped : drops_by (count_way (under []) guarded false) told_once ≡ 2
two_dropped = refl

two_wait : waiting_for_report (count_way (under []) guarded false) row_counted told_once 1002 ≡ 2
two_wait = refl

-- with overflow rows as many keys are in counts of their own, and those that were dropped are gathered
three_shown_still : shown_by_reports (count_way (under []) guarded true) row_counted told_once ≡ 3
three_shown_still = refl

two_gathered : shown_by_reports (count_way (under []) guarded true) row_gathered told_once ≡ 2
two_gathered = refl

-- a row of the empty key
abbrev empty_row : ℕ → ℕ → ℕ → Row CountCell
empty_row start end count =
    record { key = no_key; start = start; end = end; value = record { number = count; overflow = false } }

-- the overflow rows are a group beside that of the empty key, where they first come
beside_the_empty_key :
    count_groups (row 65 0 1000 1 ∷ overflow_row 0 1000 2 ∷ empty_row 1000 2000 3 ∷ overflow_row 1000 2000 4 ∷ [])
    ≡ record { leaves = text_leaf 65 ∷ []; slices = []; overflow = false; buckets = bucket 0 1000 (pos 1) ∷ [] }
    ∷ record {
      leaves = [];
      slices = [];
      overflow = true;
      buckets = bucket 0 1000 (pos 2) ∷ bucket 1000 2000 (pos 4) ∷ [];
    }
    ∷ record { leaves = []; slices = []; overflow = false; buckets = bucket 1000 2000 (pos 3) ∷ [] } ∷ []
beside_the_empty_key = refl
