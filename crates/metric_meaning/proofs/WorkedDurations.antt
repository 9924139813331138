-- Worked histories of durations, by computing.
use Rattle.std.proofs.Common.{◌≡◌, ℕ, pos, negsuc, Bool, true, false, List, [], ◌∷◌, ◌++◌, Option, Some, None, refl}
use Rattle.atom_record.specs.declared.atom.AtomField.{AtomField}
use Rattle.atom_record.specs.declared.value.Leaf.{Leaf}
use Rattle.atom_record.specs.declared.value.Leaf.TheVariants.{One}
use Rattle.atom_record.specs.declared.value.Value.TheVariants.{Int, Str}
use Rattle.atom_record.specs.declared.value.Slice.{Slice}
use Rattle.atom_record.specs.declared.value.Slice.TheVariants.{Plain, Group}
use Rattle.atom_record.specs.declared.log.LogFrame.TheVariants.{AtomAt, Pull}
use Rattle.atom_record.specs.declared.log.PullOutcome.TheVariants.{Failed}
use Rattle.bucket_meaning.specs.Kept.{Taken}
use Rattle.config_types.specs.declared.fields.Position.TheVariants as positions
use Rattle.config_types.specs.declared.matcher.Operation.TheVariants.{Not}
use Rattle.config_types.specs.declared.parameters.PredSpec.{PredSpec}
use Rattle.field_select.specs.declared.leaf.FieldSet.{FieldSet}
use Rattle.field_select.specs.declared.leaf.LeafPath.{LeafPath}
use Rattle.config_links.specs.declared.linked.LGroup.{LGroup}
use Rattle.config_links.specs.declared.linked.LLink.{LLink}
use Rattle.config_links.specs.declared.linked.LMetric.{LMetric}
use Rattle.config_links.specs.declared.linked.LPredicate.{LPredicate}
use Rattle.config_links.specs.declared.linked.LPredBody.TheVariants.{Simple, Combo}
use Rattle.config_links.specs.declared.linked.LKind.{LKind}
use Rattle.config_links.specs.declared.linked.LKind.TheVariants.{SumDuration, MaxSparse}
use Rattle.report_writer.specs.declared.tree.MetricBody.TheVariants.{Durations}
use Rattle.metric_producer.specs.declared.row.Row.{Row}
use Rattle.metric_meaning.specs.Histories.{Step, Installation}
use Rattle.metric_meaning.specs.PredicateSteps.{predicate_drops}
use Rattle.metric_meaning.specs.DurationSteps.{sums_shown, longest_shown}
use Rattle.metric_meaning.specs.Reports.{report_of}
use Rattle.metric_meaning.proofs.WorkedHistories.{logged, asked, tick, under}

-- a field that isn't repeated
abbrev field : ℕ → LeafPath
field number = record { field = number; position = None; sub = 0 }

-- no fields of an atom
abbrev no_fields : FieldSet
no_fields = record { atom_id = 0; leaves = [] }

-- fields of the atoms of an id
abbrev fields_of : ℕ → List LeafPath → FieldSet
fields_of id leaves = record { atom_id = id; leaves = leaves }

-- how a table is kept whose starts are counted: unknown at first or not, with room for some keys of so many leaves
abbrev kept_for : Bool → ℕ → ℕ → PredSpec
kept_for unknown bound leaves = record { nesting = true; unknown = unknown; bound = bound; leaves = leaves }

-- a predicate that the first matcher starts, the second stops and the fifth stops at all keys
abbrev first_lock : FieldSet → PredSpec → LPredicate
first_lock dims spec = record { id = pos 11; body = Simple (Some 0) (Some 1) (Some 4) dims spec }

-- one that the third matcher starts and the fourth stops
abbrev other_lock : FieldSet → PredSpec → LPredicate
other_lock dims spec = record { id = pos 12; body = Simple (Some 2) (Some 3) None dims spec }

-- a duration of the first predicate, in buckets of 1,000
abbrev measures : Option ℕ → List LLink → FieldSet → ℕ → LKind → LMetric
measures condition links dims bound kind = record {
  id = pos 100;
  shown = true;
  what = 0;
  condition = condition;
  links = links;
  dims = dims;
  size = 1000;
  bound = bound;
  slices = [];
  kind = kind;
  activations = [];
}

-- an entry with a number
abbrev number : ℕ → ℕ → AtomField
number at value = record { field = at; index = 0; sub = 0; flags = 0; value = Int (pos value) }

-- an atom comes, which these matchers mean
abbrev comes : ℕ → ℕ → List AtomField → List Bool → Step
comes at id entries truths = logged at (AtomAt at (record { id = id; fields = entries })) truths

-- an atom of id 5 with numbers is meant by the first matcher, the second, the third, the fourth or the fifth
abbrev on : ℕ → List AtomField → Step
on at entries = comes at 5 entries (true ∷ false ∷ false ∷ false ∷ false ∷ [])

abbrev off : ℕ → List AtomField → Step
off at entries = comes at 5 entries (false ∷ true ∷ false ∷ false ∷ false ∷ [])

abbrev holds : ℕ → List AtomField → Step
holds at entries = comes at 5 entries (false ∷ false ∷ true ∷ false ∷ false ∷ [])

abbrev fails : ℕ → List AtomField → Step
fails at entries = comes at 5 entries (false ∷ false ∷ false ∷ true ∷ false ∷ [])

abbrev all_off : ℕ → Step
all_off at = comes at 5 [] (false ∷ false ∷ false ∷ false ∷ true ∷ [])

-- a key with these numbers
abbrev numbers : List ℕ → List Leaf
numbers [] = []
numbers (value ∷ values) = One (Int (pos value)) ∷ numbers values

-- a row of a key
abbrev row : List ℕ → ℕ → ℕ → ℕ → Row ℕ
row key start end time =
    record { key = record { dims = numbers key; slices = [] }; start = start; end = end; value = time }

-- a report shows these rows, and so many were dropped
abbrev shown : List (Row ℕ) → ℕ → Taken (Row ℕ)
shown rows dropped = record { rows = rows; not_kept = 0; dropped = dropped; missing = 0 }

-- without keys and condition
abbrev plain : PredSpec
plain = kept_for false 800 0

abbrev total : LMetric
total = measures None [] no_fields 800 (SumDuration plain)

-- a run over several buckets counts in each of them
a_jump : sums_shown (under (first_lock no_fields plain ∷ [])) total plain (on 500 [] ∷ tick 4250 ∷ []) false 4250
    ≡ shown (row [] 0 1000 500 ∷ row [] 1000 2000 1000 ∷ row [] 2000 3000 1000 ∷ row [] 3000 4000 1000 ∷ []) 0
a_jump = refl

-- and in the open one up to a cut
a_jump_with_cut :
    sums_shown (under (first_lock no_fields plain ∷ [])) total plain (on 500 [] ∷ tick 4250 ∷ []) true 4250
    ≡ shown
    (row [] 0 1000 500 ∷ row [] 1000 2000 1000 ∷ row [] 2000 3000 1000 ∷ row [] 3000 4000 1000 ∷ row [] 4000 4250 250
    ∷ []) 0
a_jump_with_cut = refl

-- A lock is held by a uid and a tag, and its time is shown by the uid alone, while the screen isn't on. The first
-- matcher means that the screen turns on, the second off, the third that a lock is taken, the fourth that it is freed.
abbrev uid_leaf : LeafPath
uid_leaf = record { field = 1; position = Some positions.First; sub = 1 }

abbrev by_tag : PredSpec
by_tag = kept_for false 800 2

abbrev lock_and_screen : Installation
lock_and_screen = under (record {
  id = pos 11;
  body = Simple (Some 0) (Some 1) None no_fields
      (record { nesting = false; unknown = false; bound = 800; leaves = 0 });
} ∷ other_lock (fields_of 10 (uid_leaf ∷ field 3 ∷ [])) by_tag ∷ record { id = pos 13; body = Combo Not (0 ∷ []) } ∷ [])

abbrev lock_time : LMetric
lock_time =
    record (measures (Some 2) [] (fields_of 10 (uid_leaf ∷ [])) 800 (SumDuration by_tag)) { what = 1; size = 3600 }

-- the screen, and a lock of the uid 1000 with a tag
abbrev screen_on : ℕ → Step
screen_on at = comes at 29 [] (true ∷ false ∷ false ∷ false ∷ [])

abbrev screen_off : ℕ → Step
screen_off at = comes at 29 [] (false ∷ true ∷ false ∷ false ∷ [])

abbrev tagged : ℕ → List AtomField
tagged letter = record { field = 1; index = 1; sub = 1; flags = 0; value = Int (pos 1000) }
    ∷ record { field = 3; index = 0; sub = 0; flags = 0; value = Str (letter ∷ []) } ∷ []

abbrev taken : ℕ → ℕ → Step
taken at letter = comes at 10 (tagged letter) (false ∷ false ∷ true ∷ false ∷ [])

abbrev freed : ℕ → ℕ → Step
freed at letter = comes at 10 (tagged letter) (false ∷ false ∷ false ∷ true ∷ [])

-- two locks overlap, and the screen is on from 1,800 to 2,400
abbrev first_hour : List Step
first_hour = screen_off 10 ∷ taken 60 115 ∷ taken 120 103 ∷ freed 600 115 ∷ screen_on 1800 ∷ screen_off 2400
    ∷ tick 4000 ∷ []

lock_in_small : sums_shown lock_and_screen lock_time by_tag first_hour false 4000
    ≡ shown (row (1000 ∷ []) 0 3600 2940 ∷ []) 0
lock_in_small = refl

-- the second hour begins with the lock that is still held
lock_goes_on :
    sums_shown lock_and_screen lock_time by_tag
    (first_hour ++ (asked 4000 false ∷ freed 4600 103 ∷ screen_on 5000 ∷ tick 7200 ∷ [])) false 7200
    ≡ shown (row (1000 ∷ []) 3600 7200 1000 ∷ []) 0
lock_goes_on = refl

-- the longest time, under a condition that holds from 300 to 700 and from 1,100 on
abbrev longest_time : Option ℕ → List LLink → FieldSet → ℕ → PredSpec → LMetric
longest_time condition links dims bound spec = measures condition links dims bound (MaxSparse spec)

abbrev two_locks : Installation
two_locks = under (first_lock no_fields plain ∷ other_lock no_fields plain ∷ [])

-- its time counts where it goes off, all of it
sparse :
    longest_shown two_locks (longest_time (Some 1) [] no_fields 800 plain) plain
    (on 200 [] ∷ holds 300 [] ∷ fails 700 [] ∷ holds 1100 [] ∷ off 1600 [] ∷ tick 2000 ∷ []) false 2000
    ≡ shown (row [] 1000 2000 900 ∷ []) 0
sparse = refl

-- each key has the condition of its own link
abbrev keyed : ℕ → PredSpec
keyed bound = kept_for false bound 1

abbrev first_field : FieldSet
first_field = fields_of 5 (field 1 ∷ [])

abbrev linked_locks : ℕ → Installation
linked_locks bound = under (first_lock first_field (keyed bound) ∷ other_lock first_field (keyed 800) ∷ [])

abbrev by_key : LLink
by_key = record { predicate = 1; in_what = first_field; places = 0 ∷ [] }

sparse_with_links :
    longest_shown (linked_locks 800) (longest_time (Some 1) (by_key ∷ []) no_fields 800 (keyed 800)) (keyed 800)
    (on 200 (number 1 4 ∷ []) ∷ on 250 (number 1 5 ∷ []) ∷ holds 300 (number 1 4 ∷ []) ∷ fails 700 (number 1 4 ∷ [])
    ∷ holds 1100 (number 1 4 ∷ []) ∷ off 1600 (number 1 4 ∷ []) ∷ tick 2000 ∷ []) false 2000
    ≡ shown (row [] 1000 2000 900 ∷ []) 0
sparse_with_links = refl

-- a state that was told before the installation, and another while the time runs: one run ends where the other begins
abbrev beside_state : Option (List LGroup) → Installation
beside_state groups = record {
  base = 100;
  opening = AtomAt 100 (record {
    id = 27;
    fields = record { field = 1; index = 0; sub = 0; flags = 1; value = Int (pos 2) } ∷ [];
  }) ∷ [];
  linked = record {
    matchers = [];
    predicates = first_lock no_fields plain ∷ [];
    states = record { atom_id = 27; map = groups } ∷ [];
    metrics = [];
    alerts = [];
  };
}

abbrev by_state : LMetric
by_state = record total { slices = record { state = 0; in_what = None } ∷ [] }

abbrev state_changes : List Step
state_changes = on 200 []
    ∷ comes 500 27 (record { field = 1; index = 0; sub = 0; flags = 1; value = Int (pos 3) } ∷ []) (false ∷ [])
    ∷ off 900 [] ∷ []

abbrev slice_row : Slice → ℕ → Row ℕ
slice_row slice time = record { key = record { dims = []; slices = slice ∷ [] }; start = 100; end = 900; value = time }

states_of_the_whole_log : sums_shown (beside_state None) by_state plain state_changes true 900
    ≡ shown (slice_row (Plain 27 (pos 2)) 300 ∷ slice_row (Plain 27 (pos 3)) 400 ∷ []) 0
states_of_the_whole_log = refl

states_in_groups :
    sums_shown (beside_state (Some (record { group = pos 1; values = pos 2 ∷ [] } ∷ []))) by_state plain state_changes
    true 900
    ≡ shown (slice_row (Group 27 (pos 1)) 300 ∷ slice_row (Plain 27 (negsuc 0)) 400 ∷ []) 0
states_in_groups = refl

-- where no group lists a value, a state that changes from one such to another breaks no run
states_alike :
    sums_shown (beside_state (Some [])) by_state plain state_changes true 900
    ≡ shown (slice_row (Plain 27 (negsuc 0)) 700 ∷ []) 0
states_alike = refl

-- durations by the key, of which a bucket and the table of keys have room for so many
abbrev times_by_key : Option ℕ → List LLink → ℕ → LMetric
times_by_key condition links bound = measures condition links first_field bound (SumDuration (keyed bound))

-- a run of no length has no row, and takes the place for which the next key has to come too late
a_run_of_no_length :
    sums_shown (linked_locks 1) (times_by_key None [] 1) (keyed 1)
    (on 5 (number 1 1 ∷ []) ∷ off 5 (number 1 1 ∷ []) ∷ on 6 (number 1 2 ∷ []) ∷ off 9 (number 1 2 ∷ []) ∷ []) true 10
    ≡ shown [] 1
a_run_of_no_length = refl

-- so does a run that is over where its bucket begins
over_at_the_start :
    sums_shown (linked_locks 1) (times_by_key None [] 1) (keyed 1)
    (on 5 (number 1 1 ∷ []) ∷ off 1000 (number 1 1 ∷ []) ∷ on 1006 (number 1 2 ∷ []) ∷ []) true 1010
    ≡ shown (row (1 ∷ []) 0 1000 995 ∷ []) 1
over_at_the_start = refl

-- a bucket begins with the active keys in the order in which their inner keys are listed, whoever was active first
in_the_tables_order :
    sums_shown (linked_locks 800) (times_by_key (Some 1) (by_key ∷ []) 800) (keyed 800)
    (on 1 (number 1 1 ∷ []) ∷ on 2 (number 1 2 ∷ []) ∷ holds 3 (number 1 2 ∷ []) ∷ holds 4 (number 1 1 ∷ [])
    ∷ tick 2000 ∷ []) false 2000
    ≡ shown
    (row (2 ∷ []) 0 1000 997 ∷ row (1 ∷ []) 0 1000 996 ∷ row (1 ∷ []) 1000 2000 1000 ∷ row (2 ∷ []) 1000 2000 1000
    ∷ []) 0
in_the_tables_order = refl

-- two inner keys count for one key: its run goes on while one of them is on
abbrev of_two : PredSpec
of_two = kept_for false 800 2

one_key_of_two :
    sums_shown (under (first_lock (fields_of 5 (field 1 ∷ field 2 ∷ [])) of_two ∷ []))
    (measures None [] first_field 1 (SumDuration of_two)) of_two
    (on 1 (number 1 7 ∷ number 2 1 ∷ []) ∷ on 3 (number 1 7 ∷ number 2 2 ∷ []) ∷ off 5 (number 1 7 ∷ number 2 1 ∷ [])
    ∷ off 9 (number 1 7 ∷ number 2 2 ∷ []) ∷ []) true 10
    ≡ shown (row (7 ∷ []) 0 10 8 ∷ []) 0
one_key_of_two = refl

-- an inner key that finds no room is dropped, in the report in which that is; the predicate's own table may have room
turned_away : sums_shown (linked_locks 2) (times_by_key None [] 1) (keyed 1)
    (on 1 (number 1 1 ∷ []) ∷ on 2 (number 1 2 ∷ []) ∷ on 3 (number 1 3 ∷ []) ∷ []) false 3
    ≡ shown [] 2
turned_away = refl

turned_away_again : sums_shown (linked_locks 2) (times_by_key None [] 1) (keyed 1)
    (on 1 (number 1 1 ∷ []) ∷ on 2 (number 1 2 ∷ []) ∷ asked 2 false ∷ on 4 (number 1 2 ∷ []) ∷ []) true 5
    ≡ shown (row (1 ∷ []) 0 5 4 ∷ []) 1
turned_away_again = refl

-- one atom may be dropped twice: of the predicate and of the duration
dropped_twice : predicate_drops (first_lock first_field (keyed 1) ∷ [])
    (on 1 (number 1 1 ∷ []) ∷ on 2 (number 1 2 ∷ []) ∷ asked 2 false ∷ on 4 (number 1 2 ∷ []) ∷ [])
    ≡ record { id = pos 11; number = 2 } ∷ []
dropped_twice = refl

-- a stop of a key that was never on takes a place where it might have been on before, and none where not
stop_takes_a_place :
    let spec = kept_for true 1 1 in
    sums_shown (under (first_lock first_field spec ∷ [])) (measures None [] first_field 1 (SumDuration spec)) spec
    (off 1 (number 1 1 ∷ []) ∷ on 2 (number 1 2 ∷ []) ∷ []) true 5
    ≡ shown [] 1
stop_takes_a_place = refl

stop_takes_none : sums_shown (linked_locks 1) (times_by_key None [] 1) (keyed 1)
    (off 1 (number 1 1 ∷ []) ∷ on 2 (number 1 2 ∷ []) ∷ []) true 5
    ≡ shown (row (2 ∷ []) 0 5 3 ∷ []) 0
stop_takes_none = refl

-- starts are counted: two of them want two stops
starts_counted : sums_shown (under (first_lock no_fields plain ∷ [])) total plain
    (on 1 [] ∷ on 2 [] ∷ off 3 [] ∷ off 7 [] ∷ off 8 [] ∷ []) true 10
    ≡ shown (row [] 0 10 6 ∷ []) 0
starts_counted = refl

-- a cut at a full end, after a pull, leaves the end to the next frame: the part of no length between them has no row
cut_at_an_end : sums_shown (under (first_lock no_fields plain ∷ [])) total plain
    (on 500 [] ∷ logged 1000 (Pull 1000 10001 Failed) [] ∷ asked 1000 true ∷ tick 1000 ∷ tick 2000 ∷ []) false 2000
    ≡ shown (row [] 1000 2000 1000 ∷ []) 0
cut_at_an_end = refl

-- the longest of two times is shown, and not their sum
the_longest_of_two :
    longest_shown (under (first_lock no_fields plain ∷ [])) (longest_time None [] no_fields 800 plain) plain
    (on 1 [] ∷ off 4 [] ∷ on 5 [] ∷ off 10 [] ∷ []) true 20
    ≡ shown (row [] 0 20 5 ∷ []) 0
the_longest_of_two = refl

-- all keys go off at once, in the order in which they are listed: after the key 1 one more is admitted, and it is the 3
all_off_in_order : longest_shown (linked_locks 2) (longest_time None [] first_field 2 (keyed 2)) (keyed 2)
    (on 1 (number 1 1 ∷ []) ∷ off 2 (number 1 1 ∷ []) ∷ on 3 (number 1 3 ∷ []) ∷ on 4 (number 1 2 ∷ []) ∷ all_off 9
    ∷ []) true 10
    ≡ shown (row (1 ∷ []) 0 10 1 ∷ row (3 ∷ []) 0 10 6 ∷ []) 1
all_off_in_order = refl

-- a key whose condition never was true has no row, and takes a place where it goes off
never_true : longest_shown (linked_locks 1) (longest_time (Some 1) (by_key ∷ []) first_field 1 (keyed 1)) (keyed 1)
    (holds 1 (number 1 2 ∷ []) ∷ on 2 (number 1 1 ∷ []) ∷ off 3 (number 1 1 ∷ []) ∷ on 4 (number 1 2 ∷ [])
    ∷ off 9 (number 1 2 ∷ []) ∷ []) true 10
    ≡ shown [] 1
never_true = refl

-- the time up to the end counts by the condition before it: an atom that turns both off still counts it
both_off : longest_shown two_locks (longest_time (Some 1) [] no_fields 800 plain) plain
    (holds 10 [] ∷ on 20 [] ∷ comes 30 5 [] (false ∷ true ∷ false ∷ true ∷ false ∷ []) ∷ []) true 40
    ≡ shown (row [] 0 40 10 ∷ []) 0
both_off = refl

-- and one that makes the condition true as it turns the key off doesn't
true_too_late : longest_shown two_locks (longest_time (Some 1) [] no_fields 800 plain) plain
    (on 20 [] ∷ comes 30 5 [] (false ∷ true ∷ true ∷ false ∷ false ∷ []) ∷ []) true 40
    ≡ shown [] 0
true_too_late = refl

-- the report of a sum of durations, as a tree
as_a_tree : report_of
    (record {
      installed = record {
        base = 0;
        opening = [];
        linked = record {
          matchers = [];
          predicates = first_lock no_fields plain ∷ [];
          states = [];
          metrics = total ∷ [];
          alerts = [];
        };
      };
      steps = on 500 [] ∷ tick 1250 ∷ [];
    })
    (pos 10) (pos 7) false 1250 ≡ record {
      uid = pos 10;
      id = pos 7;
      last = 0;
      now = 1250;
      metrics = record {
        id = pos 100;
        base = 0;
        size = 1000;
        dropped = 0;
        not_kept = 0;
        missing = 0;
        body = Durations
            (record {
              leaves = [];
              slices = [];
              overflow = false;
              buckets = record { start = 0; end = 1000; value = pos 500 } ∷ [];
            } ∷ []);
      } ∷ [];
      predicate_drops = [];
      state_drops = [];
      state_atoms_dropped = 0;
      alarms = [];
      alarms_not_kept = [];
    }
unfolding report_of
as_a_tree = refl
