-- Worked weights.
use Rattle.std.proofs.Common.{◌≡◌, ℕ, ◌+◌, pos, Bool, true, false, List, [], ◌∷◌, Some, None, refl}
use Rattle.atom_record.specs.declared.atom.Atom.{Atom}
use Rattle.atom_record.specs.declared.log.LogFrame.TheVariants.{Tick, AtomAt, Pull}
use Rattle.atom_record.specs.declared.log.PullOutcome.TheVariants.{Failed, Atoms}
use Rattle.atom_record.specs.declared.value.Leaf.TheVariants.{Missing, One}
use Rattle.atom_record.specs.declared.value.Slice.TheVariants.{Plain}
use Rattle.atom_record.specs.declared.value.Value.{Value}
use Rattle.atom_record.specs.declared.value.Value.TheVariants.{Int, Str}
use Rattle.config_links.specs.declared.linked.LAlert.{LAlert}
use Rattle.config_links.specs.declared.linked.LKind.{LKind}
use Rattle.config_links.specs.declared.linked.LKind.TheVariants.{Event, Count}
use Rattle.config_links.specs.declared.linked.LMatcher.TheVariants.{Combo}
use Rattle.config_links.specs.declared.linked.LMetric.{LMetric}
use Rattle.config_links.specs.declared.linked.LPredBody.TheVariants.{Simple}
use Rattle.config_links.specs.declared.linked.LPredicate.{LPredicate}
use Rattle.config_types.specs.declared.matcher.Operation.TheVariants.{And}
use Rattle.config_types.specs.declared.matcher.SimpleMatcher.{SimpleMatcher}
use Rattle.field_select.specs.declared.leaf.FieldSet.{FieldSet}
use Rattle.metric_meaning.specs.Histories.{Logged, Reported, Step, History}
use Rattle.saved_weight.specs.BookWeights.{pulls_weight}
use Rattle.saved_weight.specs.Entries.{key_entry, atom_entry}
use Rattle.session_frames.specs.declared.frame.Frame.TheVariants.{Log}
use Rattle.saved_weight.specs.HistoryWeights.{history_weight}
use Rattle.saved_weight.specs.Weigh.{weigh}

-- a key of a number: an entry, a leaf and a value
number_key : key_entry (record { dims = One (Int (pos 5)) ∷ []; slices = [] }) ≡ 160
number_key = refl

-- a key of a missing leaf and a text of three bytes, in a slice
text_key : key_entry (record { dims = Missing ∷ One (Str (97 ∷ 98 ∷ 99 ∷ [])) ∷ []; slices = Plain 7 (pos 1) ∷ [] })
    ≡ 128 + 16 + (16 + 16 + 3) + 16
text_key = refl

-- an atom whose field 1 is this value
abbrev holding : Value → Atom
holding value = record {
  id = 5;
  fields = record { field = 1; index = 0; sub = 0; flags = 0; value = value } ∷ [];
}

-- an atom of a text
text_atom : atom_entry (holding (Str (97 ∷ 98 ∷ []))) ≡ 128 + 16 + 2
text_atom = refl

-- one field of the atoms of id 5
abbrev field_1 : FieldSet
field_1 = record { atom_id = 5; leaves = record { field = 1; position = None; sub = 0 } ∷ [] }

-- a metric of a kind, of what the matcher at 0 means, by that field
abbrev metric : LKind → ℕ → LMetric
metric kind size = record {
  id = pos 100;
  shown = true;
  what = 0;
  condition = None;
  links = [];
  dims = field_1;
  size = size;
  bound = 2;
  slices = [];
  kind = kind;
  activations = [];
}

-- a configuration of one matcher and this metric, installed at 0, after these steps
abbrev after_steps : LMetric → List Step → History
after_steps metric steps = record {
  installed = record {
    base = 0;
    opening = [];
    linked = record {
      matchers = Combo And [] ∷ [];
      predicates = [];
      states = [];
      metrics = metric ∷ [];
      alerts = [];
    };
  };
  steps = steps;
}

-- an atom comes that the matcher means
abbrev comes : ℕ → Value → Step
comes at value = record { at = at; what = Logged (AtomAt at (holding value)); truths = true ∷ [] }

-- a tick comes
abbrev ticks : ℕ → Step
ticks at = record { at = at; what = Logged (Tick at); truths = [] }

-- a report is made, with or without a cut
abbrev reports : ℕ → Bool → Step
reports at include_current = record { at = at; what = Reported include_current; truths = [] }

-- counts in buckets of a thousand
abbrev counts : List Step → History
counts steps = after_steps (metric (Count false) 1000) steps

-- two parts, and no entry, whatever ticks came
no_entry : history_weight (counts []) ≡ 512
no_entry = refl

ticks_alone : history_weight (counts (ticks 10 ∷ ticks 1500 ∷ ticks 2600 ∷ [])) ≡ 512
ticks_alone = refl

-- a key of the open part, however often it comes
one_key : history_weight (counts (comes 10 (Int (pos 5)) ∷ comes 20 (Int (pos 5)) ∷ [])) ≡ 512 + 160
one_key = refl

-- a key that the guardrail turned away is no entry
two_keys : history_weight (counts (comes 10 (Int (pos 5)) ∷ comes 20 (Int (pos 6)) ∷ comes 30 (Int (pos 7)) ∷ []))
    ≡ 512 + 160 + 160
two_keys = refl

-- a row that is kept, and a key of the open part
row_and_key : history_weight (counts (comes 10 (Int (pos 5)) ∷ comes 1500 (Int (pos 5)) ∷ [])) ≡ 512 + 160 + 160
row_and_key = refl

-- a report hands the rows out
told_row : history_weight (counts (comes 10 (Int (pos 5)) ∷ ticks 1500 ∷ reports 1500 false ∷ [])) ≡ 512
told_row = refl

-- an event is one entry, with what its atom holds
one_event : history_weight (after_steps (metric Event 0) (comes 10 (Str (97 ∷ 98 ∷ [])) ∷ [])) ≡ 512 + 128 + 16 + 2
one_event = refl

-- a predicate that the matcher at 0 starts, by that field
abbrev started : LPredicate
started = record {
  id = pos 11;
  body = Simple (Some 0) None None field_1 (record { nesting = true; unknown = false; bound = 800; leaves = 1 });
}

-- counts with these predicates, and these alerts on the metric
abbrev watched : List LPredicate → List LAlert → List Step → History
watched predicates alerts steps = record {
  installed = record {
    base = 0;
    opening = [];
    linked = record {
      matchers = Combo And [] ∷ [];
      predicates = predicates;
      states = [];
      metrics = metric (Count false) 1000 ∷ [];
      alerts = alerts;
    };
  };
  steps = steps;
}

-- the keys of each predicate are entries, also where they are the same
two_predicates : history_weight (watched (started ∷ started ∷ []) [] (comes 10 (Int (pos 5)) ∷ []))
    ≡ 1024 + 160 + 160 + 160
two_predicates = refl

-- an alert of two parts, which tells of more than one arrival
abbrev alert : LAlert
alert = record { id = pos 20; metric = 0; spec = record { bound = 2; parts = 2; threshold = 1; refractory = 0 } }

-- a key in a part of a window is an entry, and so is a listed alarm; the row of an ended part is one as before
one_alarm : history_weight (watched [] (alert ∷ []) (comes 10 (Int (pos 5)) ∷ comes 20 (Int (pos 5)) ∷ ticks 1500 ∷ []))
    ≡ 768 + 160 + 160 + 160
one_alarm = refl

-- a part that left the window is none, and a report tells the alarm
no_alarm : history_weight (watched [] (alert ∷ [])
    (comes 10 (Int (pos 5)) ∷ comes 20 (Int (pos 5)) ∷ ticks 2500 ∷ reports 2500 false ∷ [])) ≡ 768
no_alarm = refl

-- a pulled id is an entry, and so is each atom of its last pull
pulls : pulls_weight (Pull 1 10001 (Atoms (holding (Int (pos 1)) ∷ holding (Int (pos 2)) ∷ []))
    ∷ Pull 2 10002 Failed ∷ Pull 3 10001 (Atoms (holding (Int (pos 3)) ∷ [])) ∷ []) ≡ 128 + 144 + 128
pulls = refl

-- ticks weigh nothing, however many there are
no_tick_weighs : (says : SimpleMatcher → Atom → Bool)
    → weigh says (Log (Tick 5) ∷ Log (Tick 7) ∷ Log (Tick 7) ∷ []) ≡ 1024
no_tick_weighs says = refl
