-- Worked configurations, by computing: what their bytes say, or why they are refused. The crates above take their rows
-- from these. In a comment, {7: {1: 1}} is a message whose field 7 holds a message whose field 1 is 1.
use Rattle.std.proofs.Common.{◌≡◌, ℕ, ℤ, pos, negsuc, Bool, true, false, List, [], ◌∷◌, ◌++◌, Some, None, Ok, Err, refl}
use Rattle.proto_wire.specs.WireReading.{inside_at, walk_from, walk_turns, field_at, field_with, tag_at, tag_of, varint_at, taken_at}
use Rattle.config_types.specs.declared.alert.AlertDef.{AlertDef}
use Rattle.config_types.specs.declared.bucket.TimeUnit.TheVariants.{Cts}
use Rattle.config_types.specs.declared.config.Config.{Config}
use Rattle.config_types.specs.declared.fields.FieldMatcher.{FieldMatcher}
use Rattle.config_types.specs.declared.fields.FieldMatcher.TheViews.{roll-FieldMatcher}
use Rattle.config_types.specs.declared.matcher.MatcherBody.TheVariants as matcher
use Rattle.config_types.specs.declared.matcher.MatcherDef.{MatcherDef}
use Rattle.config_types.specs.declared.metric.CountDef.{CountDef}
use Rattle.config_decode.specs.ConfigFault.{Wire, Unsupported}
use Rattle.config_decode.specs.Walk as whole
use Rattle.config_decode.specs.Walk.{walk_of}
use Rattle.config_decode.specs.Config.{config_of}
use Rattle.config_decode.specs.Tree.{field_matcher_in}

-- a configuration with nothing but matchers and metrics that count
abbrev pub tree_with : List MatcherDef → List CountDef → Config
tree_with matchers counts = record {
  matchers = matchers;
  predicates = [];
  states = [];
  events = [];
  counts = counts;
  values = [];
  gauges = [];
  durations = [];
  no_report = [];
  alerts = [];
}

-- a matcher of this id, which matches the atoms of an id
abbrev pub atom_matcher : ℤ → ℤ → MatcherDef
atom_matcher id atom_id = record {
  id = Some id;
  body = Some (matcher.Simple (record { atom_id = Some atom_id; tests = [] }));
}

-- a metric of this id, which counts what a matcher matches
abbrev pub plain_count : ℤ → ℤ → CountDef
plain_count id what = record {
  common = record { id = Some id; what = Some what; condition = None; links = []; activations = [] };
  sliced = record { dims = None; bucket = None; bound = None; slices = []; state_links = [] };
  overflow = false;
}

-- a metric that counts, of which nothing else is said than whether it has an overflow
abbrev unnamed_count : Bool → CountDef
unnamed_count overflow = record {
  common = record { id = None; what = None; condition = None; links = []; activations = [] };
  sliced = record { dims = None; bucket = None; bound = None; slices = []; state_links = [] };
  overflow = overflow;
}

-- the matcher 1, of the atoms of id 5: {7: {1: 1, 2: {1: 5}}}
abbrev pub matcher_bytes : List ℕ
matcher_bytes = 58 ∷ 6 ∷ 8 ∷ 1 ∷ 18 ∷ 2 ∷ 8 ∷ 5 ∷ []

-- the metric 100, which counts what the matcher 1 matches: {3: {1: 100, 2: 1}}
abbrev pub count_bytes : List ℕ
count_bytes = 26 ∷ 4 ∷ 8 ∷ 100 ∷ 16 ∷ 1 ∷ []

-- this matcher and this metric
abbrev pub least_bytes : List ℕ
least_bytes = matcher_bytes ++ count_bytes

-- what they say
abbrev pub least_tree : Config
least_tree = tree_with (atom_matcher (pos 1) (pos 5) ∷ []) (plain_count (pos 100) (pos 1) ∷ [])

pub least_config : config_of least_bytes ≡ Ok least_tree
unfolding config_of walk_of whole.walk_in inside_at
    walk_from walk_turns field_at field_with tag_at tag_of varint_at taken_at
least_config = refl

-- the metric's id is -1, which is spelled in ten bytes: {3: {1: -1, 2: 1}}
abbrev pub below_zero_bytes : List ℕ
below_zero_bytes =
    matcher_bytes
    ++ 26 ∷ 13 ∷ 8 ∷ 255 ∷ 255 ∷ 255 ∷ 255 ∷ 255 ∷ 255 ∷ 255 ∷ 255 ∷ 255 ∷ 1 ∷ 16 ∷ 1 ∷ []

-- what they say
abbrev pub below_zero_tree : Config
below_zero_tree = tree_with (atom_matcher (pos 1) (pos 5) ∷ []) (plain_count (negsuc 0) (pos 1) ∷ [])

pub below_zero_config : config_of below_zero_bytes ≡ Ok below_zero_tree
unfolding config_of walk_of whole.walk_in inside_at
    walk_from walk_turns field_at field_with tag_at tag_of varint_at taken_at
below_zero_config = refl

-- the matcher's id 1 is spelled as 129, 0, and the atom's id 5 as 133, 128, 0
abbrev pub overlong_bytes : List ℕ
overlong_bytes = 58 ∷ 9 ∷ 8 ∷ 129 ∷ 0 ∷ 18 ∷ 4 ∷ 8 ∷ 133 ∷ 128 ∷ 0 ∷ count_bytes

pub overlong_config : config_of overlong_bytes ≡ Ok least_tree
unfolding config_of walk_of whole.walk_in inside_at
    walk_from walk_turns field_at field_with tag_at tag_of varint_at taken_at
overlong_config = refl

-- the metric before its matcher
abbrev pub other_order_bytes : List ℕ
other_order_bytes = count_bytes ++ matcher_bytes

pub other_order_config : config_of other_order_bytes ≡ Ok least_tree
unfolding config_of walk_of whole.walk_in inside_at
    walk_from walk_turns field_at field_with tag_at tag_of varint_at taken_at
other_order_config = refl

-- a third record, of a number that no field has: {99: 1}
abbrev pub third_record_bytes : List ℕ
third_record_bytes = least_bytes ++ 152 ∷ 6 ∷ 1 ∷ []

pub third_record_config : config_of third_record_bytes ≡ Ok least_tree
unfolding config_of walk_of whole.walk_in inside_at
    walk_from walk_turns field_at field_with tag_at tag_of varint_at taken_at
third_record_config = refl

-- all the other way round: {99: 1, 3: {2: 1, 1: 100}, 7: {2: {1: 5}, 1: 1}}
abbrev turned_round_bytes : List ℕ
turned_round_bytes =
    152 ∷ 6 ∷ 1
    ∷ 26 ∷ 4 ∷ 16 ∷ 1 ∷ 8 ∷ 100
    ∷ 58 ∷ 6 ∷ 18 ∷ 2 ∷ 8 ∷ 5 ∷ 8 ∷ 1 ∷ []

turned_round : config_of turned_round_bytes ≡ Ok least_tree
unfolding config_of walk_of whole.walk_in inside_at
    walk_from walk_turns field_at field_with tag_at tag_of varint_at taken_at
turned_round = refl

-- the metric counts what a matcher 2 matches, of which there is none: {3: {1: 100, 2: 2}}
abbrev pub another_matcher_bytes : List ℕ
another_matcher_bytes = matcher_bytes ++ 26 ∷ 4 ∷ 8 ∷ 100 ∷ 16 ∷ 2 ∷ []

-- what they say
abbrev pub another_matcher_tree : Config
another_matcher_tree = tree_with (atom_matcher (pos 1) (pos 5) ∷ []) (plain_count (pos 100) (pos 2) ∷ [])

pub another_matcher_config : config_of another_matcher_bytes ≡ Ok another_matcher_tree
unfolding config_of walk_of whole.walk_in inside_at
    walk_from walk_turns field_at field_with tag_at tag_of varint_at taken_at
another_matcher_config = refl

-- the matcher names the atom's id 0, which no atom has: {7: {1: 1, 2: {1: 0}}}
abbrev pub no_atom_bytes : List ℕ
no_atom_bytes = 58 ∷ 6 ∷ 8 ∷ 1 ∷ 18 ∷ 2 ∷ 8 ∷ 0 ∷ count_bytes

-- what they say
abbrev pub no_atom_tree : Config
no_atom_tree = tree_with (atom_matcher (pos 1) (pos 0) ∷ []) (plain_count (pos 100) (pos 1) ∷ [])

pub no_atom_config : config_of no_atom_bytes ≡ Ok no_atom_tree
unfolding config_of walk_of whole.walk_in inside_at
    walk_from walk_turns field_at field_with tag_at tag_of varint_at taken_at
no_atom_config = refl

-- no bytes are a configuration that asks for nothing
pub empty_config : config_of [] ≡ Ok (tree_with [] [])
unfolding config_of walk_of whole.walk_in walk_from walk_turns
empty_config = refl

-- a record of field 7 with five bytes, of which there are none
abbrev pub cut_bytes : List ℕ
cut_bytes = 58 ∷ 5 ∷ []

pub cut_config : config_of cut_bytes ≡ Err (Wire (record { offset = 0; cause = 2 }))
unfolding config_of walk_of whole.walk_in inside_at
    walk_from walk_turns field_at field_with tag_at tag_of varint_at taken_at
cut_config = refl

-- a fault of the wire format is told before what isn't supported, which here is {7: {4: 1}}
fault_wins : config_of (58 ∷ 2 ∷ 32 ∷ 1 ∷ cut_bytes) ≡ Err (Wire (record { offset = 4; cause = 2 }))
unfolding config_of walk_of whole.walk_in inside_at
    walk_from walk_turns field_at field_with tag_at tag_of varint_at taken_at
fault_wins = refl

-- an activation of metrics: {17: {}}
abbrev pub activation_bytes : List ℕ
activation_bytes = 138 ∷ 1 ∷ 0 ∷ []

pub activation_config : config_of activation_bytes ≡ Err (Unsupported (17 ∷ []))
unfolding config_of walk_of whole.walk_in inside_at
    walk_from walk_turns field_at field_with tag_at tag_of varint_at taken_at
activation_config = refl

-- the metric's buckets are of unit 0: {3: {1: 100, 2: 1, 5: 0}}
abbrev pub bucket_unit_bytes : List ℕ
bucket_unit_bytes = matcher_bytes ++ 26 ∷ 6 ∷ 8 ∷ 100 ∷ 16 ∷ 1 ∷ 40 ∷ 0 ∷ []

pub bucket_unit_config : config_of bucket_unit_bytes ≡ Err (Unsupported (3 ∷ 5 ∷ []))
unfolding config_of walk_of whole.walk_in inside_at
    walk_from walk_turns field_at field_with tag_at tag_of varint_at taken_at
bucket_unit_config = refl

-- a bucket of a unit that isn't there, and then one of an hour: {3: {5: 10, 5: 5}}
strict : config_of (26 ∷ 4 ∷ 40 ∷ 10 ∷ 40 ∷ 5 ∷ []) ≡ Err (Unsupported (3 ∷ 5 ∷ []))
unfolding config_of walk_of whole.walk_in inside_at
    walk_from walk_turns field_at field_with tag_at tag_of varint_at taken_at
strict = refl

-- the matcher tests that the field 1 is below a float: {7: {1: 1, 2: {1: 5, 2: {1: 1, 8: 0.0}}}}
abbrev pub float_test_bytes : List ℕ
float_test_bytes = 58 ∷ 15 ∷ 8 ∷ 1 ∷ 18 ∷ 11 ∷ 8 ∷ 5 ∷ 18 ∷ 7 ∷ 8 ∷ 1 ∷ 69 ∷ 0 ∷ 0 ∷ 0 ∷ 0 ∷ []

pub float_test_config : config_of float_test_bytes ≡ Err (Unsupported (7 ∷ 2 ∷ 2 ∷ 8 ∷ []))
unfolding config_of walk_of whole.walk_in inside_at
    walk_from walk_turns field_at field_with tag_at tag_of varint_at taken_at
float_test_config = refl

-- A metric that counts by the field 1 of atom 5, in buckets of a second (the unit 1000), with two keys at most and an
-- overflow: {3: {1: 100, 2: 1, 4: {1: 5, 3: {1: 1}}, 5: 1000, 1001: 2, 1002: 1}}
abbrev pub overflow_of_count_bytes : List ℕ
overflow_of_count_bytes =
    matcher_bytes
    ++ 26 ∷ 21 ∷ 8 ∷ 100 ∷ 16 ∷ 1
    ∷ 34 ∷ 6 ∷ 8 ∷ 5 ∷ 26 ∷ 2 ∷ 8 ∷ 1
    ∷ 40 ∷ 232 ∷ 7
    ∷ 200 ∷ 62 ∷ 2
    ∷ 208 ∷ 62 ∷ 1 ∷ []

-- the field 1 of atom 5
abbrev field_1_of_5 : FieldMatcher
field_1_of_5 = roll-FieldMatcher (record {
  field = Some (pos 5);
  position = None;
  children = roll-FieldMatcher (record { field = Some (pos 1); position = None; children = [] }) ∷ [];
})

-- this metric, with or without an overflow
abbrev pub count_by_field_1 : Bool → CountDef
count_by_field_1 overflow = record {
  common = record { id = Some (pos 100); what = Some (pos 1); condition = None; links = []; activations = [] };
  sliced = record {
    dims = Some field_1_of_5;
    bucket = Some Cts;
    bound = Some (pos 2);
    slices = [];
    state_links = [];
  };
  overflow = overflow;
}

pub overflow_of_count_config : config_of overflow_of_count_bytes
    ≡ Ok (tree_with (atom_matcher (pos 1) (pos 5) ∷ []) (count_by_field_1 true ∷ []))
unfolding config_of walk_of whole.walk_in inside_at
    walk_from walk_turns field_at field_with tag_at tag_of varint_at taken_at field_matcher_in
overflow_of_count_config = refl

-- two metrics that say whether they have an overflow, the second twice: {3: {1002: 0}, 3: {1002: 1, 1002: 0}}
last_overflow_counts : config_of (26 ∷ 3 ∷ 208 ∷ 62 ∷ 0 ∷ 26 ∷ 6 ∷ 208 ∷ 62 ∷ 1 ∷ 208 ∷ 62 ∷ 0 ∷ [])
    ≡ Ok (tree_with [] (unnamed_count false ∷ unnamed_count false ∷ []))
unfolding config_of walk_of whole.walk_in inside_at
    walk_from walk_turns field_at field_with tag_at tag_of varint_at taken_at
last_overflow_counts = refl

-- of three metrics the second alone has an overflow, which is any number but 0: {3: {}, 3: {1002: 2}, 3: {}}
one_overflow : config_of (26 ∷ 0 ∷ 26 ∷ 3 ∷ 208 ∷ 62 ∷ 2 ∷ 26 ∷ 0 ∷ [])
    ≡ Ok (tree_with [] (unnamed_count false ∷ unnamed_count true ∷ unnamed_count false ∷ []))
unfolding config_of walk_of whole.walk_in inside_at
    walk_from walk_turns field_at field_with tag_at tag_of varint_at taken_at
one_overflow = refl

-- an overflow of a count as bytes: {3: {1002: ""}}
overflow_as_bytes : config_of (26 ∷ 3 ∷ 210 ∷ 62 ∷ 0 ∷ []) ≡ Err (Unsupported (3 ∷ 1002 ∷ []))
unfolding config_of walk_of whole.walk_in inside_at
    walk_from walk_turns field_at field_with tag_at tag_of varint_at taken_at
overflow_as_bytes = refl

-- A second matcher, and a metric with an activation by it:
-- {7: {1: 1, 2: {1: 5}}, 7: {1: 2, 2: {1: 6}}, 3: {1: 100, 2: 1, 1010: {1: 2, 2: 1}}}
abbrev pub activation_of_count_bytes : List ℕ
activation_of_count_bytes =
    matcher_bytes
    ++ 58 ∷ 6 ∷ 8 ∷ 2 ∷ 18 ∷ 2 ∷ 8 ∷ 6
    ∷ 26 ∷ 11 ∷ 8 ∷ 100 ∷ 16 ∷ 1
    ∷ 146 ∷ 63 ∷ 4 ∷ 8 ∷ 2 ∷ 16 ∷ 1 ∷ []

-- this metric, which the second matcher starts for one second
abbrev started_count : CountDef
started_count = record {
  common = record {
    id = Some (pos 100);
    what = Some (pos 1);
    condition = None;
    links = [];
    activations = record { start = Some (pos 2); ttl = Some (pos 1); cancel = None } ∷ [];
  };
  sliced = record { dims = None; bucket = None; bound = None; slices = []; state_links = [] };
  overflow = false;
}

pub activation_of_count_config : config_of activation_of_count_bytes
    ≡ Ok (tree_with (atom_matcher (pos 1) (pos 5) ∷ atom_matcher (pos 2) (pos 6) ∷ []) (started_count ∷ []))
unfolding config_of walk_of whole.walk_in inside_at
    walk_from walk_turns field_at field_with tag_at tag_of varint_at taken_at
activation_of_count_config = refl

-- the same of a duration, which has none: {6: {1010: {1: 2, 2: 1}}}
activation_of_duration : config_of (50 ∷ 7 ∷ 146 ∷ 63 ∷ 4 ∷ 8 ∷ 2 ∷ 16 ∷ 1 ∷ []) ≡ Err (Unsupported (6 ∷ 1010 ∷ []))
unfolding config_of walk_of whole.walk_in inside_at
    walk_from walk_turns field_at field_with tag_at tag_of varint_at taken_at
activation_of_duration = refl

-- An alert on the metric 100, at more than 2 in two parts, and not again for one second:
-- {7: {1: 1, 2: {1: 5}}, 3: {1: 100, 2: 1}, 1011: {1: 200, 2: 100, 3: 2, 4: 2, 5: 1}}
abbrev pub alert_bytes : List ℕ
alert_bytes =
    least_bytes
    ++ 154 ∷ 63 ∷ 11 ∷ 8 ∷ 200 ∷ 1 ∷ 16 ∷ 100
    ∷ 24 ∷ 2 ∷ 32 ∷ 2 ∷ 40 ∷ 1 ∷ []

-- what it says
abbrev pub count_alert : AlertDef
count_alert = record {
  id = Some (pos 200);
  metric = Some (pos 100);
  threshold = Some (pos 2);
  parts = Some (pos 2);
  refractory = Some (pos 1);
}

pub alert_config : config_of alert_bytes ≡ Ok (record least_tree { alerts = count_alert ∷ [] })
unfolding config_of walk_of whole.walk_in inside_at
    walk_from walk_turns field_at field_with tag_at tag_of varint_at taken_at
alert_config = refl

-- an alert as a number: {1011: 1}
alert_as_number : config_of (152 ∷ 63 ∷ 1 ∷ []) ≡ Ok (tree_with [] [])
unfolding config_of walk_of whole.walk_in inside_at
    walk_from walk_turns field_at field_with tag_at tag_of varint_at taken_at
alert_as_number = refl

-- a field that no alert has: {1011: {6: 1}}
field_of_no_alert : config_of (154 ∷ 63 ∷ 2 ∷ 48 ∷ 1 ∷ []) ≡ Err (Unsupported (1011 ∷ 6 ∷ []))
unfolding config_of walk_of whole.walk_in inside_at
    walk_from walk_turns field_at field_with tag_at tag_of varint_at taken_at
field_of_no_alert = refl

-- a value metric that has an overflow: {4: {1: 100, 2: 1, 1002: 1}}
abbrev pub overflow_of_value_bytes : List ℕ
overflow_of_value_bytes = matcher_bytes ++ 34 ∷ 7 ∷ 8 ∷ 100 ∷ 16 ∷ 1 ∷ 208 ∷ 62 ∷ 1 ∷ []

pub overflow_of_value_config : config_of overflow_of_value_bytes ≡ Err (Unsupported (4 ∷ 1002 ∷ []))
unfolding config_of walk_of whole.walk_in inside_at
    walk_from walk_turns field_at field_with tag_at tag_of varint_at taken_at
overflow_of_value_config = refl

-- the other kinds of metrics: {2: {1002: 1}}, {5: {1002: 1}} and {6: {1002: 1}}
overflow_of_event : config_of (18 ∷ 3 ∷ 208 ∷ 62 ∷ 1 ∷ []) ≡ Err (Unsupported (2 ∷ 1002 ∷ []))
unfolding config_of walk_of whole.walk_in inside_at
    walk_from walk_turns field_at field_with tag_at tag_of varint_at taken_at
overflow_of_event = refl

overflow_of_gauge : config_of (42 ∷ 3 ∷ 208 ∷ 62 ∷ 1 ∷ []) ≡ Err (Unsupported (5 ∷ 1002 ∷ []))
unfolding config_of walk_of whole.walk_in inside_at
    walk_from walk_turns field_at field_with tag_at tag_of varint_at taken_at
overflow_of_gauge = refl

overflow_of_duration : config_of (50 ∷ 3 ∷ 208 ∷ 62 ∷ 1 ∷ []) ≡ Err (Unsupported (6 ∷ 1002 ∷ []))
unfolding config_of walk_of whole.walk_in inside_at
    walk_from walk_turns field_at field_with tag_at tag_of varint_at taken_at
overflow_of_duration = refl
