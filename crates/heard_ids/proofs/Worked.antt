-- What worked configurations hear, by computing.
use Rattle.std.proofs.Common.{◌≡◌, ℕ, pos, true, false, List, [], ◌∷◌, Option, Some, None, refl}
use Rattle.config_types.specs.declared.matcher.Operation.TheVariants.{And, Not, Nand}
use Rattle.config_types.specs.declared.parameters.PredSpec.{PredSpec}
use Rattle.config_types.specs.declared.parameters.Sampling.TheVariants.{AtTrigger}
use Rattle.config_links.specs.declared.linked.LMatcher.{LMatcher}
use Rattle.config_links.specs.declared.linked.LMatcher.TheVariants.{Simple, Combo}
use Rattle.config_links.specs.declared.linked.LPredicate.{LPredicate}
use Rattle.config_links.specs.declared.linked.LPredBody.TheVariants as linked_bodies
use Rattle.config_links.specs.declared.linked.LMetric.{LMetric}
use Rattle.config_links.specs.declared.linked.LKind.{LKind}
use Rattle.config_links.specs.declared.linked.LKind.TheVariants.{Count, PulledGauge, SumDuration}
use Rattle.config_links.specs.declared.linked.Linked.{Linked}
use Rattle.heard_ids.specs.Hearing.{heard_ids, is_heard, silent_truths, hears_all}

-- the atoms of an id
abbrev atoms_of : ℕ → LMatcher
atoms_of id = Simple (record { atom_id = Some (pos id); tests = [] })

-- a configuration of matchers and predicates, with one metric
abbrev with_metric : List LMatcher → List LPredicate → LMetric → Linked
with_metric matchers predicates metric =
    record { matchers = matchers; predicates = predicates; states = []; metrics = metric ∷ []; alerts = [] }

-- a metric of what stands at a place
abbrev metric_of : ℕ → LKind → LMetric
metric_of what kind = record {
  id = pos 100;
  shown = true;
  what = what;
  condition = None;
  links = [];
  dims = record { atom_id = 0; leaves = [] };
  size = 1000;
  bound = 2;
  slices = [];
  kind = kind;
  activations = [];
}

-- how a table of one key is kept
abbrev one_key : PredSpec
one_key = record { nesting = false; unknown = true; bound = 1; leaves = 0 }

-- a predicate that the matcher at a place starts, and that nothing stops
abbrev started_by : ℕ → LPredicate
started_by start = record {
  id = pos 200;
  body = linked_bodies.Simple (Some start) None None (record { atom_id = 0; leaves = [] }) one_key;
}

-- the atoms of id 5, and those of any other
abbrev five_and_others : List LMatcher
five_and_others = atoms_of 5 ∷ Combo Not (0 ∷ []) ∷ []

others_hold_idle : silent_truths five_and_others ≡ false ∷ true ∷ []
others_hold_idle = refl

-- the order of the matchers doesn't matter
named_before : silent_truths (Combo Not (1 ∷ []) ∷ Combo Nand (2 ∷ 2 ∷ []) ∷ atoms_of 5 ∷ []) ≡ false ∷ true ∷ false
    ∷ []
named_before = refl

-- who counts the atoms of any other id hears all of them, and who counts those of id 5 doesn't
counts_others : hears_all (with_metric five_and_others [] (metric_of 1 (Count false))) ≡ true
counts_others = refl

counts_five : hears_all (with_metric five_and_others [] (metric_of 0 (Count false))) ≡ false
counts_five = refl

-- atoms of id 5 that aren't of id 6: a negation that another matcher bounds
abbrev five_alone : Linked
five_alone =
    with_metric (atoms_of 5 ∷ atoms_of 6 ∷ Combo Not (1 ∷ []) ∷ Combo And (0 ∷ 2 ∷ []) ∷ []) []
    (metric_of 3 (Count false))

bounded_negation : hears_all five_alone ≡ false
bounded_negation = refl

both_are_heard : heard_ids five_alone ≡ 5 ∷ 6 ∷ []
both_are_heard = refl

-- a predicate that any other atom starts is a reason to hear all
others_start : hears_all (with_metric five_and_others (started_by 1 ∷ []) (metric_of 0 (Count false))) ≡ true
others_start = refl

-- and so is a gauge that takes its samples at any other atom
others_trigger :
    hears_all (with_metric five_and_others [] (metric_of 0 (PulledGauge None 1 AtTrigger (Some 1)))) ≡ true
others_trigger = refl

-- and so is a metric that any other atom starts, or stops
abbrev with_activation : ℕ → Option ℕ → Linked
with_activation start cancel =
    with_metric five_and_others [] (record (metric_of 0 (Count false)) {
      activations = record { start = start; ttl = 1000; cancel = cancel } ∷ [];
    })

others_begin : hears_all (with_activation 1 None) ≡ true
others_begin = refl

others_end : hears_all (with_activation 0 (Some 1)) ≡ true
others_end = refl

five_begins : hears_all (with_activation 0 (Some 0)) ≡ false
five_begins = refl

-- what a duration times is the predicate at that place, and not the matcher there
times_a_predicate :
    hears_all (with_metric five_and_others (started_by 0 ∷ started_by 0 ∷ []) (metric_of 1 (SumDuration one_key)))
    ≡ false
times_a_predicate = refl

-- a configuration with a state
abbrev with_state : Linked
with_state = record {
  matchers = atoms_of 5 ∷ [];
  predicates = [];
  states = record { atom_id = 7; map = None } ∷ [];
  metrics = [];
  alerts = [];
}

-- the state's atoms are heard
state_is_heard : heard_ids with_state ≡ 5 ∷ 7 ∷ []
state_is_heard = refl

hears_the_state : is_heard with_state 7 ≡ true
hears_the_state = refl

hears_no_other : is_heard with_state 6 ≡ false
hears_no_other = refl
