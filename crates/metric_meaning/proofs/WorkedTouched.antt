-- Worked cases of atoms that touch a metric, and of atoms that don't, by computing.
use Rattle.std.proofs.Common.{◌≡◌, ℕ, pos, Bool, true, false, List, [], ◌∷◌, Option, Some, None, refl}
use Rattle.config_types.specs.declared.matcher.Operation.TheVariants.{And, Not}
use Rattle.config_types.specs.declared.parameters.PredSpec.{PredSpec}
use Rattle.config_types.specs.declared.parameters.Sampling.TheVariants.{AtTrigger}
use Rattle.config_links.specs.declared.linked.LKind.{LKind}
use Rattle.config_links.specs.declared.linked.LKind.TheVariants.{Event, PulledGauge, SumDuration}
use Rattle.config_links.specs.declared.linked.LMetric.{LMetric}
use Rattle.config_links.specs.declared.linked.LPredicate.{LPredicate}
use Rattle.config_links.specs.declared.linked.LPredBody.TheVariants.{Simple, Combo}
use Rattle.metric_meaning.specs.Touched.{is_touched}
use Rattle.metric_meaning.proofs.WorkedMetrics.{no_fields, metric_of, switch}

-- how tables are kept here
abbrev plain : PredSpec
plain = record { nesting = true; unknown = false; bound = 800; leaves = 0 }

-- the first is started and stopped by the matchers 1 and 2, the second started by 3; the third is not the first, and
-- the fourth both the third and the second
abbrev predicates : List LPredicate
predicates =
    switch ∷ record { id = pos 12; body = Simple (Some 3) None None no_fields plain }
    ∷ record { id = pos 13; body = Combo Not (0 ∷ []) } ∷ record { id = pos 14; body = Combo And (2 ∷ 1 ∷ []) } ∷ []

-- a metric of a kind, under a condition
abbrev under_place : LKind → Option ℕ → LMetric
under_place kind condition = record (metric_of kind no_fields 1000 800) { condition = condition }

-- what is counted comes, or the first predicate is started or stopped, or the second is started
abbrev counted : List Bool
counted = true ∷ false ∷ false ∷ false ∷ []

abbrev first_started : List Bool
first_started = false ∷ true ∷ false ∷ false ∷ []

abbrev first_stopped : List Bool
first_stopped = false ∷ false ∷ true ∷ false ∷ []

abbrev second_started : List Bool
second_started = false ∷ false ∷ false ∷ true ∷ []

-- what is counted touches a metric, also where it has no condition
by_what : is_touched predicates (under_place Event None) counted ≡ true
by_what = refl

-- without a condition nothing else does
without_a_condition : is_touched predicates (under_place Event None) first_started ≡ false
without_a_condition = refl

-- what starts or stops a predicate touches what hangs on it by way of others
through_combinations : is_touched predicates (under_place Event (Some 3)) first_stopped ≡ true
through_combinations = refl

-- and what starts one that the condition doesn't reach doesn't
not_reached : is_touched predicates (under_place Event (Some 2)) second_started ≡ false
not_reached = refl

-- a trigger touches its gauge
by_trigger : is_touched predicates (under_place (PulledGauge None 1 AtTrigger (Some 3)) None) second_started ≡ true
by_trigger = refl

-- a duration is touched by what starts the predicate that it times, here the first, and by no matcher at its place
timed : is_touched predicates (under_place (SumDuration plain) None) first_started ≡ true
timed = refl

place_of_a_predicate : is_touched predicates (under_place (SumDuration plain) None) counted ≡ false
place_of_a_predicate = refl
