-- The operations in three values.
use Rattle.std.specs.Prelude.{Bool, true, false, if◌then◌else◌, List, map}
use Rattle.std.specs.List.{list_any}
use Rattle.config_types.specs.declared.matcher.Operation.{Operation}
use Rattle.matcher_eval.specs.Combined.{combined_truth}
use Rattle.predicate_state.specs.declared.truth.Truth.{Truth}
use Rattle.predicate_state.specs.declared.truth.Truth.TheVariants.{False, Unknown, True}

-- nothing is known of it
abbrev pub is_unknown_truth : Truth → Bool
is_unknown_truth False = false
is_unknown_truth Unknown = true
is_unknown_truth True = false

-- it holds
abbrev pub is_true : Truth → Bool
is_true False = false
is_true Unknown = false
is_true True = true

-- a combination with an unknown child is unknown, and else the operation in two values
abbrev pub combined3 : Operation → List Truth → Truth
combined3 op truths =
    if list_any is_unknown_truth truths then Unknown
    else (if combined_truth op (map is_true truths) then True else False)
