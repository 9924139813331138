-- What an operation makes of the truths of its children.
use Rattle.std.specs.Prelude.{Bool, not, List}
use Rattle.std.specs.List.{list_all, list_any}
use Rattle.config_types.specs.declared.matcher.Operation.{Operation}
use Rattle.config_types.specs.declared.matcher.Operation.TheVariants.{And, Or, Not, Nand, Nor}

-- each child is true
abbrev pub all_true : List Bool → Bool
all_true truths = list_all (λ truth. truth) truths

-- some child is true
abbrev pub some_true : List Bool → Bool
some_true truths = list_any (λ truth. truth) truths

-- the truth of the operation; NOT has one child
abbrev pub combined_truth : Operation → List Bool → Bool
combined_truth And truths = all_true truths
combined_truth Or truths = some_true truths
combined_truth Not truths = not (some_true truths)
combined_truth Nand truths = not (all_true truths)
combined_truth Nor truths = not (some_true truths)
