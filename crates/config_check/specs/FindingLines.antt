-- The line that tells what was found.
use Rattle.std.specs.Prelude.{ℕ, List, [], ◌∷◌, ◌++◌, codes, decimal}
use Rattle.std.specs.List.{flat_map}
use Rattle.std.specs.Fmt.{signed_decimal}
use Rattle.config_check.specs.declared.finding.Finding.{Finding}
use Rattle.config_check.specs.declared.finding.Finding.TheVariants.{Sound, TooLarge, Malformed, Unsupported, Unlinked}

-- the numbers of a path, joined by points
abbrev pub path_text : List ℕ → List ℕ
path_text [] = []
path_text (number ∷ others) = decimal number ++ flat_map (λ other. codes "." ++ decimal other) others

-- what was found, in words and numbers, with a newline
abbrev pub finding_line : Finding → List ℕ
finding_line (Sound counts) =
    codes "ok " ++ decimal counts.matchers ++ codes " " ++ decimal counts.predicates ++ codes " "
    ++ decimal counts.states ++ codes " " ++ decimal counts.metrics ++ codes "\n"
finding_line (TooLarge size) = codes "refused large " ++ decimal size ++ codes "\n"
finding_line (Malformed fault) =
    codes "refused wire " ++ decimal fault.cause ++ codes " " ++ decimal fault.offset ++ codes "\n"
finding_line (Unsupported path) = codes "refused unsupported " ++ path_text path ++ codes "\n"
finding_line (Unlinked fault) =
    codes "refused link " ++ decimal fault.number ++ codes " " ++ decimal fault.reason ++ codes " "
    ++ signed_decimal fault.value ++ codes "\n"
