-- The numbers so far stand after the text.
use Rattle.std.proofs.Common.{◌≡◌, ◌++◌, take, codes}
use Rattle.std.specs.Prelude.{decimal, string_bytes}
use Rattle.std.specs.List.{flat_map}
use Rattle.config_check.proofs.line.push_points.Given as goal

abbrev pub invariant-loop-number : goal.invariant-loop-number
invariant-loop-number l =
    string_bytes l.text
    ≡ string_bytes l.fn.text ++ flat_map (λ n. codes "." ++ decimal n) (take l.number-index l.numbers)
