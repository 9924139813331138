-- The items so far stand after the bracket.
use Rattle.std.proofs.Common.{◌≡◌, ◌∷◌, ◌++◌, take}
use Rattle.std.specs.List.{flat_map}
use Rattle.json.specs.Token.{begin_array}
use Rattle.report_json.specs.Tokens.{tokens_of}
use Rattle.report_json.proofs.shown.write_array.Given as goal

abbrev pub invariant-loop-item : goal.invariant-loop-item
invariant-loop-item g l =
    l.out
    ≡ l.fn.out ++ begin_array ∷ flat_map (λ item. tokens_of (g.T.Shown.shown item)) (take l.item-index l.items)
