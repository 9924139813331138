-- The string that is taken off the end is the last.
use Rattle.std.proofs.Common.{ap, ◌∙◌, arith}
use Rattle.std.proofs.lemmas.List.{map-id}
use Rattle.config_decode.specs.Values.{last}
use Rattle.config_decode.proofs.ValuesLemmas.{last_taken}
use Rattle.config_decode.proofs.message.Message.read_string.Goals as goal

pub returns : goal.returns
returns c =
    last_taken _ _ c.pop.result c.pop.ensures.items
    (λ some. c.pop.ensures.variant.1 (omega (arith, some, c.in_ok-strings.strings.ok)))
    ∙ ap last (c.in_ok-strings.ensures ∙ map-id _)
