-- One integer more is in the sums.
use Rattle.std.proofs.Common.{SFits, w64, [], ◌∷◌, rules, sym, ap, ◌∙◌}
use Rattle.std.proofs.lemmas.List.{map-append}
use Rattle.metric_kinds.specs.Diffs.{key_sums}
use Rattle.value_metric.specs.PulledValues.{keyed_ints}
use Rattle.value_metric.specs.Sums.{with_sum}
use Rattle.value_metric.specs.declared.keyed_int.KeyedInt.{KeyedInt}
use Rattle.value_metric.proofs.KeySumsLemmas.{key_sums-push}
use Rattle.value_metric.proofs.Widths.{widened}
use Rattle.value_metric.proofs.key_sums.KeySums.of.Goals as goal

pub loop-integer-preserved : goal.loop-integer-preserved
loop-integer-preserved c =
    let integer = c.in-Some.integer in
    let fits : SFits w64 integer.value = search rules in
    c.in_ok-add.ensures
    ∙ ap (with_sum c.loop-integer.sums integer.key) (widened integer.value fits)
    ∙ ap (λ sums. with_sum sums integer.key integer.value) c.loop-integer.invariant
    ∙ sym (key_sums-push (keyed_ints c.loop-integer.yielded) integer.key integer.value)
    ∙ ap key_sums (sym (map-append (λ (i : KeyedInt). (i.key, i.value)) c.loop-integer.yielded (integer ∷ [])))
