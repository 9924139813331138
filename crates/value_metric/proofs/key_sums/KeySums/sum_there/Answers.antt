-- What the map has at a place it finds by its key, and that is the key.
use Rattle.std.proofs.Common.{◌≡◌, SFits, Some, rules, ap, sym, subst, ◌∙◌}
use Rattle.std.specs.Int.{w128}
use Rattle.std.specs.Map.{lookup}
use Rattle.std.proofs.lemmas.Int.{to_z-of_z}
use Rattle.atom_record.specs.Equal.{metric_key_exact}
use Rattle.metric_kinds.specs.Keys.{is_same_key}
use Rattle.value_metric.proofs.key_sums.KeySums.sum_there.Goals as goal

pub returns-in-Some : goal.returns-in-Some
returns-in-Some c =
    let fits : SFits w128 c.in-Some.sum.now = search rules in
    let same : c.in-Some.found.now ≡ c.args.key.now =
    (metric_key_exact c.in-Some.found.now c.args.key.now).0 (search rules) in
    let there : lookup (is_same_key c.in-Some.found.now) c.args.self.now ≡ Some c.in-Some.sum.now =
    rw (← c.self.view_is) c.in-Some.ensures.value in
    subst (λ key. lookup (is_same_key key) c.args.self.now ≡ Some c.in-Some.sum.now) same there
    ∙ ap Some (sym (to_z-of_z w128 c.in-Some.sum.now fits))
