-- The map tells whether the key had a row before.
use Rattle.std.proofs.Common.{◌≡◌, rules, subst}
use Rattle.std.specs.Int.{w128}
use Rattle.std.proofs.lemmas.Int.{to_z-of_z}
use Rattle.indexmap.specs.IndexMap.{insert_entry}
use Rattle.flat_form.specs.Flat.{IsLong}
use Rattle.metric_kinds.specs.Keys.{is_same_key}
use Rattle.value_metric.proofs.SumsItemsLemmas.{adds_own_row}
use Rattle.value_metric.proofs.key_sums.KeySums.add_own.Goals as goal

pub returns : goal.returns
returns c =
    let fits : IsLong c.args.sum = search rules in
    let entries = subst (λ n. c.insert.new.self.entries
    ≡ insert_entry is_same_key c.self.inside.rows.entries c.args.key n) (to_z-of_z w128 c.args.sum fits)
    c.in_ok-before.ensures.entries in
    rw (← c.self.view_is) (adds_own_row c.self.inside.rows c.insert.new.self.entries c.args.key c.args.sum
    c.in_ok-before.before c.is_none.result c.in_ok-before.ensures.old entries c.is_none.ensures)
