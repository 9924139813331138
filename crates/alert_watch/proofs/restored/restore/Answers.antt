-- The watch with the tables and the alarms that were saved.
use Rattle.std.proofs.Common.{◌≡◌, ◌≤◌, length, ◌∙◌, arith}
use Rattle.alert_watch.specs.Windows.{most_alarms}
use Rattle.alert_watch.proofs.WatchItemsLemmas.{saved_parts, saved_alarms, watch_restored}
use Rattle.alert_watch.proofs.restored.restore.Goals as goal

pub invariant_of-result : goal.invariant_of-result
invariant_of-result c =
    let parts : length (saved_parts c.args.saved) ≡ c.in-Some.spec.parts =
    omega (arith, c.if-len-spec.false, c.len.ensures) in
    let few : length (saved_alarms c.args.saved) ≤ most_alarms =
    omega (arith, c.if-len-gt-MAX_ALARMS.false, c.len-else-len-spec.ensures) in
    rw c.into_vec-2.ensures (watch_restored c.args.saved c.in-Some.spec c.in-Some.ensures.0 c.in-Some.ensures.1 parts
    few c.into_vec.result.items (c.into_vec.ensures ∙ c.in_ok-tables.ensures.0) c.in_ok-tables.ensures.1).0.is_watch

pub returns : goal.returns
returns c =
    let parts : length (saved_parts c.args.saved) ≡ c.in-Some.spec.parts =
    omega (arith, c.if-len-spec.false, c.len.ensures) in
    let few : length (saved_alarms c.args.saved) ≤ most_alarms =
    omega (arith, c.if-len-gt-MAX_ALARMS.false, c.len-else-len-spec.ensures) in
    rw c.into_vec-2.ensures (watch_restored c.args.saved c.in-Some.spec c.in-Some.ensures.0 c.in-Some.ensures.1 parts
    few c.into_vec.result.items (c.into_vec.ensures ∙ c.in_ok-tables.ensures.0) c.in_ok-tables.ensures.1)
