-- `==` of groups of counts holds exactly where contracts see the same group.
use Rattle.std.specs.Prelude.{◌≡◌}
use Rattle.std.specs.Bool.{Decides}
use Rattle.std.specs.Cmp.{booleans_Decides}
use Rattle.std.proofs.Common.{rules}
use Rattle.atom_record.specs.Equal.{metric_key_exact}
use Rattle.metric_meaning.specs.CountTrees.{CountGroup, is_same_group}

-- two groups are the same where both their keys and what kind of rows they are of are
pub group_exact : (one other : CountGroup) → Decides (is_same_group one other) (one ≡ other)
group_exact one other =
    let keys = metric_key_exact one.0 other.0 in
    let overflow = booleans_Decides one.1 other.1 in
    search (rules, keys, overflow)
