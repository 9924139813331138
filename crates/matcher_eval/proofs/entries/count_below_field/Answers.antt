use Rattle.std.proofs.Common.{ltb, rules}
use Rattle.std.proofs.lemmas.List.Sorted.{IsPartitionPoint-from_clause, IsPartitionedBy-ltb}
use Rattle.matcher_eval.proofs.EntriesLemmas.{splits_at}
use Rattle.matcher_eval.proofs.entries.count_below_field.Goals as goal

-- where the field doesn't fall, those below the bound stand in front
pub returns : goal.returns
returns c =
    let parted = IsPartitionedBy-ltb (λ entry. entry.field) c.args.entries.now c.args.bound c.requires in
    let point = IsPartitionPoint-from_clause (λ entry. ltb entry.field c.args.bound) _ _
    c.partition_point.ensures.partitioned parted (λ a r q k. search rules) in
    splits_at _ c.args.entries.now c.partition_point.result c.partition_point.ensures.bound point
