-- The derived `==` of shared matchers holds exactly where contracts see the same value.
use Rattle.std.specs.Prelude.{◌≡◌}
use Rattle.std.specs.Bool.{Decides}
use Rattle.std.specs.Cmp.{unsigned_Decides}
use Rattle.std.specs.Cmp.Rules.{comparing, hashing}
use Rattle.std.specs.Cmp.Lexicographic.{pointwise_decides}
use Rattle.std.proofs.Common.{rules, ap}
use Rattle.config_types.specs.Equal.{simple_matcher_exact}
use Rattle.config_types.specs.contracts.matcher.OperationExact.TheImpl.Laws.{exact-law as operation_exact}
use Rattle.matcher_table.specs.declared.shared.SharedMatcher.{SharedMatcher}
use Rattle.matcher_table.specs.declared.shared.SharedMatcher.TheVariants.{Simple, Combination}
use Rattle.matcher_table.specs.contracts.shared.SharedMatcherPartialEq.TheImpl as shared

-- `==` of what slots stand for
pub shared_exact : (x y : SharedMatcher) → Decides (shared.ghosts.eq x y) (x ≡ y)
shared_exact (Simple x) (Simple y) =
    let exact = simple_matcher_exact x y in (λ equal. ap (λ z. Simple z) (exact.0 equal), λ same. exact.1 (cc))
shared_exact (Combination op children) (Combination op' children') =
    let ops = operation_exact op op' in
    let numbers = pointwise_decides unsigned_Decides children children' in
    search (comparing, hashing, rules, ops, numbers)
shared_exact _ _ = (λ equal. cc, λ same. cc)
