use Rattle.std.proofs.Common.{sym, ◌∙◌}
use Rattle.link_rules.proofs.LimitLemmas.{few}
use Rattle.link_rules.proofs.rules.known_ids.Goals as goal

-- no count is past its limit
pub all_ids-requires : goal.all_ids-requires
all_ids-requires c = few c.args.entities.now (sym c.judge_limits.ensures ∙ c.in_ok-refuse.ensures.0)
