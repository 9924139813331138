-- A sound configuration's matchers have an order.
use Rattle.std.proofs.Common.{List, sym, subst}
use Rattle.config_links.specs.declared.linked.LMatcher.{LMatcher}
use Rattle.config_links.proofs.SoundUses.{references_end}
use Rattle.link_graph.specs.Links.{AreInRange, HasNoCycle}
use Rattle.matcher_truths.specs.MatcherTruths.{named_places}
use Rattle.heard_ids.proofs.hearing.is_heeding_all.Goals as goal

pub silent_truths-requires-clause-in_range : goal.silent_truths-requires-clause-in_range
silent_truths-requires-clause-in_range c =
    subst (λ (ms : List LMatcher). AreInRange (named_places ms)) (sym c.as_slice-matchers.ensures)
    (references_end c.args.linked.now c.requires.sound).matchers_there

pub silent_truths-requires-clause-no_cycle : goal.silent_truths-requires-clause-no_cycle
silent_truths-requires-clause-no_cycle c =
    subst (λ (ms : List LMatcher). HasNoCycle (named_places ms)) (sym c.as_slice-matchers.ensures)
    c.requires.sound.matchers_end
