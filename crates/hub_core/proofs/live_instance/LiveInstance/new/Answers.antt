-- What was installed holds its matchers, and hears what it says.
use Rattle.matcher_table.specs.Contents.{contents_of}
use Rattle.hub_core.proofs.EvaluationLemmas.{new_held}
use Rattle.hub_core.proofs.live_instance.LiveInstance.new.Goals as goal

pub returns-clause-interned : goal.returns-clause-interned
returns-clause-interned c = record {
  holds = new_held (contents_of c.hold.new.table) c.args.accepted.linked _ c.requires.accepted.sound
      c.in_ok-carried.ensures.carries.linked
      c.in_ok-slots.ensures.holds c.in_ok-hearing.ensures.ids c.in_ok-hearing.ensures.all;
  uses = c.in_ok-slots.ensures.uses;
  others = c.in_ok-slots.ensures.others;
}
