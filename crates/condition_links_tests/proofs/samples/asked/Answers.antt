use Rattle.std.proofs.Common.{rules}
use Rattle.condition_links_tests.proofs.samples.asked.Goals as goal

pub counted-requires-clause-sound : goal.counted-requires-clause-sound
counted-requires-clause-sound c = record {
  few = search rules;
  root = search rules;
  in_range = rw (← c.as_slice-nodes.ensures) (c.are_there.ensures (search rules));
  no_cycle = rw (← c.as_slice-nodes.ensures) (c.in_ok-stand_on_no_cycle.ensures (search rules));
}
