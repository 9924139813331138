use Rattle.std.proofs.Common.{◌≡◌, ◌++◌, map}
use Rattle.std.specs.Vec.Iter.{into_iter_items}
use Rattle.link_rules.specs.LinkFaults.{first_in}
use Rattle.config_links.specs.LinkReasons.{bad_state}
use Rattle.config_links.specs.LinkedForm.{linked_state}
use Rattle.config_links.proofs.states.states_in.Given as goal

-- the first fault of what is left is that of all, and what was linked and what is left are all
abbrev pub invariant-loop-def : goal.invariant-loop-def
invariant-loop-def l = record {
  judged : first_in bad_state (into_iter_items l.def-iterator) ≡ first_in bad_state l.fn.defs;
  linked : l.states ++ map linked_state (into_iter_items l.def-iterator) ≡ map linked_state l.fn.defs;
}
