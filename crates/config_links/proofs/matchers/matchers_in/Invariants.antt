use Rattle.std.proofs.Common.{◌≡◌, ◌++◌, map}
use Rattle.std.specs.Vec.Iter.{into_iter_items}
use Rattle.link_rules.specs.LinkFaults.{first_in}
use Rattle.config_links.specs.LinkReasons.{bad_matcher}
use Rattle.config_links.specs.LinkedForm.{linked_matcher}
use Rattle.config_links.proofs.matchers.matchers_in.Given as goal

-- the first fault of what is left is that of all, and what was linked and what is left are all
abbrev pub invariant-loop-def : goal.invariant-loop-def
invariant-loop-def l = record {
  judged : first_in bad_matcher (into_iter_items l.def-iterator) ≡ first_in bad_matcher l.fn.defs;
  linked : l.matchers ++ map (linked_matcher l.known) (into_iter_items l.def-iterator)
      ≡ map (linked_matcher l.known) l.fn.defs;
}
