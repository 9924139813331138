use Rattle.std.proofs.lemmas.Grind.{merely}
use Rattle.matcher_table.proofs.TableLaws.{had, interned_trees}
use Rattle.matcher_table.proofs.table.MatcherTable.intern_simple.Goals as goal

pub intern-requires-clause-stands : goal.intern-requires-clause-stands
intern-requires-clause-stands c = had c.args.self.now.store c.args.self.now.sound

pub returns-clause-trees : goal.returns-clause-trees
returns-clause-trees c =
    interned_trees c.args.self.now.store c.intern.new.self _ _
    (had c.args.self.now.store c.args.self.now.sound) c.in_ok-number.ensures.stands c.in_ok-number.ensures.interns

pub invariant_of-self : goal.invariant_of-self
invariant_of-self c = record { sound = merely c.intern.ensures.stands }
