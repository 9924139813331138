use Rattle.std.proofs.lemmas.Grind.{merely}
use Rattle.matcher_table.proofs.TableLaws.{had, interned_trees, children_live}
use Rattle.matcher_table.proofs.table.MatcherTable.intern_combination.Goals as goal

pub intern-requires-clause-stands : goal.intern-requires-clause-stands
intern-requires-clause-stands c = had c.args.self.now.store c.args.self.now.sound

pub intern-requires-clause-may : goal.intern-requires-clause-may
intern-requires-clause-may c = record {
  children = children_live c.args.self.now.store.bodies.slots c.args.children.now c.in_ok-children.children
      c.in_ok-children.ensures c.requires;
  askable = λ matcher e. absurd (cc);
}

pub returns-clause-trees : goal.returns-clause-trees
returns-clause-trees c =
    interned_trees c.args.self.now.store c.intern.new.self _ _
    (had c.args.self.now.store c.args.self.now.sound) c.in_ok-number.ensures.stands c.in_ok-number.ensures.interns

pub invariant_of-self : goal.invariant_of-self
invariant_of-self c = record { sound = merely c.intern.ensures.stands }
