use Rattle.std.proofs.lemmas.Grind.{merely}
use Rattle.matcher_table.proofs.TableLaws.{had, released_trees}
use Rattle.matcher_table.proofs.table.MatcherTable.release.Goals as goal

pub release-requires-clause-stands : goal.release-requires-clause-stands
release-requires-clause-stands c = had c.args.self.now.store c.args.self.now.sound

pub returns-clause-trees : goal.returns-clause-trees
returns-clause-trees c =
    released_trees c.args.self.now.store c.release.new.self c.args.slot.number
    (had c.args.self.now.store c.args.self.now.sound) c.release.ensures.stands c.release.ensures.releases

pub invariant_of-self : goal.invariant_of-self
invariant_of-self c = record { sound = merely c.release.ensures.stands }
