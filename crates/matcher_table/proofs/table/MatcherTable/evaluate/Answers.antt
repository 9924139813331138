use Rattle.matcher_table.proofs.TableLaws.{had}
use Rattle.matcher_table.proofs.table.MatcherTable.evaluate.Goals as goal

pub evaluate-requires-clause-stands : goal.evaluate-requires-clause-stands
evaluate-requires-clause-stands g c = had c.args.self.now.store c.args.self.now.sound
