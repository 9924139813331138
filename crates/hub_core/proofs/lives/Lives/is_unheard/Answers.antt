-- Where no name is noted none hears the frame, and where nothing is live there is none.
use Rattle.matcher_table.specs.Contents.{contents_of}
use Rattle.hub_core.proofs.NotedLemmas.{lives_noted}
use Rattle.hub_core.proofs.TableLemmas.{table_held}
use Rattle.hub_core.proofs.UnheardLemmas.{none_hear}
use Rattle.hub_core.proofs.lives.Lives.is_unheard.Goals as goal

pub returns-then-comes_to_none : goal.returns-then-comes_to_none
returns-then-comes_to_none c = λ _.
    none_hear (contents_of c.args.self.now.table) c.args.self.now.notes c.args.self.now.slots.entries
    (table_held c.args.self.now).all (lives_noted c.args.self.now) c.args.frame.now c.len-is_empty.ensures.unique
    (c.comes_to_none.ensures c.if-comes_to_none.true)
