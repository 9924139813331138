use Rattle.field_select.proofs.LeafLemmas.{answer_is_set}
use Rattle.field_select.proofs.form.field_set.Goals as goal

-- the leaves of a well-formed tree are a set
pub returns-clause-leaves : goal.returns-clause-leaves
returns-clause-leaves c = answer_is_set c.formed_set.result c.args.tree.now c.formed_set.ensures
