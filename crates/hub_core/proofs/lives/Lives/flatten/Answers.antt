-- The items of each come after their number.
use Rattle.std.proofs.lemmas.Result.{on_ok_weaker}
use Rattle.hub_core.proofs.SavedRowsLemmas.{rows_may, rows_added}
use Rattle.hub_core.proofs.lives.Lives.flatten.Goals as goal

pub returns-clause-added : goal.returns-clause-added
returns-clause-added c =
    on_ok_weaker c.flatten_rows.result
    (λ added. rows_added c.args.self.now.slots.entries c.len-count.result c.args.out.now c.flatten.new.out _
    c.len-count.ensures.len c.in_ok-flatten.ensures.added added) c.flatten_rows.ensures.added

pub returns-clause-may : goal.returns-clause-may
returns-clause-may c =
    on_ok_weaker c.flatten_rows.result
    (λ added. rows_may c.args.self.now.slots.entries c.args.self.now.named c.len-count.ensures.unique
    c.args.self.now.few) c.flatten_rows.ensures.added
