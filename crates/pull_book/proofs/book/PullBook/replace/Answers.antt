-- The row keeps its id, and the new outcome may be recorded.
use Rattle.std.proofs.Common.{sym, refl}
use Rattle.pull_book.proofs.PullLemmas.{replaced, there_in}
use Rattle.pull_book.proofs.book.PullBook.replace.Goals as goal

pub invariant_of-self-2 : goal.invariant_of-self-2
invariant_of-self-2 c =
    replaced c.self.inside.table c.args.place c.args.id c.args.recorded
    (there_in c.args.self.now c.self.inside.table.rows (sym c.self.view_is) c.args.id c.args.id refl c.args.place
    c.requires.there)
    (c.requires.pulled, c.requires.recordable) c.self.invariant
