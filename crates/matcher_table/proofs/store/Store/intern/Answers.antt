use Rattle.std.proofs.Common.{sym, ◌∙◌}
use Rattle.matcher_table.proofs.store.Store.intern.Goals as goal

pub raise-requires-clause-live : goal.raise-requires-clause-live
raise-requires-clause-live c =
    c.requires.stands.indexed.found c.in-Some.slot c.args.shared (sym c.find.ensures ∙ c.in-Some.is)
