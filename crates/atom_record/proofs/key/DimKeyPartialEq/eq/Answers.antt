-- Keys are equal where what is kept of them is.
use Rattle.std.proofs.Common.{◌∙◌}
use Rattle.atom_record.proofs.SparseLemmas.{keys_alike, keys_apart}
use Rattle.atom_record.proofs.key.DimKeyPartialEq.eq.Goals as goal

pub returns-then-self-other : goal.returns-then-self-other
returns-then-self-other c =
    let one = c.self.inside in
    let other = c.other.inside in
    rw (← c.self.view_is, ← c.other.view_is) (c.eq-then-self-other.ensures
    ∙ keys_alike one.count other.count one.present.items other.present.items c.self.invariant c.other.invariant
    c.if-self-other.true)

pub returns-else-self-other : goal.returns-else-self-other
returns-else-self-other c =
    let one = c.self.inside in
    let other = c.other.inside in
    rw (← c.self.view_is, ← c.other.view_is) (keys_apart one.count other.count one.present.items other.present.items
    c.self.invariant c.other.invariant c.if-self-other.false)
