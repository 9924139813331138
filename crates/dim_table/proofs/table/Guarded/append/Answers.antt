-- A key without a position is new: it gets a row after the others, or counts as dropped.
use Rattle.std.proofs.Common.{Contains, ap, ◌≢◌, arith, inr, length, refl}
use Rattle.std.proofs.lemmas.Bool.{false≢true}
use Rattle.dim_table.specs.Table.{keys}
use Rattle.dim_table.proofs.KeyLemmas.{missing, inserted}
use Rattle.dim_table.proofs.table.Guarded.append.Goals as goal

pub returns-then-is_full-clause-answer : goal.returns-then-is_full-clause-answer
returns-then-is_full-clause-answer g c = record {
  absent = missing _ g.met.K.Exact.exact _ _ c.requires;
  full = c.if-is_full.ensures.0 refl;
  added = c.turn_away.ensures;
}

pub returns-clause-answer : goal.returns-clause-answer
returns-clause-answer g c =
    let absent : ¬ Contains (keys c.args.self.now) c.args.key = missing _ g.met.K.Exact.exact _ _ c.requires in
    let unfilled : length c.args.self.now.rows ≢ c.args.self.now.bound =
    λ full. false≢true (c.if-is_full.ensures.1 full) in
    let nowhere = rw (← c.self.view_is) at c.requires in
    let entries =
    inserted g.K.PartialEq.eq g.met.K.Exact.exact c.self.inside.rows c.insert.new.self.entries c.args.key c.args.fresh
    nowhere c.in_ok-insert.ensures.entries in
    rw (← c.self.view_is)
    (inr (record {
      absent = rw (← c.self.view_is) at absent;
      room = let room = rw (← c.self.view_is) at unfilled in omega (arith, room, c.self.invariant.within);
      last = c.len-place.ensures.len;
      added = ap (λ es. record { rows = es; bound = c.self.inside.bound; dropped = c.self.inside.dropped }) entries;
    }))
