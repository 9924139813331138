-- What is noted, with what is still to come, is what the call notes.
use Rattle.std.proofs.Common.{◌≡◌, ℕ, ◌==◌, ◌||◌, drop}
use Rattle.std.specs.Prelude.{◌&&◌}
use Rattle.std.specs.List.{list_any}
use Rattle.id_notes.specs.Noted.{is_named, names_under, HasNoEmptyList}
use Rattle.id_notes.proofs.notes.Notes.add.Given as goal

abbrev pub invariant-loop-id : goal.invariant-loop-id
invariant-loop-id g l = record {
  under : (id : ℕ) (other : g.row.N.Denot) → (is_named g.N.PartialEq.eq other (names_under l.self id)
      || (g.N.PartialEq.eq other l.name && list_any (λ heard. heard == id) (drop l.id-index l.id-items)))
      ≡ (is_named g.N.PartialEq.eq other (names_under l.fn.self id)
      || (g.N.PartialEq.eq other l.name && list_any (λ heard. heard == id) l.hearing.ids));
  for_all : l.self.for_all ≡ l.fn.self.for_all;
  none_empty : HasNoEmptyList l.fn.self → HasNoEmptyList l.self;
}
