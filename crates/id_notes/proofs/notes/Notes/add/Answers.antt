-- The id is noted, and those after it are still to come.
use Rattle.std.proofs.Common.{◌∙◌, arith}
use Rattle.id_notes.specs.Noted.{is_named, names_under}
use Rattle.id_notes.proofs.AddedLemmas.{added_step}
use Rattle.id_notes.proofs.notes.Notes.add.Goals as goal

pub loop-id-preserved : goal.loop-id-preserved
loop-id-preserved g c = record {
  under = λ id other.
      added_step c.as_slice-id-items.result.now c.loop-id.id-index id
      (is_named g.N.PartialEq.eq other (names_under c.loop-id.self id))
      (is_named g.N.PartialEq.eq other (names_under c.note.new.self id)) (g.N.PartialEq.eq other c.args.name) _
      (omega arith) (c.in_ok-note.ensures.under id other) (c.loop-id.invariant.under id other);
  for_all = c.in_ok-note.ensures.for_all ∙ c.loop-id.invariant.for_all;
  none_empty = λ kept. c.note.ensures.none_empty (c.loop-id.invariant.none_empty kept);
}
