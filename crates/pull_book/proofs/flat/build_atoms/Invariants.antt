-- As many atoms as turns are built.
use Rattle.atom_record.specs.AtomSound.{HasNoFault}
use Rattle.flat_form.specs.Flat.{AreBuilt}
use Rattle.pull_book.specs.PullItems.{payload_items}
use Rattle.pull_book.proofs.flat.build_atoms.Given as goal

abbrev pub invariant-loop-turn : goal.invariant-loop-turn
invariant-loop-turn l = AreBuilt HasNoFault payload_items l.items l.place l._turn l.atoms l.next
