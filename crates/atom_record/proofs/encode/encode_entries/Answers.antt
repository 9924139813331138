-- The spelling of one more entry comes after those of the others.
use Rattle.atom_record.specs.AtomSpelling.{entry_bytes}
use Rattle.atom_record.proofs.LoopLemmas.{adds_one, adds_all}
use Rattle.atom_record.proofs.encode.encode_entries.Goals as goal

pub loop-entry-preserved : goal.loop-entry-preserved
loop-entry-preserved c =
    adds_one c.args.entries.now c.loop-entry.entry-index c.entry-item.result c.loop-entry-test.true c.entry-item.is
    entry_bytes _ _ _ c.loop-entry.invariant c.in_ok-encode_entry.ensures

pub returns : goal.returns
returns c = adds_all c.args.entries.now c.loop-entry.entry-index c.loop-entry-test.false entry_bytes _ _
    c.loop-entry.invariant
