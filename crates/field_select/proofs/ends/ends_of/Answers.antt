use Rattle.std.proofs.Common.{ℕ, drop, ◌+◌, sym, subst, arith}
use Rattle.std.proofs.lemmas.List.{length-replicate}
use Rattle.field_select.specs.LeafValues.{field_indexes}
use Rattle.field_select.specs.FieldEnds.{end_index}
use Rattle.field_select.proofs.EndTableLemmas.{AreEnds, none_noted, entry_noted}
use Rattle.field_select.proofs.ends.ends_of.Goals as goal

-- before the first entry
pub loop-entry-init : goal.loop-entry-init
loop-entry-init c = record { long = length-replicate {A = ℕ} 256 0; nearest = none_noted c.args.end c.args.entries.now }

-- one more entry is noted
pub loop-entry-preserved : goal.loop-entry-preserved
loop-entry-preserved c =
    let wanted : ℕ → ℕ = λ field. end_index c.args.end (field_indexes field c.args.entries.now) in
    let nearest =
    entry_noted c.args.end c.loop-entry.ends c.args.entries.now c.entry-item.result c.loop-entry.entry-index wanted
    c.loop-entry-test.true c.entry-item.is c.loop-entry.invariant.long (omega arith) c.loop-entry.invariant.nearest in
    record {
      long = c.type_inv.ends;
      nearest = subst (λ ends. AreEnds c.args.end ends (drop (c.loop-entry.entry-index + 1) c.args.entries.now) wanted)
          (sym c.note_index.ensures) nearest;
    }
