-- One leaf more is fed.
use Rattle.std.proofs.Common.{◌<◌, length, get_or, take_all, arith, sym, ap, ◌∙◌}
use Rattle.std.specs.Prelude.{fold}
use Rattle.std.specs.List.{flat_map}
use Rattle.std.specs.Hash as fed
use Rattle.std.proofs.lemmas.Option.{slice_get-get_or, get_or_from_slice_get}
use Rattle.atom_record.specs.declared.value.Leaf.{Leaf}
use Rattle.atom_record.specs.declared.value.Leaf.TheVariants.{Missing}
use Rattle.atom_record.specs.Hashing.{leaf_fed}
use Rattle.atom_record.proofs.FedLemmas.{fed_more}
use Rattle.atom_record.proofs.key.DimKeyHash.hash.Goals as goal

pub loop-at-init : goal.loop-at-init
loop-at-init g c =
    c.write_usize-2.ensures ∙ ap (λ size. g.H.Hasher.write c.args.state.now (fed.le_bytes 8 size)) c.len.ensures

pub loop-at-preserved : goal.loop-at-preserved
loop-at-preserved g c =
    let write = g.H.Hasher.write in
    let leaves = c.args.self.now in
    let at = c.loop-at.at in
    let leaf : Leaf = get_or leaves at Missing in
    let within : at < length leaves = omega (arith, c.loop-at-test.true, c.len-at-end.ensures) in
    c.hash_leaf.ensures
    ∙ ap (λ state. fold write state (leaf_fed leaf)) c.loop-at.invariant
    ∙ sym (fed_more write leaf_fed (write c.args.state.now (fed.le_bytes 8 (length leaves))) leaves at leaf within
    (sym (get_or_from_slice_get leaves at leaf leaf (slice_get-get_or leaves at Missing within))))

pub returns : goal.returns
returns g c =
    let write = g.H.Hasher.write in
    let leaves = c.args.self.now in
    c.loop-at.invariant
    ∙ ap (λ l. fold write (write c.args.state.now (fed.le_bytes 8 (length leaves))) (flat_map leaf_fed l))
    (take_all c.loop-at.at leaves (omega (arith, c.loop-at-test.false, c.len-at-end.ensures)))
