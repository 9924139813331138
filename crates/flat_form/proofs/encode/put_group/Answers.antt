use Rattle.std.proofs.Common.{◌∷◌}
use Rattle.std.specs.Int.{w32, w64, to_le_bytes}
use Rattle.std.proofs.lemmas.Result.{on_ok_weaker}
use Rattle.flat_form.proofs.AddedLemmas.{adds_two}
use Rattle.flat_form.proofs.encode.put_group.Goals as goal

-- the group after the atom's id
pub returns : goal.returns
returns c =
    on_ok_weaker c.put_u64.result (λ e. adds_two _ _ _ (2 ∷ to_le_bytes w32 c.args.atom_id)
    (to_le_bytes w64 c.args.bits) c.in_ok-put_kind.ensures e) c.put_u64.ensures
