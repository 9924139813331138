-- The row of a key has its stamped state, and what is still known of it is the state.
use Rattle.std.proofs.Common.{◌≡◌, Contains, slice_get, Some, sym, subst, ap, ◌∙◌, arith, rules, to_z, of_z, w32}
use Rattle.std.proofs.lemmas.Int.{ints, to_z-of_z}
use Rattle.state_slicer.specs.StateTables.{current}
use Rattle.dim_table.specs.Table.{keys}
use Rattle.dim_table.proofs.KeyLemmas.{Contains-from_place}
use Rattle.state_slicer.proofs.StampLemmas.{keys-current, row_there, state_at}
use Rattle.state_slicer.proofs.states.IdStates.value.Goals as goal

pub returns-in_default-clause-there : goal.returns-in_default-clause-there
returns-in_default-clause-there c there =
    absurd (c.in_default.ensures.absent
    (subst (λ ks. Contains ks c.args.key.now)
    (ap keys (sym c.self.view_is) ∙ keys-current c.self.inside.resets c.self.inside.keys) there))

pub returns-in_default-pair-clause-there : goal.returns-in_default-pair-clause-there
returns-in_default-pair-clause-there c there =
    absurd (row_there c.self.inside.keys.rows c.in-Some.place c.args.key.now c.in-Some.ensures.there
    c.in_default-pair.ensures)

pub returns-clause-there : goal.returns-clause-there
returns-clause-there c there =
    let is = c.known_state.ensures in
    let known : to_z w32 (of_z w32 c.known_state.result) ≡ current c.self.inside.resets c.in-Some-pair.stamped.now =
    first_of (search (rules, is), search (arith, ints, to_z-of_z, is)) in (
      c.in-Some.place,
      ap (λ table. slice_get table.rows c.in-Some.place) (sym c.self.view_is)
          ∙ state_at c.self.inside.resets c.self.inside.keys c.in-Some.place c.args.key.now c.in-Some-pair._key.now
          c.in-Some-pair.stamped.now (sym c.in-Some-pair.ensures) c.in-Some.ensures.there
          ∙ ap (λ s. Some (c.args.key.now, s)) (sym known),
    )

pub returns-clause-absent : goal.returns-clause-absent
returns-clause-absent c absent =
    absurd (absent
    (subst (λ ks. Contains ks c.args.key.now)
    (sym (ap keys (sym c.self.view_is) ∙ keys-current c.self.inside.resets c.self.inside.keys))
    (Contains-from_place (keys c.self.inside.keys) c.in-Some.place c.args.key.now c.in-Some.ensures.there)))
