-- The slice by the state at the place, if there is one.
use Rattle.std.proofs.Common.{◌≡◌, ◌∙◌, ◌++◌, ◌∷◌, [], Some, length, refl, sym, ap, append-nil, arith, SFits, w32, rules}
use Rattle.std.proofs.lemmas.Int.{to_z-of_z}
use Rattle.std.proofs.lemmas.Option.{slice_get_read, slice_get_past}
use Rattle.std.proofs.lemmas.Result.{on_ok_weaker}
use Rattle.std.specs.Prelude.{slice_get}
use Rattle.state_slicer.specs.Slices.{slice_of}
use Rattle.client_engine.proofs.SliceLemmas.{slice_there, slice_past}
use Rattle.client_engine.proofs.slices.add_slice.Goals as goal

-- the state's slice
pub returns-in_ok-state_key_into-in-Some : goal.returns-in_ok-state_key_into-in-Some
returns-in_ok-state_key_into-in-Some g c = λ log stands.
    let states = c.args.brought.now.states.now in
    let by = c.args.by.now in
    let reading = g.A.Asked.reading c.args.asked.now in
    let state = c.in-Some.state.now in
    let found = c.in-Some.ensures.lookup in
    let within = found.0 in
    let there : slice_get states by.state ≡ Some state =
    slice_get_read states (length states) by.state state refl (grind (arith, within)) found.1 in
    let value = c.value.ensures.answers log stands in
    let fits : SFits w32 c.value.result = search rules in
    let same = to_z-of_z w32 c.value.result fits in
    on_ok_weaker c.push.result (λ added. added
    ∙ ap (λ l. c.args.shown.now ++ l) (ap (λ s. s ∷ []) (c.slice.ensures ∙ ap (slice_of state) (same ∙ value))
    ∙ slice_there states log reading by state c.state_key_into.new.key there c.in_ok-state_key_into-in-Some.ensures))
    c.push.ensures.added

-- no state, no slice
pub returns-in-None : goal.returns-in-None
returns-in-None g c = λ log stands.
    sym (append-nil c.args.shown.now)
    ∙ ap (λ l. c.args.shown.now ++ l)
    (slice_past c.args.brought.now.states.now log (g.A.Asked.reading c.args.asked.now) c.args.by.now
    (slice_get_past c.args.brought.now.states.now c.args.by.now.state c.in-None.ensures.lookup.3))
