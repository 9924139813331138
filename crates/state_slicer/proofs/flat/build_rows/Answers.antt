-- A row after those that were built is new, or its key is there.
use Rattle.std.proofs.Common.{sym, ◌∙◌, w32}
use Rattle.std.proofs.lemmas.Bool.{true≢false}
use Rattle.std.proofs.lemmas.Int.{to_z-of_z}
use Rattle.std.proofs.lemmas.Result.{err_from_is_err_and}
use Rattle.flat_form.specs.Flat.{Anything, dims_items}
use Rattle.dim_table.proofs.TableItemsLemmas.{rows_none, row_fails, key_twice}
use Rattle.state_slicer.specs.StateItems.{state_items, FitsState}
use Rattle.state_slicer.proofs.StateItemsLemmas.{row_told}
use Rattle.state_slicer.proofs.flat.build_rows.Goals as goal

-- no row is built yet
pub loop-turn-init : goal.loop-turn-init
loop-turn-init c =
    rows_none Anything FitsState dims_items state_items c.args.empty c.args.items.now c.args.place c.requires.empty

-- the next row has a fault
pub returns-in_err-key : goal.returns-in_err-key
returns-in_err-key c =
    let p = err_from_is_err_and c.from_residual.result c.from_residual.ensures.1 in
    rw (p.1, p.2) (row_fails Anything FitsState dims_items state_items c.args.empty c.args.items.now c.args.place
    c.loop-turn._turn c.loop-turn.states c.loop-turn.next c.loop-turn.invariant c.args.count c.loop-turn-test.true
    c.in_err-key.field-0.0 c.in_err-key.ensures)

-- the key is there
pub returns-then-has : goal.returns-then-has
returns-then-has c =
    key_twice Anything FitsState dims_items state_items c.args.empty c.args.items.now c.args.place c.loop-turn._turn
    c.loop-turn.states c.loop-turn.next c.loop-turn.invariant c.in_ok-key.key c.in_ok-key.state c.in_ok-key.after
    c.in_ok-key.ensures c.args.count c.loop-turn-test.true (c.has.ensures.0 c.if-has.true)

-- the key is new
pub loop-turn-preserved : goal.loop-turn-preserved
loop-turn-preserved c =
    row_told c.args.empty c.args.items.now c.args.place c.loop-turn._turn c.loop-turn.states c.loop-turn.next
    c.loop-turn.invariant c.in_ok-key.key c.in_ok-key.state c.in_ok-key.after c.in_ok-key.ensures c.args.count
    c.loop-turn-test.true c.requires.fits (λ there. true≢false (sym (c.has.ensures.1 there) ∙ c.if-has.false))
    c.append.new.self _ (to_z-of_z w32 c.in_ok-key.state c.in_ok-key.ensures.is_valid.1) c.in_ok-append.ensures.told
