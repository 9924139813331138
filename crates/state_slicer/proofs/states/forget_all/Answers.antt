-- Row after row is blank.
use Rattle.std.proofs.Common.{◌≡◌, ◌+◌, ◌<◌, suc, length, slice_get, sym, ap, ◌∙◌, arith}
use Rattle.std.specs.Map.{values_of}
use Rattle.dim_table.specs.Table.{with_value_at}
use Rattle.state_slicer.specs.StateTables.{blank}
use Rattle.state_slicer.proofs.StampLemmas.{blank_front, blank_front-none, blank_front-more, blank_front-all, blank_front-there}
use Rattle.state_slicer.proofs.states.forget_all.Goals as goal

pub loop-place-init : goal.loop-place-init
loop-place-init c = ap (λ rows. record c.args.table.now { rows = rows }) (sym (blank_front-none c.args.table.now.rows))

pub returns-in_default : goal.returns-in_default
returns-in_default c =
    let size = c.len-count.ensures.value in
    let turn = c.loop-place-test.true in
    let less : c.loop-place.place < length c.args.table.now.rows = omega (arith, size, turn) in
    absurd (blank_front-there c.loop-place.place c.args.table.now.rows less
    (c.in_default.ensures.value
    ∙ ap (λ t. slice_get (values_of t.rows) c.loop-place.place) c.loop-place.invariant))

pub loop-place-preserved : goal.loop-place-preserved
loop-place-preserved c =
    let size = c.len-count.ensures.value in
    let turn = c.loop-place-test.true in
    let less : c.loop-place.place < length c.args.table.now.rows = omega (arith, size, turn) in
    let next : suc c.loop-place.place ≡ c.loop-place.place + 1 = omega arith in
    ap (λ t. with_value_at t c.loop-place.place blank) c.loop-place.invariant
    ∙ ap (λ rows. record c.args.table.now { rows = rows })
    (blank_front-more c.loop-place.place c.args.table.now.rows less
    ∙ ap (λ n. blank_front n c.args.table.now.rows) next)

pub returns : goal.returns
returns c =
    let size = c.len-count.ensures.value in
    let turn = c.loop-place-test.false in
    let most = c.loop-place.auto.place-end in
    let all : c.loop-place.place ≡ length c.args.table.now.rows = omega (arith, size, turn, most) in
    c.loop-place.invariant
    ∙ ap (λ rows. record c.args.table.now { rows = rows })
    (ap (λ n. blank_front n c.args.table.now.rows) all ∙ blank_front-all c.args.table.now.rows)
