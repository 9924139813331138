-- The lane has what stands after the number of its kind.
use Rattle.std.proofs.Common.{sym, subst}
use Rattle.std.proofs.lemmas.Result.{err_from_is_err_and}
use Rattle.flat_form.specs.Flat.{IsBuilt}
use Rattle.flat_form.proofs.VariantLaws.{variant_built, variant_fails}
use Rattle.client_engine.specs.SavedLanes.{kind_number, kind_items, metric_lane_items, IsMetricLane}
use Rattle.client_engine.proofs.saved.kinds.build_kind.Goals as goal

-- no such thing stands after it
pub returns-in_err-held : goal.returns-in_err-held
returns-in_err-held g c =
    let k = g.K.LaneKind in
    let laws = g.met.K.LaneKind in
    let p = err_from_is_err_and c.from_residual.result c.from_residual.ensures.1 in
    rw (p.1, p.2) (variant_fails IsMetricLane kind_number kind_items c.args.items.now c.args.place k.number
    c.args.middle c.requires g.K.Flat.valid g.K.Flat.flat k.wrap laws.as_kind laws.as_items laws.is_lane laws.of_kind
    c.in_err-held.field-0.0 c.in_err-held.ensures)

-- it has this
pub returns : goal.returns
returns g c =
    let k = g.K.LaneKind in
    let laws = g.met.K.LaneKind in
    subst (λ lane. IsBuilt IsMetricLane metric_lane_items c.args.items.now c.args.place lane c.in_ok-held.next)
    (sym c.into_lane.ensures)
    (variant_built IsMetricLane kind_number kind_items c.args.items.now c.args.place k.number c.args.middle c.requires
    g.K.Flat.valid g.K.Flat.flat k.wrap laws.as_kind laws.as_items laws.is_lane laws.of_kind c.in_ok-held.held
    c.in_ok-held.next c.in_ok-held.ensures)
