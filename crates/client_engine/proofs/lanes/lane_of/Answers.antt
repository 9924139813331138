use Rattle.metric_meaning.specs.ValueLeaves.{ValueLeaf}
use Rattle.client_engine.proofs.CountsLemmas.{counts_sized}
use Rattle.client_engine.proofs.WatchesLemmas.{watches_begin}
use Rattle.client_engine.proofs.lanes.lane_of.Goals as goal

-- a sound metric that counts has buckets
pub begin-requires-clause-sized : goal.begin-requires-clause-sized
begin-requires-clause-sized c =
    counts_sized c.requires.tracked.linked c.args.metric.now c.in-Count.overflow c.requires.tracked.sound c.in-Count.is

-- the watches of a metric that counts are those of the alerts at its place
pub returns-in_ok-watches-in-Count-clause-stands : goal.returns-in_ok-watches-in-Count-clause-stands
returns-in_ok-watches-in-Count-clause-stands c = λ installed is here.
    c.begin.ensures installed is.base
    (watches_begin installed c.args.metric.now c.args.place c.args.opening.now.alerts.now
    c.in_ok-watches-in-Count.watches.items
    is.alerts here (counts_sized c.requires.tracked.linked c.args.metric.now c.in-Count.overflow
    c.requires.tracked.sound
    c.in-Count.is).0 c.in_ok-watches-in-Count.ensures)

-- the values of a metric are those at its leaf
pub returns-in-PushedValue-clause-stands : goal.returns-in-PushedValue-clause-stands
returns-in-PushedValue-clause-stands c = λ installed is here.
    let source : ValueLeaf = record { atom_id = c.in-PushedValue.atom_id; leaf = c.in-PushedValue.leaf } in
    c.begin-in-PushedValue.ensures installed source is.base c.in-PushedValue.is

-- so they are of pulled ones
pub returns-in_ok-lane-in-PulledValue-clause-stands : goal.returns-in_ok-lane-in-PulledValue-clause-stands
returns-in_ok-lane-in-PulledValue-clause-stands c = λ installed is here.
    let source : ValueLeaf = record { atom_id = c.in-PulledValue.atom_id; leaf = c.in-PulledValue.leaf } in
    c.in_ok-lane-in-PulledValue.ensures.stands installed source is c.in-PulledValue.is

-- the samples of a gauge are those of its fields
pub returns-in-PushedGauge-clause-stands : goal.returns-in-PushedGauge-clause-stands
returns-in-PushedGauge-clause-stands c = λ installed is here.
    c.begin-in-PushedGauge.ensures installed c.in-PushedGauge.fields is.base c.in-PushedGauge.is

-- so they are of a pulled one
pub returns-in_ok-lane-in-PulledGauge-clause-stands : goal.returns-in_ok-lane-in-PulledGauge-clause-stands
returns-in_ok-lane-in-PulledGauge-clause-stands c = λ installed is here.
    c.in_ok-lane-in-PulledGauge.ensures.stands installed c.in-PulledGauge.fields c.in-PulledGauge.trigger is
    c.in-PulledGauge.is

-- a sum of durations is sound where it is installed
pub returns-in-SumDuration-clause-stands : goal.returns-in-SumDuration-clause-stands
returns-in-SumDuration-clause-stands c = λ installed is here.
    c.begin-in-SumDuration.ensures installed is.base here.sound c.in-SumDuration.is

-- and so is a longest duration
pub returns-in-MaxSparse-clause-stands : goal.returns-in-MaxSparse-clause-stands
returns-in-MaxSparse-clause-stands c = λ installed is here.
    c.begin-in-MaxSparse.ensures installed is.base here.sound c.in-MaxSparse.is
