-- A lane that gets the frame takes the run, by the metric's kind.
use Rattle.std.proofs.lemmas.Result.{on_ok_weaker}
use Rattle.bucket_clock.specs.Clock.{frame_at}
use Rattle.client_engine.specs.declared.lanes.MetricLane.TheVariants.{Counts, Values, PulledValues, Gauges, PulledGauges, Events, Sums, Longest}
use Rattle.client_engine.proofs.AloneLemmas.{counts_run, values_run, pulled_values_run, gauges_run, pulled_gauges_run, events_run, sums_run, longest_run}
use Rattle.client_engine.proofs.CaughtUpLemmas.{lane_takes}
use Rattle.client_engine.proofs.lanes.MetricLane.cross.Goals as goal

pub returns-in-Counts : goal.returns-in-Counts
returns-in-Counts c =
    let moment = frame_at c.args.at c.args.is_pull in
    let lane = c.in-Counts.lane in
    let new = c.cross.new.self in
    on_ok_weaker c.cross.result
    (λ crosses metric. lane_takes metric moment c.args.self.now (Counts lane) (Counts new) c.in-Counts.is
    (counts_run metric moment lane new crosses)) c.cross.ensures

pub returns-in-Values : goal.returns-in-Values
returns-in-Values c =
    let moment = frame_at c.args.at c.args.is_pull in
    let lane = c.in-Values.lane in
    let new = c.cross-in-Values.new.self in
    on_ok_weaker c.cross-in-Values.result
    (λ crosses metric. lane_takes metric moment c.args.self.now (Values lane) (Values new) c.in-Values.is
    (values_run metric moment lane new crosses)) c.cross-in-Values.ensures

pub returns-in-PulledValues : goal.returns-in-PulledValues
returns-in-PulledValues c =
    let moment = frame_at c.args.at c.args.is_pull in
    let lane = c.in-PulledValues.lane in
    let new = c.cross-in-PulledValues.new.self in
    on_ok_weaker c.cross-in-PulledValues.result
    (λ crosses metric. lane_takes metric moment c.args.self.now (PulledValues lane)
    (PulledValues new) c.in-PulledValues.is
    (pulled_values_run metric moment lane new crosses)) c.cross-in-PulledValues.ensures

pub returns-in-Gauges : goal.returns-in-Gauges
returns-in-Gauges c =
    let moment = frame_at c.args.at c.args.is_pull in
    let lane = c.in-Gauges.lane in
    let new = c.cross-in-Gauges.new.self in
    on_ok_weaker c.cross-in-Gauges.result
    (λ crosses metric. lane_takes metric moment c.args.self.now (Gauges lane) (Gauges new) c.in-Gauges.is
    (gauges_run metric moment lane new crosses)) c.cross-in-Gauges.ensures

pub returns-in-PulledGauges : goal.returns-in-PulledGauges
returns-in-PulledGauges c =
    let moment = frame_at c.args.at c.args.is_pull in
    let lane = c.in-PulledGauges.lane in
    let new = c.cross-in-PulledGauges.new.self in
    on_ok_weaker c.cross-in-PulledGauges.result
    (λ crosses metric. lane_takes metric moment c.args.self.now (PulledGauges lane)
    (PulledGauges new) c.in-PulledGauges.is
    (pulled_gauges_run metric moment lane new crosses)) c.cross-in-PulledGauges.ensures

pub returns-in-Events : goal.returns-in-Events
returns-in-Events c =
    let moment = frame_at c.args.at c.args.is_pull in
    let lane = c.in-Events.lane in
    let new = c.cross-in-Events.new.self in
    on_ok_weaker c.cross-in-Events.result
    (λ crosses metric. lane_takes metric moment c.args.self.now (Events lane) (Events new) c.in-Events.is
    (events_run metric moment lane new crosses)) c.cross-in-Events.ensures

pub returns-in-Sums : goal.returns-in-Sums
returns-in-Sums c =
    let moment = frame_at c.args.at c.args.is_pull in
    let lane = c.in-Sums.lane in
    let new = c.cross-in-Sums.new.self in
    on_ok_weaker c.cross-in-Sums.result
    (λ crosses metric. lane_takes metric moment c.args.self.now (Sums lane) (Sums new) c.in-Sums.is
    (sums_run metric moment lane new crosses)) c.cross-in-Sums.ensures

pub returns-in-Longest : goal.returns-in-Longest
returns-in-Longest c =
    let moment = frame_at c.args.at c.args.is_pull in
    let lane = c.in-Longest.lane in
    let new = c.cross-in-Longest.new.self in
    on_ok_weaker c.cross-in-Longest.result
    (λ crosses metric. lane_takes metric moment c.args.self.now (Longest lane) (Longest new) c.in-Longest.is
    (longest_run metric moment lane new crosses)) c.cross-in-Longest.ensures
