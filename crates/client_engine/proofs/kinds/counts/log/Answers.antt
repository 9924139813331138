-- The crossing, and then the key.
use Rattle.std.proofs.Common.{◌<◌, sym, ap, subst}
use Rattle.std.proofs.lemmas.Result.{on_ok_weaker}
use Rattle.std.specs.Option.{option_copied}
use Rattle.bucket_meaning.specs.Limits.{time_limit}
use Rattle.client_engine.specs.Bringing.{handed_with}
use Rattle.client_engine.specs.CountsAlong.{WatchedLane}
use Rattle.client_engine.proofs.CountsLemmas.{counts_log}
use Rattle.metric_meaning.specs.Touched.{names_atom_itself}
use Rattle.client_engine.specs.Questions.{touched_questions}
use Rattle.client_engine.proofs.QuestionsLemmas.{arrival_few}
use Rattle.client_engine.proofs.kinds.counts.log.Goals as goal

pub returns-clause-logs : goal.returns-clause-logs
returns-clause-logs g c =
    let taker = c.args.taker.now in
    let brought = c.args.brought.now in
    let logs = rw (c.comes_by_pull-is_pull.ensures, c.time_of-at.ensures) at c.log_of.ensures in
    let ends = rw (c.comes_by_pull-is_pull.ensures, c.time_of-at.ensures) at c.tell_ends.ensures in
    let arrives = rw (c.time_of-at.ensures) at c.in_ok-tell_key.ensures in
    let new : WatchedLane = record { lane = c.log_of.new.self; watches = c.tell_key.new.watches.items } in
    on_ok_weaker c.log_of.result
    (rw (← c.lane.view_is) (λ gets. counts_log (handed_with c.args.conditions.now brought) taker.metric.now
    brought.frame.now brought.matched.now
    (record { lane = c.lane.inside.lane; watches = c.lane.inside.watches.items }) new c.tell_ends.new.watches.items
    (option_copied c.in_ok-key.key) taker.is_active c.in_ok-key.ensures.key gets ends arrives))
    logs

-- the frame comes while there is time
pub tell_key-requires : goal.tell_key-requires
tell_key-requires g c = record {
  in_time = subst (λ at. at < time_limit) (sym c.time_of-at.ensures) c.requires.matched.timely;
}

-- an atom that arrives costs one question
pub returns-clause-asks : goal.returns-clause-asks
returns-clause-asks g c = λ installed steps frame has may.
    let metric = c.args.taker.now.metric.now in
    let truths = c.args.brought.now.matched.now in
    arrival_few installed steps c.args.brought.now.frame.now truths metric
    (ap (λ kind. names_atom_itself (record metric { kind = kind }) truths) has.counts)
    (ap (λ kind. touched_questions installed steps (record metric { kind = kind })) has.counts) c.args.asks.now
    c.arrival.new.asks c.arrival.ensures.asks
