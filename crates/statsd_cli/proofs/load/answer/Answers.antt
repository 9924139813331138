-- The whole session is left at the beginning; a frame that is served was answered and counted.
use Rattle.statsd_cli.proofs.LoadLemmas.{begins_under_way, served_under_way}
use Rattle.statsd_cli.proofs.load.answer.Goals as goal

pub frames-init : goal.frames-init
frames-init g c =
    begins_under_way _ _ _ _ c.new-session.ensures.whole c.new-session.ensures.good c.new-session.ensures.few
    c.new-hub.ensures.stands

pub frames-preserved : goal.frames-preserved
frames-preserved g c =
    let way = c.frames.invariant in
    served_under_way _ _ _ _ _ way c.in-Some.frame _ c.in-Some.ensures c.in_ok-frame.frame c.in_ok-frame.ensures _
    c.in_ok-reply.reply c.with-totals.result (c.in_ok-reply.ensures.serves way.answered way.stands)
    c.with-totals.ensures.with c.with-totals.ensures.bound
