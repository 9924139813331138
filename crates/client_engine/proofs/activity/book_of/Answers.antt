-- The timers of a sound metric are those of a book, and none was started.
use Rattle.std.proofs.Common.{◌∙◌, All, sym, ap, subst}
use Rattle.metric_activation.specs.Timers.{AreTimers, IsIdle}
use Rattle.client_engine.specs.Activity.{timers_of}
use Rattle.client_engine.proofs.ActivityLemmas.{sound_timers, idle_timers, first_acts}
use Rattle.client_engine.proofs.activity.book_of.Goals as goal

pub new-requires-clause-sound : goal.new-requires-clause-sound
new-requires-clause-sound c =
    let tracked = c.requires.tracked in
    subst AreTimers (sym (c.in_ok-timers.ensures ∙ ap timers_of c.as_slice.ensures))
    (sound_timers tracked.linked c.args.metric.now tracked.sound)

pub new-requires-clause-idle : goal.new-requires-clause-idle
new-requires-clause-idle c =
    let tracked = c.requires.tracked in
    subst (All IsIdle) (sym (c.in_ok-timers.ensures ∙ ap timers_of c.as_slice.ensures))
    (idle_timers tracked.linked c.args.metric.now tracked.sound)

pub returns : goal.returns
returns c =
    first_acts c.args.metric.now c.new.result
    (c.new.ensures.timers ∙ c.in_ok-timers.ensures ∙ ap timers_of c.as_slice.ensures) c.new.ensures.stands
