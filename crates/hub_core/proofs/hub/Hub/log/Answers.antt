-- The frame is told, shown and recorded, and the hub stands for the log with it.
use Rattle.std.proofs.Common.{◌≡◌, ◌++◌, ◌∷◌, [], sym, subst}
use Rattle.std.proofs.lemmas.Result.{on_ok_weaker}
use Rattle.state_slicer.specs.StateBooks.{StateBookStandsFor}
use Rattle.pull_book.specs.PullBooks.{PullBookStandsFor}
use Rattle.matcher_table.specs.Truths.{HaveRisen}
use Rattle.metric_meaning.specs.ShownFrames.{shown_as}
use Rattle.hub_meaning.specs.SessionLog.{log_frames}
use Rattle.hub_core.specs.HubStands.{judge_of}
use Rattle.hub_core.specs.LoggedFrames.{shown_frame}
use Rattle.hub_core.specs.Sleeping.{moment_of_clock}
use Rattle.hub_core.specs.SlotLogs.{AllLog}
use Rattle.hub_core.proofs.HubStandsLemmas.{hub_log}
use Rattle.hub_core.proofs.LogLemmas.{unheard_stay}
use Rattle.hub_core.proofs.LiveQuestionsLemmas.{hub_asks}
use Rattle.hub_core.proofs.hub.Hub.log.Goals as goal

-- the book of states has the frame before instances see it, and that of pulls after
pub returns-clause-stands : goal.returns-clause-stands
returns-clause-stands g c = λ frames h in_time.
    let log = log_frames frames in
    let frame = c.args.frame.now in
    let shown = c.shown.result.now in
    let shown_is : shown ≡ shown_as log frame = c.shown.ensures.shown log
    (subst (λ book. PullBookStandsFor book log)
    (sym c.in_ok-tell.ensures.pulls) h.books.pulls) in
    let told = c.in_ok-tell.ensures.states log h.books.states in
    let pulls = subst (λ book. PullBookStandsFor book log)
    (sym c.in_ok-tell.ensures.pulls) h.books.pulls in
    on_ok_weaker c.record.result
    (λ records. hub_log g.J.Judge.says c.args.self.now _ frames h frame shown in_time c.requires.faultless.timely
    c.after-self.ensures shown_is
    (record {
      states = subst (λ book. StateBookStandsFor book (log ++ frame ∷ [])) (sym c.record.ensures.states) told;
      pulls = records log pulls;
    })
    (subst (λ book. AllLog g.J.Judge.says (shown_frame (moment_of_clock c.args.self.now.clock) shown book)
    c.args.self.now.lives.slots.entries c.log.new.self.slots.entries)
    (sym c.record.ensures.states) c.in_ok-log.ensures.slots)
    c.log.ensures.counts c.log.ensures.configs)
    c.record.ensures.pulls

-- what is shown is worth as many questions as the frame
pub returns-clause-asked : goal.returns-clause-asked
returns-clause-asked g c =
    let rows = c.args.self.now.lives.slots.entries in
    on_ok_weaker c.record.result
    (λ records. subst (λ n. HaveRisen n (g.J.Judge.ticks (judge_of c.args.self.now)) (g.J.Judge.ticks c.log.new.judge))
    (c.shown.ensures.asked rows)
    c.in_ok-log.ensures.ticks)
    c.record.ensures.pulls

-- all that is live asks no more than its questions
pub returns-clause-questions : goal.returns-clause-questions
returns-clause-questions g c = λ frames h in_time.
    let log = log_frames frames in
    hub_asks g.J.Judge.says c.args.self.now frames c.shown.result.now c.tell.new.self.states c.args.frame.now
    c.args.asks.now c.log.new.asks in_time
    (c.shown.ensures.shown log (subst (λ book. PullBookStandsFor book log)
    (sym c.in_ok-tell.ensures.pulls) h.books.pulls))
    (c.in_ok-tell.ensures.states log h.books.states) h
    c.log.ensures.asks

-- also where memory is wanting
pub returns-in_err-log-clause-questions : goal.returns-in_err-log-clause-questions
returns-in_err-log-clause-questions g c = λ frames h in_time.
    let log = log_frames frames in
    hub_asks g.J.Judge.says c.args.self.now frames c.shown.result.now c.tell.new.self.states c.args.frame.now
    c.args.asks.now c.log.new.asks in_time
    (c.shown.ensures.shown log (subst (λ book. PullBookStandsFor book log)
    (sym c.in_ok-tell.ensures.pulls) h.books.pulls))
    (c.in_ok-tell.ensures.states log h.books.states) h
    c.log.ensures.asks

-- what doesn't hear the frame is as it was
pub returns-clause-asleep : goal.returns-clause-asleep
returns-clause-asleep g c =
    on_ok_weaker c.record.result
    (λ records. unheard_stay g.J.Judge.says
    (shown_frame (moment_of_clock c.args.self.now.clock) c.shown.result.now c.tell.new.self.states) c.args.frame.now
    c.args.self.now.lives.slots.entries c.log.new.self.slots.entries c.shown.ensures.heard c.in_ok-log.ensures.slots)
    c.record.ensures.pulls

-- the frame is lent, and comes back as the book of pulls leaves it
pub returns-clause-lent : goal.returns-clause-lent
returns-clause-lent g c = on_ok_weaker c.record.result (λ records. c.record.ensures.lent) c.record.ensures.pulls
