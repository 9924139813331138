-- The counts are those of the slots, what is noted is as it should be, and the table is held as before, also where
-- memory is wanting.
use Rattle.std.proofs.Common.{arith, ℕ, ℤ, refl, ◌∙◌, subst}
use Rattle.std.proofs.lemmas.Grind.{merely}
use Rattle.std.proofs.lemmas.Result.{on_ok_weaker}
use Rattle.matcher_table.specs.Truths.{HaveRisen}
use Rattle.matcher_table.specs.Contents.{contents_of}
use Rattle.held_slots.proofs.TruthLaws.{table_sound}
use Rattle.hub_core.specs.LoggedFrames.{shown_of, logged_frame}
use Rattle.hub_core.specs.NotedLives.{noted_for}
use Rattle.hub_core.specs.Sleeping.{moment_of_clock}
use Rattle.hub_core.proofs.HeldLemmas.{held-kept}
use Rattle.hub_core.proofs.EvaluationLemmas.{evaluated_held, asked_are}
use Rattle.hub_core.proofs.KeptLemmas.{kept_named}
use Rattle.hub_core.proofs.LastReportLemmas.{keeps_held}
use Rattle.hub_core.proofs.LogLemmas.{all_logs, ask_by}
use Rattle.hub_core.proofs.NotedLemmas.{lives_noted, noted_kept, noted_apart}
use Rattle.hub_core.proofs.TableLemmas.{table_held}
use Rattle.hub_core.proofs.UnheardLemmas.{none_logs, none_risen, none_ask}
use Rattle.hub_core.proofs.lives.Lives.log.Goals as goal

-- where nobody hears the frame, all is as it was
pub returns-then-is_unheard-clause-slots : goal.returns-then-is_unheard-clause-slots
returns-then-is_unheard-clause-slots g c =
    none_logs c.args.coming.now.frame.now c.args.self.now.slots.entries (c.is_unheard.ensures c.if-is_unheard.true)
    g.J.Judge.says (moment_of_clock c.args.coming.now.before) c.args.coming.now.states.now

pub returns-then-is_unheard-clause-ticks : goal.returns-then-is_unheard-clause-ticks
returns-then-is_unheard-clause-ticks g c =
    none_risen c.args.coming.now.frame.now c.args.self.now.slots.entries (c.is_unheard.ensures c.if-is_unheard.true)
    (g.J.Judge.ticks c.args.judge.now)

pub returns-then-is_unheard-clause-asks : goal.returns-then-is_unheard-clause-asks
returns-then-is_unheard-clause-asks g c =
    none_ask g.J.Judge.says (shown_of c.args.coming.now) c.args.self.now.slots.entries c.args.asks.now

pub returns-then-is_unheard-clause-configs : goal.returns-then-is_unheard-clause-configs
returns-then-is_unheard-clause-configs g c = λ name. refl

pub log_heard-requires-clause-held : goal.log_heard-requires-clause-held
log_heard-requires-clause-held g c =
    (evaluated_held g.J.Judge.says (contents_of c.args.self.now.table) (contents_of c.evaluate.new.table)
    c.args.coming.now.frame.now c.args.self.now.slots.entries c.evaluate.ensures.evaluates
    (table_held c.args.self.now)).all

pub log_heard-requires-clause-apart : goal.log_heard-requires-clause-apart
log_heard-requires-clause-apart g c =
    noted_apart c.args.self.now.notes c.args.self.now.slots.entries (lives_noted c.args.self.now)

pub invariant_of-self : goal.invariant_of-self
invariant_of-self g c =
    let table = contents_of c.evaluate.new.table in
    let kept = c.log_heard.ensures.kept in
    let olds = c.args.self.now.slots.entries in
    let news = c.log_heard.new.slots.entries in
    let held = evaluated_held g.J.Judge.says (contents_of c.args.self.now.table) table c.args.coming.now.frame.now olds
    c.evaluate.ensures.evaluates (table_held c.args.self.now) in
    let same = λ (uid : ℤ). held-kept uid olds news kept.names in
    let noted = noted_kept c.args.self.now.notes olds news kept (lives_noted c.args.self.now) in
    record {
      counted = λ uid. same uid ∙ c.args.self.now.counted uid;
      few = λ uid. omega (arith, same uid, c.args.self.now.few uid);
      above_zero = c.args.self.now.above_zero;
      noted = merely noted;
      named = kept_named olds news kept c.args.self.now.named;
      held = merely (keeps_held table olds news kept held);
    }

pub returns-clause-slots : goal.returns-clause-slots
returns-clause-slots g c =
    let before = contents_of c.args.self.now.table in
    let table = contents_of c.evaluate.new.table in
    let olds = c.args.self.now.slots.entries in
    on_ok_weaker c.log_heard.result
    (all_logs g.J.Judge.says before (logged_frame table (shown_of c.args.coming.now))
    (table_sound c.evaluate.new.table) c.evaluate.ensures.evaluates olds
    (evaluated_held g.J.Judge.says before table c.args.coming.now.frame.now olds c.evaluate.ensures.evaluates
    (table_held c.args.self.now)).all
    c.args.self.now.notes c.log_heard.new.slots.entries (lives_noted c.args.self.now))
    c.log_heard.ensures.shown

pub returns-clause-configs : goal.returns-clause-configs
returns-clause-configs g c = c.log_heard.ensures.kept.configs

pub returns-clause-ticks : goal.returns-clause-ticks
returns-clause-ticks g c =
    on_ok_weaker c.log_heard.result
    (λ shown. subst (λ (n : ℕ). HaveRisen n (g.J.Judge.ticks c.args.judge.now) (g.J.Judge.ticks c.evaluate.new.judge))
    (asked_are (contents_of c.args.self.now.table) c.args.coming.now.frame.now c.args.self.now.slots.entries
    (table_sound c.args.self.now.table) (table_held c.args.self.now)) c.evaluate.ensures.asked)
    c.log_heard.ensures.shown

-- all ask no more than they may
pub returns-clause-asks : goal.returns-clause-asks
returns-clause-asks g c =
    let before = contents_of c.args.self.now.table in
    let table = contents_of c.evaluate.new.table in
    let frame = c.args.coming.now.frame.now in
    let olds = c.args.self.now.slots.entries in
    ask_by g.J.Judge.says before (logged_frame table (shown_of c.args.coming.now))
    (table_sound c.evaluate.new.table) c.evaluate.ensures.evaluates olds
    (evaluated_held g.J.Judge.says before table frame olds c.evaluate.ensures.evaluates
    (table_held c.args.self.now)).all
    (noted_for c.args.self.now.notes frame) c.args.asks.now c.log_heard.new.asks c.log_heard.ensures.asks
