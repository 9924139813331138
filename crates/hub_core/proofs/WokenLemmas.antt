-- What woke up for a frame or for a report.
use Rattle.std.proofs.Common.{◌≡◌, ℕ, Bool, List, sym, ap, subst}
use Rattle.bucket_meaning.specs.Ends.{Moment}
use Rattle.report_writer.specs.declared.tree.ReportTree.{ReportTree}
use Rattle.matcher_table.specs.Tables.{SlotTable}
use Rattle.held_slots.specs.Holdings.{AreLive}
use Rattle.client_engine.specs.Handed.{BookOfStates}
use Rattle.client_engine.specs.InstanceStands.{Running, Logs, AsksAtMost, Reports}
use Rattle.client_engine.specs.declared.request.ReportRequest.{ReportRequest}
use Rattle.hub_core.specs.declared.live_instance.LiveInstance.{LiveInstance}
use Rattle.hub_core.specs.LiveQuestions.{AwakeAsks, LiveAsks}
use Rattle.hub_core.specs.LoggedFrames.{LoggedFrame}
use Rattle.hub_core.specs.SharedTable.{HasSameSlots}
use Rattle.hub_core.specs.Sleeping.{WakesUp, ReportsAwake}
use Rattle.hub_core.specs.SlotLogs.{results_for, IsTaken, IsShown}
use Rattle.hub_core.proofs.EvaluationLemmas.{same_twice}

module _ (logged : LoggedFrame) (old awake : LiveInstance) (same : HasSameSlots old awake)
    (wakes : WakesUp logged.shown.before old.carried.instance awake.carried.instance) where
  -- the results of its slots are what they were
  same_results : results_for logged.table logged.shown.frame awake.slots
      ≡ results_for logged.table logged.shown.frame old.slots
  same_results = ap (results_for logged.table logged.shown.frame) same.slots

  -- it took the frame
  pub woken_shown : (new : LiveInstance) → IsTaken logged awake new → IsShown logged old new
  woken_shown new taken =
      let logs : Logs awake.carried.instance logged.shown.frame
      (results_for logged.table logged.shown.frame old.slots) logged.shown.book new.carried.instance =
      subst (λ (truths : List Bool). Logs awake.carried.instance logged.shown.frame truths logged.shown.book
      new.carried.instance) same_results taken.logs in
      record {
        logs = λ history frame asleep in_time view shown_is book_is.
            logs history frame (wakes history asleep) in_time view shown_is book_is;
        same = same_twice old awake new same taken.same;
      }

  -- it asks no more than it may
  pub woken_asks : (from to : ℕ) → AwakeAsks logged awake from to → LiveAsks logged old from to
  woken_asks from to asks history frame asleep in_time view shown_is book_is =
      subst (λ (truths : List Bool). AsksAtMost awake.carried.instance logged.shown.frame truths logged.shown.book
      from to) same_results asks
      history frame (wakes history asleep) in_time view shown_is book_is

-- it reported
pub woken_reports : (before : Moment) (old awake new : Running) (request : ReportRequest) (book : BookOfStates)
    (tree : ReportTree) → WakesUp before old awake → Reports awake request book new tree
    → ReportsAwake before old request book new tree
woken_reports before old awake new request book tree wakes reports history asleep now =
    reports history (wakes history asleep) now

-- its slots are live as before
pub same_live : (table : SlotTable) (old new : LiveInstance) → HasSameSlots old new → AreLive table old.slots
    → AreLive table new.slots
same_live table old new same live = subst (AreLive table) (sym same.slots) live
