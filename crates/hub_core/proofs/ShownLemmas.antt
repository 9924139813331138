-- A report of what stands under a name.
use Rattle.bucket_meaning.specs.Ends.{Moment}
use Rattle.std.proofs.Common.{◌≡◌, ℕ, cond, List, Option, Some, None, sym, subst}
use Rattle.std.specs.Option.{MatchOption}
use Rattle.report_writer.specs.declared.tree.ReportTree.{ReportTree}
use Rattle.report_writer.specs.ReportSpelling.{report_message}
use Rattle.client_engine.specs.Handed.{BookOfStates}
use Rattle.client_engine.specs.declared.request.ReportRequest.{ReportRequest}
use Rattle.client_engine.specs.declared.live_id.LiveId.{LiveId}
use Rattle.hub_core.specs.declared.live_instance.LiveInstance.{LiveInstance}
use Rattle.hub_core.specs.Sleeping.{ReportsAwake}
use Rattle.hub_core.specs.Slots.{same_id, slot_at, ShowsAt, ReportsAt}

module _ (moment : Moment) (request : ReportRequest) (book : BookOfStates) (old new : List (LiveId × LiveInstance))
    (report : Option (List ℕ)) where
  -- it was found, and its next stands there
  pub shows : (live next : LiveInstance) (tree : ReportTree) → slot_at request.name old ≡ Some live
      → ReportsAwake moment live.carried.instance request book next.carried.instance tree
      → next.carried.config ≡ live.carried.config
      → ((other : LiveId) → slot_at other new
      ≡ cond (same_id request.name other) (Some next) (slot_at other old))
      → report ≡ Some (report_message tree)
      → ReportsAt moment request book old new report
  shows live next tree is steps config slots told =
      subst (λ found. MatchOption found ((new ≡ old) × (report ≡ None))
      (λ it. ShowsAt moment request book it old new report)) (sym is)
      (record { next = next; tree = tree; steps = steps; config = config; slots = slots; told = told })
