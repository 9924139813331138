-- The books of a configuration that a command ended: with its last report nothing of it waits any more.
use Rattle.std.specs.Prelude.{◌≡◌, ℕ, ◌+◌, Bool, true, List, [], ◌∷◌, ◌++◌, length}
use Rattle.std.specs.List.{sum}
use Rattle.sd_base.specs.Outputs.{outputs}
use Rattle.config_links.specs.declared.linked.LMetric.{LMetric}
use Rattle.metric_meaning.specs.Histories.{Reported, Step, Installation}
use Rattle.metric_meaning.specs.Ways.{Way}
use Rattle.metric_meaning.specs.CountSteps.{count_way}
use Rattle.metric_meaning.specs.EventSteps.{event_way}
use Rattle.metric_meaning.specs.Balance.{told_drops, shown_by_reports, not_kept_by_reports, counted_keys, row_counted, row_gathered, event_atoms, row_events}

-- the steps of a configuration that a command ended after these: the last is the report with a cut that was its answer
abbrev pub ended_after : List Step → ℕ → List Step
ended_after steps clock = steps ++ record { at = clock; what = Reported true; truths = [] } ∷ []

-- how many were told as dropped by the reports among these steps
abbrev pub dropped_by_reports : {X K C R : Type 0} → Way X K C R → List Step → ℕ
dropped_by_reports way steps = sum (outputs (told_drops way) steps)

-- of counts: each key that arrived is in a count of its own that was shown, or in one that wasn't kept, or was told as
-- dropped; and those that were told so are those of the overflow rows, shown or not kept, where the metric gathers them
pub record EndedCountsBalance (installed : Installation) (metric : LMetric) (overflow : Bool) (steps : List Step)
    (clock : ℕ) : Type 0 where
  pub arrived :
      let way = count_way installed metric overflow in
      let ended = ended_after steps clock in
      length (counted_keys installed metric steps)
      ≡ shown_by_reports way row_counted ended + not_kept_by_reports way row_counted ended
      + dropped_by_reports way ended
  pub gathered : overflow ≡ true →
      let way = count_way installed metric overflow in
      let ended = ended_after steps clock in
      dropped_by_reports way ended
      ≡ shown_by_reports way row_gathered ended + not_kept_by_reports way row_gathered ended

-- of events: each atom that arrived was shown, or not kept, or told as dropped
abbrev pub EndedEventsBalance : Installation → LMetric → List Step → ℕ → Type 0
EndedEventsBalance installed metric steps clock =
    let way = event_way installed metric in
    let ended = ended_after steps clock in
    length (event_atoms installed metric steps)
    ≡ shown_by_reports way row_events ended + not_kept_by_reports way row_events ended + dropped_by_reports way ended
