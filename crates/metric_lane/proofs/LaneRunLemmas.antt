-- A lane is caught up with a run of frames that ask nothing by the one frame that stands for them, for callers.
use Rattle.std.proofs.Common.{◌≡◌, ℕ, true, ◌<◌, ◌≤◌, List, [], ◌∷◌, ◌++◌, map, sym, ap, subst, ◌∙◌, append_assoc, append-nil}
use Rattle.std.specs.List.{list_any}
use Rattle.bucket_meaning.specs.Limits.{time_limit}
use Rattle.bucket_meaning.specs.Ends.{Moment, crosses}
use Rattle.bucket_clock.specs.Clock.{Saw, moments_told, boundaries, boundaries_at, last_time}
use Rattle.metric_producer.specs.Calls.{Call, Demands, standing_of}
use Rattle.metric_producer.specs.Rules.{AreAdmitted, AreTold}
use Rattle.metric_producer.specs.Joining.{Joins}
use Rattle.metric_producer.specs.LaneCalls.{LaneStep, Logged, told_by, crossing, crossing_of, AreTimely, last_at, last_of}
use Rattle.metric_producer.specs.OpeningCalls.{calls_with}
use Rattle.metric_producer.specs.Collecting.{Law, demands_of}
use Rattle.metric_producer.specs.declared.row.Row.{Row}
use Rattle.metric_producer.proofs.RuleLemmas.{MayComeAll, admitted}
use Rattle.metric_producer.proofs.LaneReach.{told_by-frame}
use Rattle.metric_producer.proofs.LaneCrossing.{IsAlong, crossing_goes}
use Rattle.metric_producer.proofs.LaneCallsLemmas.{calls_with-push}
use Rattle.metric_producer.proofs.OpeningLemmas.{all_along_opened}
use Rattle.metric_lane.specs.LaneStands.{LaneHas, GetsFrame}
use Rattle.metric_lane.specs.LaneJoining.{StandsForRun, crossings_of, steps_of_run, moments_of, AskNone, LogsRun}
use Rattle.metric_lane.specs.declared.lane.Lane.{Lane}
use Rattle.metric_lane.proofs.LaneStepsLemmas.{may_cross}
use Rattle.metric_lane.proofs.JoinedEnds.{ends_none}
use Rattle.metric_lane.proofs.LaneJoiningLemmas.{any_stands, catches_up}

module _ {News : Type 0} where
  -- timely steps, and timely ones after them
  timely_split : (last : ℕ) (steps more : List (LaneStep News)) → AreTimely last (steps ++ more)
      → AreTimely last steps × AreTimely (last_of last steps) more
  timely_split last [] more timely = (tt, timely)
  timely_split last (step ∷ steps) more timely =
      let rest = timely_split (last_at last step) steps more timely.1 in ((timely.0, rest.0), rest.1)

  -- what a run tells the clock
  told_run : (steps : List (LaneStep News)) (run : List (Moment × News))
      → told_by steps ++ map Saw (moments_of run) ≡ told_by (steps ++ steps_of_run run)
  told_run steps [] = append-nil (told_by steps) ∙ ap told_by (sym (append-nil steps))
  told_run steps (frame ∷ run) =
      let step : LaneStep News = Logged frame.0 frame.1 in
      sym (append_assoc (told_by steps) (Saw frame.0 ∷ []) (map Saw (moments_of run)))
      ∙ ap (λ told. told ++ map Saw (moments_of run)) (sym (told_by-frame steps frame.0 frame.1))
      ∙ told_run (steps ++ step ∷ []) run
      ∙ ap told_by (append_assoc steps (step ∷ []) (steps_of_run run))

module _ {Event After : Type 0} (demands : Demands Event After) where
  -- a crossing tells nothing
  crossing_told : (before : List (Call Event After)) (start size : ℕ) (ends : List ℕ)
      → AreTold demands before (crossing_of start size ends)
  crossing_told before start size [] = tt
  crossing_told before start size (first ∷ others) = (tt, tt)

  module _ {News : Type 0} (asks : List (LaneStep News) → Moment → News → List (Call Event After))
      (opening : List (Call Event After)) where
    -- the calls of a run that asks nothing are what it crosses
    calls_run : (steps : List (LaneStep News)) (run : List (Moment × News)) → AskNone asks steps run
        → calls_with demands asks opening steps
        ++ crossings_of demands.base demands.size (told_by steps) (moments_of run)
        ≡ calls_with demands asks opening (steps ++ steps_of_run run)
    calls_run steps [] none =
        append-nil (calls_with demands asks opening steps)
        ∙ ap (calls_with demands asks opening) (sym (append-nil steps))
    calls_run steps (frame ∷ run) none =
        let step : LaneStep News = Logged frame.0 frame.1 in
        let calls = calls_with demands asks opening steps in
        let crossed : List (Call Event After) = crossing demands.base demands.size (told_by steps) frame.0 in
        let own = asks steps frame.0 frame.1 in
        let told = told_by steps ++ Saw frame.0 ∷ [] in
        let later : List (Call Event After) = crossings_of demands.base demands.size told (moments_of run) in
        sym (append_assoc calls crossed later)
        ∙ ap (λ l. (calls ++ l) ++ later) (sym (append-nil crossed) ∙ ap (λ l. crossed ++ l) (sym none.0))
        ∙ ap (λ l. l ++ later) (calls_with-push demands asks opening steps step)
        ∙ ap (λ t. calls_with demands asks opening (steps ++ step ∷ [])
        ++ crossings_of demands.base demands.size t (moments_of run)) (sym (told_by-frame steps frame.0 frame.1))
        ∙ calls_run (steps ++ step ∷ []) run none.1
        ∙ ap (calls_with demands asks opening) (append_assoc steps (step ∷ []) (steps_of_run run))

    -- what a frame crosses that stands for a run after these steps comes in order
    crossing_comes : (steps : List (LaneStep News)) (last : ℕ) (moment : Moment) (run : List (Moment × News))
        → IsAlong demands steps last (standing_of demands (calls_with demands asks opening steps))
        → StandsForRun demands.base (moments_told (told_by steps)) (moments_of run) moment
        → last ≤ moment.at → moment.at < time_limit
        → MayComeAll demands (standing_of demands (calls_with demands asks opening steps))
        (crossing demands.base demands.size (told_by steps) moment)
    crossing_comes steps last moment [] along stands later fits =
        let came = moments_told (told_by steps) in
        let standing = standing_of demands (calls_with demands asks opening steps) in
        subst (λ ends. MayComeAll demands standing
        (crossing_of (last_time demands.base (boundaries demands.base demands.size (told_by steps))) demands.size ends))
        (sym (ends_none demands.base demands.size came moment
        (λ end after is. subst (λ l. list_any (λ earlier. crosses earlier end) l ≡ true) (append-nil came)
        (any_stands demands.base came [] moment end stands after is)))) tt
    crossing_comes steps last moment (frame ∷ run) along stands later fits =
        let goes = crossing_goes demands steps last (standing_of demands (calls_with demands asks opening steps)) along
        moment frame.1 later fits in
        goes.may

    -- and is admitted
    crossing_admitted : (steps : List (LaneStep News)) (last : ℕ) (moment : Moment) (run : List (Moment × News))
        → IsAlong demands steps last (standing_of demands (calls_with demands asks opening steps))
        → StandsForRun demands.base (moments_told (told_by steps)) (moments_of run) moment
        → last ≤ moment.at → moment.at < time_limit
        → AreAdmitted demands (calls_with demands asks opening steps)
        (crossing demands.base demands.size (told_by steps) moment)
    crossing_admitted steps last moment run along stands later fits =
        let calls = calls_with demands asks opening steps in
        let told = told_by steps in
        admitted demands calls (crossing demands.base demands.size told moment)
        (crossing_comes steps last moment run along stands later fits)
        (crossing_told calls (last_time demands.base (boundaries demands.base demands.size told)) demands.size
        (boundaries_at demands.base demands.size told (Saw moment)))

module _ {P Params Event After X K C Value : Type 0} (law : Law P Params Event After X K C (Row Value))
    (joins : Joins law) {News : Type 0} (asks : List (LaneStep News) → Moment → News → List (Call Event After)) where
  -- a lane that gets the one frame that stands for a run is the lane after the run
  pub run_logs : (old new : Lane P Event After Value) (moment : Moment) → GetsFrame law old new moment
      → LogsRun law asks old new moment
  run_logs old new moment gets params opening steps run opens has stands later in_time none fits timely well =
      let demands = demands_of law params in
      let told = told_by steps in
      let calls = calls_with demands asks opening steps in
      let parts = timely_split demands.base steps (steps_of_run run) timely in
      let last = last_of demands.base steps in
      let along = all_along_opened demands fits opening opens asks steps parts.0 well in
      let may = may_cross demands steps last (standing_of demands calls) along old.clock moment.at has.clock later
      in_time in
      let crossed = gets params told calls has may
      (crossing_admitted demands asks opening steps last moment run along stands later in_time) in
      let caught = catches_up law joins new params told calls moment (moments_of run) stands crossed in
      subst (λ t. LaneHas law new params t (calls_with demands asks opening (steps ++ steps_of_run run)))
      (told_run steps run)
      (subst (LaneHas law new params (told ++ map Saw (moments_of run))) (calls_run demands asks opening steps run none)
      caught)
