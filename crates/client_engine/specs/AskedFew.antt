-- How many questions a part of an instance asks: for private clauses.
use Rattle.std.specs.Prelude.{◌≡◌, ℕ, ◌+◌, ◌≤◌, ◌<◌, Bool, true, List, [], ◌∷◌, length, map, is_some, if◌then◌else◌}
use Rattle.atom_record.specs.declared.log.LogFrame.{LogFrame}
use Rattle.atom_record.specs.declared.log.LogFrame.TheVariants.{AtomAt}
use Rattle.config_links.specs.declared.linked.LMetric.{LMetric}
use Rattle.duration_metric.specs.InnerKeys.{DurationParams, DurationCall, inner_keys, told_truth}
use Rattle.metric_meaning.specs.Histories.{Step, Installation, truth_at}
use Rattle.client_engine.specs.Bringing.{handed_with}
use Rattle.known_conditions.specs.Known.{Known}
use Rattle.client_engine.specs.NextSteps.{MayLog}
use Rattle.client_engine.specs.Questions.{questions_of}
use Rattle.client_engine.specs.Staying.{truth_kept}
use Rattle.client_engine.specs.Tracks.{metric_in, AllStandFor}
use Rattle.client_engine.specs.declared.brought.Brought.{Brought}
use Rattle.client_engine.specs.declared.stays.Stays.{Stays}
use Rattle.client_engine.specs.declared.track.Track.{Track}

-- whatever steps it stood for, if the frame that is brought may come next, a counter rises by no more than the
-- questions of these metrics at it
abbrev pub AsksFew : {A : Type 0} → (Installation → List Step → A → Type 0) → List LMetric → Known → Brought → A → ℕ → ℕ
    → Type 0
AsksFew stands metrics known brought it old new =
    (installed : Installation) (steps : List Step) (frame : LogFrame) → stands installed steps it
    → MayLog installed steps (handed_with known brought) brought.frame.now frame brought.matched.now
    → new ≤ old + questions_of metrics installed steps brought.frame.now brought.matched.now

-- the same of a metric, by what its lane stands for
abbrev pub LaneAsksFew : {A : Type 0} → (LMetric → Installation → List Step → A → Type 0) → LMetric → Known → Brought
    → A → ℕ → ℕ → Type 0
LaneAsksFew along metric known brought lane old new = AsksFew (along metric) (metric ∷ []) known brought lane old new

-- the same of all metrics, by what their tracks stand for
abbrev pub AllAskFew : Known → Brought → List Track → ℕ → ℕ → Type 0
AllAskFew known brought tracks old new = AsksFew AllStandFor (map metric_in tracks) known brought tracks old new

-- what an atom may cost that a metric counts: one question
abbrev pub arrival_questions : LogFrame → List Bool → LMetric → ℕ
arrival_questions (AtomAt at atom) truths metric = if truth_at metric.what truths then 1 else 0
arrival_questions _ truths metric = 0

-- the truth of the inner key at a place stays, and was told
abbrev pub StaysAt : Stays → DurationParams → List DurationCall → ℕ → Type 0
StaysAt stays params calls place = is_some (truth_kept stays (told_truth params.spec calls place)) ≡ true

-- at most one question for the inner key at a place, and none where its truth stays
abbrev pub AsksOfPlace : {K : Type 0} → (K → DurationParams → List DurationCall → Type 0) → K → Stays → ℕ → ℕ → ℕ
    → Type 0
AsksOfPlace stands keys stays place old new =
    (new ≤ old + 1)
    × ((params : DurationParams) (calls : List DurationCall) → stands keys params calls
    → StaysAt stays params calls place → new ≤ old)

-- at most one question for each inner key, and one for all; none where the truth of each stays
abbrev pub AsksOfAll : {K : Type 0} → (K → DurationParams → List DurationCall → Type 0) → K → Stays → ℕ → ℕ → Type 0
AsksOfAll stands keys stays old new =
    (params : DurationParams) (calls : List DurationCall) → stands keys params calls
    → (new ≤ old + (1 + length (inner_keys params.spec calls)))
    × (((place : ℕ) → place < length (inner_keys params.spec calls) → StaysAt stays params calls place) → new ≤ old)
