-- What a frame of the log brings to each metric, and a metric that takes it.
use Rattle.std.specs.Prelude.{◌≡◌, Bool, List}
use Rattle.config_links.specs.declared.linked.LMetric.{LMetric}
use Rattle.metric_meaning.specs.Histories.{Step, Installation}
use Rattle.metric_meaning.specs.Arrivals.{is_active_in}
use Rattle.metric_meaning.specs.Scenes.{Scene}
use Rattle.session_frames.specs.FrameReading.{log_time}
use Rattle.client_engine.specs.Handed.{Handed, IsOfScene, handed}
use Rattle.known_conditions.specs.Known.{Known}
use Rattle.client_engine.specs.NextSteps.{TakesFrame, TakesWhile}
use Rattle.known_conditions.specs.Known.{logged_step}
use Rattle.client_engine.specs.declared.brought.Brought.{Brought}
use Rattle.client_engine.specs.declared.brought.Taker.{Taker}

-- what is handed to a metric, where predicates know this
abbrev pub handed_with : Known → Brought → Handed
handed_with known brought = handed known brought.matchers.now brought.states.now brought.book.now

-- the step of what is brought
abbrev pub brought_step : Brought → Step
brought_step brought = logged_step brought.frame.now brought.matched.now

-- this is so in the scene in which the frame is brought, whatever it is, where predicates know this and the metric is
-- active or isn't, as is said
abbrev pub WhereActive : Bool → LMetric → Known → Brought → (Scene → Type 0) → Type 0
WhereActive active metric known brought next =
    (scene : Scene) → IsOfScene (handed_with known brought) scene
    → active ≡ is_active_in scene metric (log_time brought.frame.now) → next scene

-- whatever steps the old one stood for, the new one stands for those and the frame that is brought, where predicates
-- know this
abbrev pub TakesBrought : {A : Type 0} → (Installation → List Step → A → Type 0) → Known → Brought → A → A → Type 0
TakesBrought stands known brought old new =
    TakesFrame stands (handed_with known brought) brought.frame.now brought.matched.now old new

-- the same, where a metric is active at the frame or isn't, as is said
abbrev pub TakesBroughtWhile : {A : Type 0} → (Installation → List Step → A → Type 0) → Bool → LMetric → Known → Brought
    → A → A → Type 0
TakesBroughtWhile stands active metric known brought old new =
    TakesWhile stands active metric (handed_with known brought) brought.frame.now brought.matched.now old new

-- the same of the lane of the metric that takes it, by what lanes stand for
abbrev pub LaneTakes : {A : Type 0} → (LMetric → Installation → List Step → A → Type 0) → Taker → Known → Brought
    → A → A → Type 0
LaneTakes along taker known brought old new =
    TakesBroughtWhile (along taker.metric.now) taker.is_active taker.metric.now known brought old new

-- the same of a lane that takes frames whether or not its metric is active, by what lanes stand for
abbrev pub LaneLogs : {A : Type 0} → (LMetric → Installation → List Step → A → Type 0) → LMetric → Known → Brought
    → A → A → Type 0
LaneLogs along metric known brought old new = TakesBrought (along metric) known brought old new
