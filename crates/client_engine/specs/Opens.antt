-- What metrics find when their configuration is installed.
use Rattle.std.specs.Prelude.{◌≡◌, ℕ, ◌<◌, List, [], All}
use Rattle.bucket_meaning.specs.Limits.{time_limit}
use Rattle.config_links.specs.declared.linked.LMetric.{LMetric}
use Rattle.pull_book.specs.PullBooks.{PullBookStandsFor}
use Rattle.metric_meaning.specs.Histories.{Step, Installation}
use Rattle.client_engine.specs.Finding.{MayAsk}
use Rattle.known_conditions.specs.Known.{Known, KnowsAfter}
use Rattle.client_engine.specs.SoundMetrics.{IsInstalledAt}
use Rattle.client_engine.specs.Watches.{CanBeWatched}
use Rattle.client_engine.specs.declared.opening.Opening.{Opening}

-- what is found is what was installed: its clock, its matchers, its alerts, its predicates, to which nothing has
-- happened yet, and a book of pulls for the log up to it
pub record IsOpeningOf (installed : Installation) (opening : Opening) (known : Known) : Type 0 where
  pub base : installed.base ≡ opening.base
  pub matchers : installed.linked.matchers ≡ opening.matchers.now
  pub alerts : installed.linked.alerts ≡ opening.alerts.now
  pub predicates : known.predicates ≡ installed.linked.predicates
  pub knows : KnowsAfter [] known
  pub pulls : PullBookStandsFor opening.pulls.now installed.opening

-- this stands for the metric at a place before any step, whatever was installed where this is found
abbrev pub StandsAtFirst : {A : Type 0} → (Installation → List Step → A → Type 0) → Opening → Known → ℕ → LMetric → A
    → Type 0
StandsAtFirst stands opening known place metric it =
    (installed : Installation) → IsOpeningOf installed opening known → IsInstalledAt installed.linked place metric
    → stands installed [] it

-- metrics can begin there: before the end of time, where each matcher may be asked and each alert can be watched
pub record CanOpen (opening : Opening) : Type 0 where
  pub in_time : opening.base < time_limit
  pub askable : All MayAsk opening.matchers.now
  pub watchable : All CanBeWatched opening.alerts.now
