-- What a metric is handed with a frame of the log, and what it stands for.
use Rattle.std.specs.Prelude.{◌≡◌, ℕ, ℤ, List}
use Rattle.atom_record.specs.declared.log.LogFrame.{LogFrame}
use Rattle.atom_record.specs.declared.value.Leaf.{Leaf}
use Rattle.dim_table.specs.Table.{Table}
use Rattle.config_links.specs.declared.linked.LMatcher.{LMatcher}
use Rattle.config_links.specs.declared.linked.LState.{LState}
use Rattle.state_slicer.specs.StateBooks.{StateBookStandsFor}
use Rattle.metric_meaning.specs.Scenes.{Scene}
use Rattle.known_conditions.specs.Known.{Known}

-- a book of states, as a contract sees it
abbrev pub BookOfStates : Type 0
BookOfStates = Table ℕ (Table (List Leaf) ℤ)

-- this is so of the log that the book stands for, whatever it is
abbrev pub OnLog : BookOfStates → (List LogFrame → Type 0) → Type 0
OnLog book next = (log : List LogFrame) → StateBookStandsFor book log → next log

-- Predicates with what they know, the matchers and the states of the configuration, and the book of states, each after
-- the frame.
pub record Handed : Type 0 where
  pub known : Known
  pub matchers : List LMatcher
  pub states : List LState
  pub book : BookOfStates

-- predicates that know this, the matchers and the states of a configuration, and a book of states
abbrev pub handed : Known → List LMatcher → List LState → BookOfStates → Handed
handed known matchers states book =
    record { known = known; matchers = matchers; states = states; book = book }

-- what is handed is what is found in the scene
pub record IsOfScene (given : Handed) (scene : Scene) : Type 0 where
  pub predicates : given.known.predicates ≡ scene.linked.predicates
  pub tables : given.known.tables ≡ scene.tables
  pub matchers : given.matchers ≡ scene.linked.matchers
  pub states : given.states ≡ scene.linked.states
  pub book : StateBookStandsFor given.book scene.log
