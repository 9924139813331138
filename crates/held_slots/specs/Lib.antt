pub mod Holdings
pub mod HoldingSteps
pub use Rattle.matcher_table.specs.Slots
pub use Rattle.matcher_table.specs.Tables
pub use Rattle.matcher_table.specs.Trees
pub use Rattle.matcher_table.specs.TableFacts
pub use Rattle.matcher_table.specs.Contents
pub use Rattle.matcher_truths.specs.MatcherTruths
