pub mod MatcherTruths
pub use Rattle.matcher_eval.specs.AtomTests
pub use Rattle.matcher_eval.specs.Combined
pub use Rattle.link_graph.specs.Links
pub use Rattle.link_graph.specs.Unrolling
