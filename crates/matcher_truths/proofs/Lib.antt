pub mod MatcherTruthsLemmas
