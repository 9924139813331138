pub mod PrintsLemmas
