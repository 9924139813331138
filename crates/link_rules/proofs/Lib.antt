pub mod LinkFaultLemmas
pub mod LimitLemmas
pub mod CycleLemmas
pub mod ResolveLemmas
