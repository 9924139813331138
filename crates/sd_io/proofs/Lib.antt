pub mod BufferedLemmas
pub mod CausesLemmas
pub mod PutLemmas
pub mod MemLemmas
pub mod FrontLemmas
