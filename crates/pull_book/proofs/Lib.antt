pub mod PullLemmas
pub mod PullItemsLemmas
