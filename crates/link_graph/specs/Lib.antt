pub mod Reaches
pub mod Links
pub mod Unrolling
pub mod Depth
pub mod Descent
pub mod Search
pub mod Within
pub mod Ids
