mod Worked
pub mod PlaceLemmas
pub mod ApartLemmas
