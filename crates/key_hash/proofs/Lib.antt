pub mod WordLemmas
mod Worked
