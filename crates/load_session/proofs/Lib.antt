pub mod SessionLemmas
mod Worked
