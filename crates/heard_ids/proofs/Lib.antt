mod HeededLemmas
pub mod HearingLaws
mod IdleLemmas
mod Worked
