mod Worked
mod WritingLemmas
pub mod FrameLaws
mod BodyLemmas
mod ReaderLemmas
