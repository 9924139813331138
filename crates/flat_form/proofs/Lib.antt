pub mod FlatLaws
pub mod ItemReadingLaws
pub mod ItemRangeLaws
mod SpelledLaws
pub mod WeightLaws
pub mod VariantLaws
mod AddedLemmas
mod TagLemmas
mod FitsLemmas
