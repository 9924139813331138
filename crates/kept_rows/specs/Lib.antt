pub mod KeptRows
pub mod KeptItems
pub use Rattle.bucket_meaning.specs.Kept
