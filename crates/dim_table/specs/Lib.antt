pub mod Table
pub mod Lent
pub mod TableItems
pub use Rattle.bucket_meaning.specs.Limits
pub use Rattle.bucket_meaning.specs.Guard
pub use Rattle.bucket_meaning.specs.Kept
