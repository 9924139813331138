pub mod BookLimits
pub mod Snapshots
pub mod States
pub use Rattle.bucket_meaning.specs.Guard
pub use Rattle.bucket_meaning.specs.Kept
