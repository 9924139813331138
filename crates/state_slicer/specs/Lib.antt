pub mod StateTables
pub mod StateBooks
pub mod StateItems
pub mod Slices
pub use Rattle.book_meaning.specs.BookLimits
pub use Rattle.book_meaning.specs.Snapshots
pub use Rattle.book_meaning.specs.States
