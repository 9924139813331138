pub mod PullBooks
pub mod PullItems
pub use Rattle.book_meaning.specs.BookLimits
pub use Rattle.book_meaning.specs.Snapshots
