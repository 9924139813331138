pub mod Windows
pub mod Watches
pub mod WindowParts
pub mod WatchSteps
pub mod WatchItems
pub mod WatchItemLaws
