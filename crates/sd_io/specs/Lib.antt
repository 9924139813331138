pub mod States
pub mod Buffered
pub mod Causes
pub mod MemSource
pub mod MemSink
pub mod Streams
pub mod Fronts
