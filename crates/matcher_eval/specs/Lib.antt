pub mod AtomTests
pub mod Combined
pub mod Contents
pub mod Parts
pub mod Questions
pub mod ValueTests
