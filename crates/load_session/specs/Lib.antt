pub mod Numbers
pub mod Frames
pub mod Good
pub mod Steps
