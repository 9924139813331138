pub mod Counting
pub mod CountStands
pub mod CountItems
