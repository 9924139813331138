pub mod Known
pub mod Touchers
pub mod Lists
pub mod Marks
pub mod KeptPredicates
