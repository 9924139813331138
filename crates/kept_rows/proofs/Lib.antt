pub mod KeptRowsLemmas
pub mod KeptItemsLemmas
mod Worked
