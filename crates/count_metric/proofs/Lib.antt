mod CountWorked
pub mod TallyLemmas
pub mod CountLemmas
pub mod CountItemsLemmas
pub mod JoiningLemmas
