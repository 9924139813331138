pub mod WireCauses
pub mod WireTypes
pub mod Spelling
pub mod Fields
pub mod WireReading
pub mod Grammar
