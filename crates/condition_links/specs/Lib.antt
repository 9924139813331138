pub mod ThreeValues
pub mod Conditions
pub mod LinkBinds
pub mod SeenTruths
pub mod FoundTruths
