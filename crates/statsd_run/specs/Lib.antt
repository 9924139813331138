pub mod Inputs
pub mod Program
