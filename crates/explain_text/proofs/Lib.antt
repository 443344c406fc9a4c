pub mod Capped
pub mod Outputs
pub mod Determined
