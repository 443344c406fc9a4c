pub mod Determined
pub mod Standing
pub mod Walked
