pub mod Determined
pub mod Heights
