pub mod Filling
pub mod Driven
pub mod Clearing
