pub mod Gates
pub mod Passing
pub mod Unsized
pub mod Words
