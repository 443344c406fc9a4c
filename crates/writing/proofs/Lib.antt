pub mod Words
pub mod Atoms
pub mod Leading
pub mod Underway
pub mod Planned
pub mod Determined
pub mod Behind
