pub mod Below
pub mod Entries
pub mod Unrolls
pub mod Rows
pub mod Copied
pub mod Tested
pub mod Neighbours
pub mod Determined
