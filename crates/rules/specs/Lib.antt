pub mod Formula
pub mod Meaning
pub mod Entries
pub mod Words
pub mod Tables
pub mod Low
pub mod inside
