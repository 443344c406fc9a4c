pub mod Digits
pub mod Standing
pub mod Reading
