pub mod Going
pub mod Keeping
pub mod Numbers
pub mod Splits
pub mod Keyed
