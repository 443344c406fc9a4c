pub mod Decimals
pub mod inside
