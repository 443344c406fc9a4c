pub mod Wrote
pub mod inside
