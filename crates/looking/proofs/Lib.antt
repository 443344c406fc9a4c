pub mod Limits
pub mod Looking
