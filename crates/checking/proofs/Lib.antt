pub mod Determined
pub mod Judging
pub mod Limits
pub mod Ruled
