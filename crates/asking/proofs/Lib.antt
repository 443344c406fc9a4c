pub mod Accepting
pub mod Limits
pub mod Numbers
pub mod Ordered
pub mod Outcomes
