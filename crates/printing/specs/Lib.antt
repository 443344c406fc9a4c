pub mod Fields
pub mod Placed
pub mod inside
