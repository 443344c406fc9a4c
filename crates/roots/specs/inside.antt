pub mod Rooted
pub mod Roots
