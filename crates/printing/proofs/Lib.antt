pub mod Determined
pub mod Fields
pub mod Placing
