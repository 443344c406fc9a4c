pub mod Readings
pub mod Said
pub mod Determined
