pub mod Demands
pub mod Fits
pub mod Tested
