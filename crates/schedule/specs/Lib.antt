pub mod Limits
pub mod Figures
pub mod Tests
pub mod Lengths
pub mod Letters
pub mod Buffers
