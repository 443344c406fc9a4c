pub mod Tests
pub mod Lengths
pub mod Views
pub mod Determined
pub mod Buffers
pub mod Bits
