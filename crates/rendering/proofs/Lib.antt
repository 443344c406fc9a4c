pub mod Lines
pub mod Answering
pub mod Determined
pub mod Reading
