pub mod Entering
pub mod Rights
pub mod Wholes
pub mod Answers
pub mod Determined
