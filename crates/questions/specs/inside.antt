pub mod LinesRead
pub mod Questions
