pub mod Stands
pub mod Cells
pub mod Meant
