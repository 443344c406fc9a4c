pub mod Found
pub mod Told
pub mod Worked
pub mod inside
