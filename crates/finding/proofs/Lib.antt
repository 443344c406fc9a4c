pub mod DeterminedFound
pub mod DeterminedTold
pub mod Telling
pub mod Working
pub mod OneVerdict
