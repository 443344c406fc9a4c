pub mod Finds
pub mod ListFinds
pub mod ListRoots
pub mod Meets
pub mod PartPrices
pub mod PlainFinds
pub mod Sums
