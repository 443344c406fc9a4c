pub mod Meant
pub mod MeantPlain
