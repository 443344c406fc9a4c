pub mod Alike
pub mod DeterminedWrote
pub mod WritingOut
pub mod InWords
