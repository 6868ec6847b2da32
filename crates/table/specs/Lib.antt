pub mod Chain
pub mod Meaning
pub mod Edits
pub mod Calls
