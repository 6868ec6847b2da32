pub mod Views
pub mod Chain
pub mod Edits
pub mod Refusals
pub mod Meaning
pub mod Coming
pub mod Laws
