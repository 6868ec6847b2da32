pub mod Memory
pub mod Soundness
pub mod Items
pub mod Orderly
pub mod Outcomes
pub mod Promises
