pub mod Memory
pub mod Masks
pub mod Chains
pub mod Soundness
pub mod Outcomes
pub mod Walks
