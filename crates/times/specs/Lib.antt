pub mod Refusals
pub mod Ranges
pub mod Expiry
pub mod Laws
