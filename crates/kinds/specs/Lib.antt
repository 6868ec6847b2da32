pub mod Tags
pub mod Weights
pub mod Laws
pub mod Folding
pub mod Lanes
pub mod Words
pub mod Bytes
