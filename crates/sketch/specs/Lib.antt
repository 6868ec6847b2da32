pub mod Counters
pub mod Tables
pub mod Powers
pub mod Sketches
pub mod Laws
pub mod Openness
pub mod Meaning
