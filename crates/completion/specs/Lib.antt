-- What completing promises, and what its functions promise each other.
pub mod Records
pub mod Lines
pub mod Growths
pub mod PartSets
pub mod Closed
pub mod Whole
