-- What the search promises, and what its functions promise each other.
pub mod Graph
pub mod Pairs
pub mod Rows
pub mod Search
