-- What files of records are, and what reading them gives.
pub mod Faults
pub mod Books
pub mod Reading
pub mod Rules
pub mod Groups
pub mod Opened
