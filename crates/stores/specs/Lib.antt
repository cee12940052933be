pub mod Meaning
pub mod Tables
pub mod Rows
pub mod Piles
