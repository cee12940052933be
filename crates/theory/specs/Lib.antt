-- What the theory is stated with, and its theorems.
pub mod Legal
pub mod Tables
pub mod Paths
pub mod Theorems
pub mod Cases
