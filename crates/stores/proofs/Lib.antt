pub mod Listing
pub mod Keeping
pub mod Law
mod Rowing
