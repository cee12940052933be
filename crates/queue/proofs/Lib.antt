pub mod Around
pub mod Calling
