-- The laws behind completing.
pub mod Going
pub mod Growing
pub mod Renaming
pub mod Following
pub mod Keying
pub mod Running
pub mod Limits
pub mod Exactly
pub mod Weighing
pub mod Filling
pub mod Agreeing
pub mod Saying
