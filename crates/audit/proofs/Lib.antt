-- What is read off the lines that an audit writes.
pub mod Claims
pub mod Lines
pub mod Saying
