-- What the questions of this crate ask.
pub mod Questions
