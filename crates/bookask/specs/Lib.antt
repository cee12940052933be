-- What the program answers to a line.
pub mod Replies
