-- Every run keeps the law.
mod Asking
mod Telling
mod Along
mod Keeping
pub mod Making
