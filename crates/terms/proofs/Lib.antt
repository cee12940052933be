pub mod Each
pub mod Features
pub mod Asking
