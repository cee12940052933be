-- The laws of sets, and of the digits of a number below them.
mod Digits
pub mod Members
