-- The laws behind judging and the questions on a sheet.
pub mod Letters
pub mod Reaching
pub mod Searching
pub mod Worlds
